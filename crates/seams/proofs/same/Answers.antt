-- `seams::same` meets its contract: `all` is 0 exactly where the first k bytes are the same.
use native.Mathlib.Omega.{arith}
use mathlib.Core.Path.{refl}
use borrow.Author.Tests.{eqb-true, eqb-false}
use Rattle.seams.proofs.Bytes.{same_more, more_same}
use Rattle.seams.proofs.same.Goals as goal

pub loop-k-init : goal.loop-k-init
loop-k-init c = (λ e k h. absurd (omega arith), λ f. refl)

pub loop-k-preserved : goal.loop-k-preserved
loop-k-preserved c =
    let l = c.loop-k in
    let a = c.args in
    (same_more a.a.now a.b.now a.i a.j _ _ l.invariant.0, more_same a.a.now a.b.now a.i a.j _ _ l.invariant.1)

pub returns : goal.returns
returns c =
    let l = c.loop-k in
    record { holds = λ e k h. l.invariant.0 (eqb-true _ 0 e) k (omega arith); fails = λ e f. eqb-false _ 0 e (l.invariant.1 (λ k h. f k (omega arith))) }
