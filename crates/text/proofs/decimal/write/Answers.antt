-- `decimal::write` meets its contract: the digits that are left and those that are spelled make all of them, and when none are left the text is complete.
use mathlib.Core.Path.{◌≡◌, refl, sym, ◌∙◌}
use Prim.Native.Nat.{suc, ◌-◌}
use native.Mathlib.Omega.{arith}
use borrow.Author.Rules.{rules}
use lib.ListN.{take, drop, length-set}
use Rattle.text.specs.Decimal.{decimal_of}
use Rattle.text.proofs.Spelling.{a_place, fewer, turn, complete}
use Rattle.text.proofs.decimal.write.Goals as goal

pub loop-higher-init : goal.loop-higher-init
unfolding decimal_of
loop-higher-init c = (refl, omega arith, omega arith, refl)

pub overflow_sub-i : goal.overflow_sub-i
overflow_sub-i c = a_place c.loop-higher.higher c.loop-higher.i (omega arith) c.loop-higher.invariant.2

pub loop-higher-preserved : goal.loop-higher-preserved
loop-higher-preserved c =
    let l = c.loop-higher in
    let p = a_place l.higher l.i (omega arith) l.invariant.2 in
    let e : l.i ≡ suc (l.i - 1) = omega arith in
    (rw length-set l.invariant.0, search rules, fewer l.higher l.i (l.i - 1) e l.invariant.2, l.invariant.3 ∙ turn l.higher l.i (l.i - 1) e l.digits (omega arith) (omega arith))

pub returns : goal.returns
returns c =
    let a = c.args in
    let l = c.loop-higher in
    let e : take (20 - l.i) (drop l.i l.digits) ≡ decimal_of a.n = sym (l.invariant.3 ∙ complete l.digits l.higher l.i (omega arith) ∙ rw l.invariant.0) in
    rw e at c.bytes.ensures
