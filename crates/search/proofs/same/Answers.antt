-- `search::same` meets its contract: the texts are the same if what is left of both from the place on is, and each turn takes one character off.
use mathlib.Core.Path.{sym, ◌∙◌}
use native.Mathlib.Omega.{arith}
use borrow.Author.Tests.{eq-eqb, ne_eqb}
use lib.ListN.{get_or}
use Rattle.search.specs.Words.{same_of}
use Rattle.text.proofs.Steps.{ended}
use Rattle.search.proofs.Search.{same_step, not_as_long}
use Rattle.search.proofs.same.Goals as goal

pub returns-then-s-word : goal.returns-then-s-word
returns-then-s-word c = let a = c.args in sym (not_as_long a.s.now a.word.now (λ e. omega (arith, e)))

pub returns-then-s-i : goal.returns-then-s-i
returns-then-s-i c =
    let a = c.args in
    rw (c.loop-i.invariant.left, same_step a.s.now a.word.now c.loop-i.i (omega arith) (omega arith), ne_eqb (get_or a.s.now c.loop-i.i 0) (get_or a.word.now c.loop-i.i 0) (λ e. omega (arith, e)))

pub loop-i-preserved : goal.loop-i-preserved
loop-i-preserved c =
    let a = c.args in
    record { long = c.loop-i.invariant.long; left = c.loop-i.invariant.left ∙ rw (same_step a.s.now a.word.now c.loop-i.i (omega arith) (omega arith), eq-eqb (get_or a.s.now c.loop-i.i 0) (get_or a.word.now c.loop-i.i 0) (omega arith)) }

pub returns : goal.returns
unfolding same_of
returns c =
    let a = c.args in
    rw (c.loop-i.invariant.left, ended a.s.now c.loop-i.i (omega arith), ended a.word.now c.loop-i.i (omega arith))
