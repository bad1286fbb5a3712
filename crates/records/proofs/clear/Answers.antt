-- `records::clear` meets its contract: the numbers up to `at` are cleared, nothing else is changed, and what is stored are words of 64 bits.
use borrow.Author.Rules.{rules}
use native.Mathlib.Omega.{arith}
use mathlib.Core.Path.{subst}
use Prim.Native.Nat.{ℕ, ◌%◌, ◌≤◌, ◌<◌}
use mir.Val.{Fits}
use mir.Syntax.{w64}
use Rattle.records.specs.Parts.{Cleared}
use Rattle.ring.proofs.Bits.{without_is}
use Rattle.records.proofs.Ring.{whole_set, clear_turn, clear_none}
use Rattle.records.proofs.clear.Goals as goal

pub loop-at-init : goal.loop-at-init
loop-at-init c = (search rules, search rules, c.requires.3, clear_none _ _)

pub loop-at-preserved : goal.loop-at-preserved
loop-at-preserved c =
    let lo = c.loop-at.at % 64 in
    let hi = c.min-hi.result in
    let some : lo < hi = omega arith in
    let most : hi ≤ 64 = omega arith in
    let i = c.loop-at.invariant in
    let f : Fits w64 c.without.result = search rules in
    (omega arith, omega arith, whole_set _ _ _ (omega arith) f.fits i.2, clear_turn _ _ _ _ _ _ i.2.long i.0 some most (omega arith) (rw c.without.ensures (without_is _ lo hi some most)) i.3)

pub returns : goal.returns
returns c =
    let a = c.args in
    record { cleared = subst (λ (x : ℕ). Cleared a.words.now a.from x c.loop-at.words) (omega arith) c.loop-at.invariant.3; whole = c.loop-at.invariant.2 }
