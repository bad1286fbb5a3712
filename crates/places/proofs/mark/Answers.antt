-- `places::mark` meets its contract: the marks up to `at` are like `ones`, nothing else is changed, and what is stored are words of 64 bits.
use Rattle.std.proofs.Common.{rules, arith, ◌≤◌, ◌<◌, ◌%◌}
use mir.Val.{Fits}
use mir.Syntax.{w64}
use Rattle.places.proofs.Slots.{whole_set, mark_turn, mark_none}
use Rattle.places.proofs.mark.Goals as goal

pub loop-at-init : goal.loop-at-init
loop-at-init c = (omega arith, omega arith, record { long = omega arith; small = λ k. (c.type_inv.marks k).fits }, mark_none _ _ _ _ (omega arith))

pub loop-at-preserved : goal.loop-at-preserved
loop-at-preserved c =
    let lo = c.loop-at.at % 64 in
    let hi = c.min-hi.result in
    let some : lo < hi = omega arith in
    let most : hi ≤ 64 = omega arith in
    let i = c.loop-at.invariant in
    let f : Fits w64 c.painted.result = search rules in
    (omega arith, omega arith, whole_set _ _ _ (omega arith) f.fits i.2, mark_turn _ _ _ _ _ _ _ i.2.long i.0 some most (omega arith) c.painted.ensures i.3)

pub returns : goal.returns
returns c =
    let i = c.loop-at.invariant in
    record { marked = record { inside = λ p a b. i.3.inside p a (omega arith); rest = λ p z a b. i.3.rest p z (omega arith) b }; whole = i.2 }
