-- `places::painted` meets its contract: bits are set by clearing those of the complement.
use borrow.Author.Rules.{rules}
use native.Mathlib.Omega.{arith}
use mir.Val.{Fits}
use mir.Syntax.{w64}
use Rattle.ring.proofs.Bits.{without_is}
use Rattle.places.proofs.Bits.{painted_ones, painted_zeros}
use Rattle.places.proofs.painted.Goals as goal

pub returns-then-ones : goal.returns-then-ones
returns-then-ones c =
    let a = c.args in
    let f : Fits w64 c.without.result = search rules in
    rw c.if-ones.true (painted_ones a.w a.lo a.hi c.without.result c.ranges.w.fits f.fits (omega arith) (omega arith) (rw c.without.ensures (without_is _ a.lo a.hi c.requires.0 c.requires.1)))

pub returns-else-ones : goal.returns-else-ones
returns-else-ones c = let a = c.args in rw c.if-ones.false (painted_zeros a.w a.lo a.hi _ (rw c.without-else-ones.ensures (without_is _ a.lo a.hi c.requires.0 c.requires.1)))
