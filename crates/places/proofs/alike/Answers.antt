-- `places::alike` meets its contract, by the trailing zeros of the complement.
use native.Mathlib.Omega.{arith}
use Prim.Native.Nat.{◌-◌, ◌^◌}
use Rattle.places.proofs.Bits.{ones_from, zeros_from}
use Rattle.places.proofs.alike.Goals.{then-ones, else-ones}
use Rattle.places.proofs.alike.Goals as goal

pub returns : goal.returns
returns c =
    let a = c.args in
    elim c.if-ones.branch [
      | then-ones w ↦ rw (c.from.ensures, w.like-is, w.if-ones.true) (ones_from a.w a.b c.ranges.w.fits c.requires)
      | else-ones w ↦ rw (c.from.ensures, w.like-is, w.if-ones.false) (zeros_from a.w a.b _ c.ranges.w.fits (ones_from ((2 ^ 64 - 1) - a.w) a.b (omega arith) c.requires))
    ]
