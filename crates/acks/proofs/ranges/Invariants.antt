use Prim.Native.Nat.{ℕ, ◌+◌, ◌*◌}
use Rattle.ring.specs.Bits.{marked}
use Rattle.acks.proofs.Going.{Going}
use Rattle.acks.proofs.ranges.Given as goal

abbrev pub invariant-loop-i : goal.invariant-loop-i
invariant-loop-i l = (k : ℕ) × Going (marked l.seen.words l.seen.top) l.low l.initial.numbers l.numbers l.lowest (5 + 2 * l.i) k
