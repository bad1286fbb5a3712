use Prim.Native.Nat.{◌-◌, ◌≤◌}
use Rattle.clashes.proofs.Clashing.{Agrees}
use Rattle.clashes.proofs.clash.Given as goal

abbrev pub invariant-loop-at : goal.invariant-loop-at
invariant-loop-at l = (l.initial.at ≤ l.at) × Agrees l.ring l.marks l.fn.reach.read l.fn.reach.held l.s l.piece.from l.piece.len l.piece.offset l.initial.at l.at

abbrev pub decreases-loop-at : goal.decreases-loop-at
decreases-loop-at l = l.to - l.at
