use Prim.Native.Nat.{◌-◌, ◌≤◌, max}
use Rattle.places.specs.Parts.{Whole, Marked}
use Rattle.places.proofs.mark.Given as goal

abbrev pub invariant-loop-at : goal.invariant-loop-at
invariant-loop-at l = (l.from ≤ l.at) × (l.at ≤ max l.from l.to) × Whole l.marks × Marked l.initial.marks l.from l.at l.ones l.marks

abbrev pub decreases-loop-at : goal.decreases-loop-at
decreases-loop-at l = l.to - l.at
