use Prim.Native.Nat.{◌-◌, ◌≤◌}
use Rattle.records.specs.Parts.{Whole, Cleared}
use Rattle.records.proofs.clear.Given as goal

abbrev pub invariant-loop-at : goal.invariant-loop-at
invariant-loop-at l = (l.from ≤ l.at) × (l.at ≤ l.to) × Whole l.words × Cleared l.initial.words l.from l.at l.words

abbrev pub decreases-loop-at : goal.decreases-loop-at
decreases-loop-at l = l.to - l.at
