use mathlib.Core.Path.{◌≡◌}
use Prim.Native.Nat.{◌≤◌}
use Rattle.ring.specs.Bits.{alike}
use Rattle.ring.specs.Runs.{lowest}
use Rattle.ring.proofs.end_of.Given as goal

abbrev pub invariant-loop-end : goal.invariant-loop-end
invariant-loop-end l = (l.end ≤ l.initial.end) × (lowest (alike l.words l.came) l.initial.end ≡ lowest (alike l.words l.came) l.end)

abbrev pub decreases-loop-end : goal.decreases-loop-end
decreases-loop-end l = l.end
