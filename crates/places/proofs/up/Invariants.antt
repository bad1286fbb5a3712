use mathlib.Core.Path.{◌≡◌}
use Prim.Native.Nat.{ℕ, ◌-◌, ◌≤◌, ◌<◌, max}
use Rattle.ring.specs.Bits.{as_bit}
use Rattle.places.specs.Places.{mark_at}
use Rattle.places.proofs.up.Given as goal

abbrev pub invariant-loop-p : goal.invariant-loop-p
invariant-loop-p l = (l.at ≤ l.p) × (l.p ≤ max l.at l.to) × ((q : ℕ) → l.at ≤ q → q < l.p → mark_at l.marks q ≡ as_bit l.ones)

abbrev pub decreases-loop-p : goal.decreases-loop-p
decreases-loop-p l = l.to - l.p
