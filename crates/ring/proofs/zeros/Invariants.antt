use mathlib.Core.Path.{◌≡◌}
use Prim.Native.Nat.{ℕ, ◌+◌, ◌*◌, ◌≤◌, ◌<◌}
use Rattle.ring.specs.Bits.{bit_at}
use Rattle.ring.specs.Parts.{Blank}
use Rattle.ring.proofs.zeros.Given as goal

abbrev pub invariant-loop-w : goal.invariant-loop-w
invariant-loop-w l = (Blank l.all 0 → (m : ℕ) → 64 * l.from ≤ m → m < 64 * (l.from + l.w-index) → m < 8192 → bit_at l.words m ≡ 0)
    × (((m : ℕ) → 64 * l.from ≤ m → m < 8192 → bit_at l.words m ≡ 0) → Blank l.all 0)
