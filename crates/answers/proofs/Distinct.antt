-- One case is not another: `impossible cc` proves anything where two facts in scope say that one value was made by two constructors.
-- Assumes nothing.
use mathlib.Core.Path.{◌≡◌}
use Prim.Native.Nat.{ℕ}
use native.Mathlib.Omega.{arith}

-- the equation that `cc` proves from such facts
pub impossible {ℓ} : {G : Type ℓ} → ◌≡◌ {A = ℕ} 0 1 → G
impossible e = absurd (omega arith)
