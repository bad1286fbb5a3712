-- What is marked in a ring, by its bits.
-- Assumes nothing.
use Prim.Native.Nat.{ℕ, ◌+◌, ◌/◌, ◌%◌, ◌≤◌, ◌<◌}
use mathlib.Core.Path.{◌≡◌}
use mathlib.Core.Bool.{false}
use mathlib.Core.List.{List}
use native.Mathlib.Omega.{arith}
use lib.ListN.{get_or}
use lib.Dec.{eqb}
use borrow.Author.Tests.{lt-ltb, le-ltb, le-leb, lt-leb}
use Rattle.ring.specs.Bits.{bit_at, marked}
use Rattle.ring.proofs.Bits.{bit_lt}

-- a bit is 0 or 1
pub bit_at_lt : (ws : List ℕ) (m : ℕ) → bit_at ws m < 2
unfolding bit_at
bit_at_lt ws m = bit_lt (get_or ws (m / 64 % 128) 0) (m % 64)

pub not_zero : (ws : List ℕ) (m : ℕ) → (bit_at ws m ≡ 0 → ⊥) → bit_at ws m ≡ 1
not_zero ws m f = omega (arith, bit_at_lt ws m)

module _ (ws : List ℕ) (T m : ℕ) where
  pub marked_in : m < T → T ≤ m + 8192 → marked ws T m ≡ eqb (bit_at ws m) 1
  marked_in a b = simp (lt-ltb _ _ a, le-leb _ _ b)

  pub marked_above : T ≤ m → marked ws T m ≡ false
  marked_above a = simp (le-ltb _ _ a)

  pub marked_below : m + 8192 < T → marked ws T m ≡ false
  marked_below a = simp (lt-ltb m T (omega arith), lt-leb _ _ a)
