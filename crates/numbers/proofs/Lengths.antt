-- The rows of `length_after` and the cases of `length_of`, each under the tests that lead there.
-- Assumes nothing.
use mathlib.Core.Path.{◌≡◌, refl}
use mathlib.Core.Bool.{false}
use Prim.Native.Nat.{ℕ, zero, ◌+◌, ◌^◌, ◌≤◌, ◌<◌}
use native.Mathlib.Omega.{arith}
use borrow.Author.Tests.{lt-ltb, le-ltb, le-leb, lt-leb}
use lib.IntN.{ℤ, pos, negsuc, nat_abs}
use lib.Signed.{lt_z}
use Rattle.answers.proofs.Distinct.{impossible}
use Rattle.numbers.specs.declared.Size.TheVariants.{One, Two, Three, Four}
use Rattle.numbers.specs.Numbers.{none, twice_of, length_after, length_of}
use Rattle.std.specs.Prelude.{Ok}

module _ (pn next : ℕ) where
  pub above_ceiling : 2 ^ 62 ≤ pn → length_after pn next ≡ none
  unfolding length_after
  above_ceiling h = simp (le-leb _ _ h)

  module _ (low : pn < 2 ^ 62) where
    pub not_below : pn < next → length_after pn next ≡ none
    unfolding length_after
    not_below h = simp (lt-leb _ _ low, lt-ltb _ _ h)

    module _ (below : next ≤ pn) where
      pub one : twice_of pn next ≤ 256 → length_after pn next ≡ Ok One
      unfolding length_after
      one h = simp (lt-leb _ _ low, le-ltb _ _ below, le-leb _ _ h)

      pub two : 256 < twice_of pn next → twice_of pn next ≤ 65536 → length_after pn next ≡ Ok Two
      unfolding length_after
      two l h = simp (lt-leb _ _ low, le-ltb _ _ below, lt-leb _ _ l, le-leb _ _ h)

      pub three : 65536 < twice_of pn next → twice_of pn next ≤ 16777216 → length_after pn next ≡ Ok Three
      unfolding length_after
      three l h = simp (lt-leb _ _ low, le-ltb _ _ below, lt-leb (twice_of pn next) 256 (omega arith), lt-leb _ _ l, le-leb _ _ h)

      pub four : 16777216 < twice_of pn next → twice_of pn next ≤ 4294967296 → length_after pn next ≡ Ok Four
      unfolding length_after
      four l h =
          simp (lt-leb _ _ low, le-ltb _ _ below, lt-leb (twice_of pn next) 256 (omega arith), lt-leb (twice_of pn next) 65536 (omega arith), lt-leb _ _ l, le-leb _ _ h)

      pub too_far : 4294967296 < twice_of pn next → length_after pn next ≡ none
      unfolding length_after
      too_far l =
          simp (lt-leb _ _ low, le-ltb _ _ below, lt-leb (twice_of pn next) 256 (omega arith), lt-leb (twice_of pn next) 65536 (omega arith), lt-leb (twice_of pn next) 16777216 (omega arith), lt-leb _ _ l)

-- the acknowledged number where it is not below 0
pub from_zero : (pn : ℕ) (z : ℤ) → lt_z z (pos zero) ≡ false → length_of pn z ≡ length_after pn (nat_abs z + 1)
unfolding length_of
from_zero pn (pos a) e = refl
from_zero pn (negsuc k) e = impossible cc
