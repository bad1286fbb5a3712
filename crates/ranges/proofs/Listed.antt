-- Ranges and their list of numbers: ranges are read just where the numbers there fit, since each range asks of its two numbers what fitting asks.
-- Assumes nothing.
use mathlib.Core.Path.{◌≡◌, refl}
use mathlib.Core.Bool.{true, false, and-eq-true_iff}
use mathlib.Core.List.{List, [], ◌∷◌}
use Prim.Native.Nat.{ℕ, zero, suc, ◌+◌, ◌*◌, ◌-◌}
use native.Mathlib.Numerals.{add-one}
use native.Mathlib.Omega.{arith}
use borrow.Author.Tests.{le-leb, lt-leb}
use lib.Dec.{leb}
use lib.ListN.{length}
use Rattle.answers.proofs.Choice.{below_or_not}
use Rattle.answers.proofs.Distinct.{impossible}
use Rattle.wire.specs.Number.{number_at, with_number}
use Rattle.ranges.specs.Ranges.{range_at, ranges_at, with_ranges}
use Rattle.ranges.specs.Listed.{listed, fits}
use Rattle.ranges.proofs.Steps.{below_wrong, below_spans}
use Rattle.std.specs.Prelude.{Option, Some, None}

-- one number more
pub listed_step : (s : List ℕ) (at n : ℕ) {v next : ℕ} → number_at s at ≡ Some (v, next) → listed s at (n + 1) ≡ v ∷ listed s next n
unfolding listed
listed_step s at n e = rw (add-one, e)

-- the numbers of one range more
pub listed_range_step : (s : List ℕ) (at k : ℕ) → listed s at (2 * suc k) ≡ with_number (number_at s at) [] (λ gap p. gap ∷ with_number (number_at s p) [] (λ len next. len ∷ listed s next (2 * k)))
unfolding listed
listed_range_step s at k = let e : 2 * suc k ≡ suc (suc (2 * k)) = omega arith in rw e

-- one range: what holds below it decides
module _ (s : List ℕ) (k at low : ℕ) (below : (next least : ℕ) → fits least k (listed s next (2 * k)) ≡ with_ranges (ranges_at s k next least) false (λ n. true)) where
  abbrev Same : Type 0
  Same = fits low (suc k) (listed s at (2 * suc k)) ≡ with_ranges (ranges_at s (suc k) at low) false (λ n. true)

  both : (gap p len next : ℕ) → number_at s at ≡ Some (gap, p) → number_at s p ≡ Some (len, next) → Same
  unfolding fits ranges_at range_at
  both gap p len next e f =
      below_or_not low (gap + 2 + len)
      (λ h. rw (listed_range_step s at k, e, f, below_wrong low gap len next h, lt-leb (gap + 2 + len) low h))
      (λ h. rw (listed_range_step s at k, e, f, below_spans low gap len next h, le-leb (gap + 2 + len) low h)
      (let d : low - (gap + 2 + len) ≡ low - gap - 2 - len = omega arith in rw d (below next (low - gap - 2 - len))))

  one : (gap p : ℕ) → number_at s at ≡ Some (gap, p) → (y : Option (ℕ × ℕ)) → number_at s p ≡ y → Same
  unfolding fits ranges_at range_at
  one gap p e (Some (len, next)) f = both gap p len next e f
  one gap p e None f = rw (listed_range_step s at k, e, f)

  turn : (x : Option (ℕ × ℕ)) → number_at s at ≡ x → Same
  unfolding fits ranges_at range_at
  turn (Some (gap, p)) e = one gap p e (number_at s p) refl
  turn None e = rw (listed_range_step s at k, e)

-- whether the numbers fit is whether the ranges are read
fits_ranges : (s : List ℕ) (k at low : ℕ) → fits low k (listed s at (2 * k)) ≡ with_ranges (ranges_at s k at low) false (λ n. true)
unfolding fits listed ranges_at
fits_ranges s zero at low = refl
fits_ranges s (suc k) at low = turn s k at low (fits_ranges s k) (number_at s at) refl

pub read_fits : (s : List ℕ) (k at low : ℕ) {n : ℕ} → ranges_at s k at low ≡ Some n → fits low k (listed s at (2 * k)) ≡ true
read_fits s k at low e = rw (fits_ranges s k at low, e)

pub broken_unfit : (s : List ℕ) (k at low : ℕ) → ranges_at s k at low ≡ None → fits low k (listed s at (2 * k)) ≡ false
broken_unfit s k at low e = rw (fits_ranges s k at low, e)

pub fits_read : (s : List ℕ) (k at low : ℕ) → fits low k (listed s at (2 * k)) ≡ true → (n : ℕ) × (ranges_at s k at low ≡ Some n)
fits_read s k at low = rw (fits_ranges s k at low) (go (ranges_at s k at low))
  where
    go : (r : Option ℕ) → with_ranges r false (λ n. true) ≡ true → (n : ℕ) × (r ≡ Some n)
    go (Some n) e = (n, refl)
    go None e = impossible cc

-- numbers that fit are two for each range
pub fits_length : (low k : ℕ) (l : List ℕ) → fits low k l ≡ true → length l ≡ 2 * k
unfolding fits
fits_length low zero [] e = refl
fits_length low zero (v ∷ l) e = impossible cc
fits_length low (suc k) [] e = impossible cc
fits_length low (suc k) (gap ∷ []) e = impossible cc
fits_length low (suc k) (gap ∷ len ∷ l) e =
    let b = (and-eq-true_iff (leb (gap + 2 + len) low) (fits (low - (gap + 2 + len)) k l)).0 e in
    omega (arith, fits_length (low - (gap + 2 + len)) k l b.1)
