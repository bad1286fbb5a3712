-- The bits of a word with a part set or cleared, and how many of its bits from one on are alike, by trailing zeros.
-- Assumes nothing.
use Prim.Native.Nat.{ℕ, zero, suc, ◌+◌, ◌-◌, ◌/◌, ◌%◌, ◌^◌, ◌≤◌, ◌<◌}
use mathlib.Core.Path.{◌≡◌, refl, sym, ◌∙◌, ap}
use mathlib.Core.Bool.{true, false}
use native.Mathlib.Omega.{arith}
use native.Mathlib.Decide.{dec_le}
use native.Mathlib.Nat.{mod-lt, lt_of_le_of_lt}
use lib.Pow.{pow_pos, shr_le}
use lib.Count.{count_trailing_zeros, under, trailing_le}
use Rattle.ring.specs.Bits.{bit}
use Rattle.ring.specs.Parts.{Without}
use Rattle.ring.proofs.Bits.{bit_lt, bit_shift, bit_past}
use Rattle.ring.proofs.Leading.{bit_not}
use Rattle.places.specs.Parts.{Painted, Alike}

-- the complement, with the bits from lo up to hi cleared, and complemented again
pub painted_ones : (w lo hi r : ℕ) → w < 2 ^ 64 → r < 2 ^ 64 → hi ≤ 64 → lo ≤ hi → Without ((2 ^ 64 - 1) - w) lo hi r → Painted w lo hi true ((2 ^ 64 - 1) - r)
painted_ones w lo hi r h g l m k = record {
  inside = λ i a b. omega (arith, bit_not r g i (omega arith), k.out i a b);
  low = λ i a. omega (arith, bit_not r g i (omega arith), bit_not w h i (omega arith), k.low i a, bit_lt w i);
  high = λ i a b. omega (arith, bit_not r g i b, bit_not w h i b, k.high i a b, bit_lt w i);
}

pub painted_zeros : (w lo hi r : ℕ) → Without w lo hi r → Painted w lo hi false r
painted_zeros w lo hi r k = record { inside = k.out; low = k.low; high = k.high }

-- trailing zeros, bit by bit
bit_zeroth : (n : ℕ) → bit n 0 ≡ n % 2
unfolding bit
bit_zeroth n = omega arith

pub trail_zeros : (k n i : ℕ) → i < count_trailing_zeros k n → bit n i ≡ 0
unfolding count_trailing_zeros
trail_zeros zero n i h = absurd (omega arith)
trail_zeros (suc k) n i h = go (λ j. trail_zeros k (n / 2) j) (n % 2) i refl h
  where
    go : ((j : ℕ) → j < count_trailing_zeros k (n / 2) → bit (n / 2) j ≡ 0) → (d i : ℕ) → n % 2 ≡ d → i < under d (count_trailing_zeros k (n / 2)) → bit n i ≡ 0
    go f zero zero e l = bit_zeroth n ∙ e
    go f zero (suc i) e l = let s : suc i ≡ 1 + i = omega arith in ap (bit n) s ∙ bit_shift n 1 i ∙ f i (omega arith)
    go f (suc d) i e l = absurd (omega arith)

pub trail_one : (k n : ℕ) → count_trailing_zeros k n < k → bit n (count_trailing_zeros k n) ≡ 1
unfolding count_trailing_zeros
trail_one zero n h = absurd (omega arith)
trail_one (suc k) n h = go (λ l. trail_one k (n / 2) l) (n % 2) refl h
  where
    go : (count_trailing_zeros k (n / 2) < k → bit (n / 2) (count_trailing_zeros k (n / 2)) ≡ 1) → (d : ℕ) → n % 2 ≡ d → under d (count_trailing_zeros k (n / 2)) < suc k
        → bit n (under d (count_trailing_zeros k (n / 2))) ≡ 1
    go f zero e l = let s : suc (count_trailing_zeros k (n / 2)) ≡ 1 + count_trailing_zeros k (n / 2) = omega arith in ap (bit n) s ∙ bit_shift n 1 _ ∙ f (omega arith)
    go f (suc d) e l = bit_zeroth n ∙ omega (arith, e, mod-lt n (pow_pos 1))

-- the ones of w from b on, by the trailing zeros of the complement of w shifted down
module _ (w b : ℕ) (fits : w < 2 ^ 64) (small : b < 64) where
  abbrev down : ℕ
  down = (2 ^ 64 - 1) - w / 2 ^ b

  down_bit : (i : ℕ) → i < 64 → bit down i ≡ 1 - bit w (b + i)
  down_bit i h = bit_not (w / 2 ^ b) (lt_of_le_of_lt (shr_le w b) fits) i h ∙ ap (λ (x : ℕ). 1 - x) (sym (bit_shift w b i))

  pub ones_from : Alike w b true (count_trailing_zeros 64 down)
  ones_from = record {
    within = go (dec_le (b + count_trailing_zeros 64 down) 64);
    all = λ i a h.
        let e : b + (i - b) ≡ i = omega arith in
        omega (arith, trail_zeros 64 down (i - b) (omega arith), down_bit (i - b) (omega (arith, trailing_le 64 down)), ap (bit w) e, bit_lt w i);
    stop = λ h e. omega (arith, trail_one 64 down (omega arith), down_bit (count_trailing_zeros 64 down) (omega arith), e);
  }
    where
      go : Dec (b + count_trailing_zeros 64 down ≤ 64) → b + count_trailing_zeros 64 down ≤ 64
      go (yes p) = p
      go (no p) =
          let e : b + (64 - b) ≡ 64 = omega arith in
          absurd (omega (arith, trail_zeros 64 down (64 - b) (omega arith), down_bit (64 - b) (omega (arith, trailing_le 64 down)), ap (bit w) e, bit_past w 64 64 fits (omega arith)))

-- and the zeros by the complement's ones
pub zeros_from : (w b r : ℕ) → w < 2 ^ 64 → Alike ((2 ^ 64 - 1) - w) b true r → Alike w b false r
zeros_from w b r h a = record {
  within = a.within;
  all = λ i l g. omega (arith, a.all i l g, bit_not w h i (omega (arith, a.within)), bit_lt w i);
  stop = λ l e. a.stop l (bit_not w h (b + r) l ∙ omega (arith, e));
}
