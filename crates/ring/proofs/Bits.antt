-- The bits of a word: of its low and its high part, of a word with a part cleared and of one with a bit set.
-- Assumes nothing.
use Prim.Native.Nat.{ℕ, suc, ◌+◌, ◌-◌, ◌*◌, ◌/◌, ◌%◌, ◌^◌, ◌≤◌, ◌<◌, max}
use mathlib.Core.Path.{◌≡◌, sym, ◌∙◌, ap}
use native.Mathlib.Omega.{arith}
use native.Mathlib.Decide.{dec_le}
use native.Mathlib.Nat.{zero-add, zero-div, mod-lt, mod-eq_of_lt, div-eq_of_lt, div-mul-le_self, mul-add-mod_self_right, lt_of_le_of_lt, add-sub_of_le, one-mul, div_self, add-zero, sub-add_cancel, mod-le, div-add-mod', div-eq_of_lt-le}
use lib.Pow.{pow_pos, pow_mono, pow-lt, shr-shr, field, mod-mod-pow, high, low}
use lib.Count.{leading_top}
use borrow.Author.Tests.{lt-ltb, le-leb}
use lib.Bits.{bit_or, or_shr, or_step}
use Rattle.ring.specs.Bits.{bit}
use Rattle.ring.specs.Parts.{without, Without, Put}

pub bit_lt : (w i : ℕ) → bit w i < 2
unfolding bit
bit_lt w i = mod-lt (w / 2 ^ i) (omega arith)

pub bit_zero : (i : ℕ) → bit 0 i ≡ 0
unfolding bit
bit_zero i = ap (λ (x : ℕ). x % 2) (zero-div (2 ^ i))

-- the bits from k on are those of the word shifted down
pub bit_shift : (w k j : ℕ) → bit w (k + j) ≡ bit (w / 2 ^ k) j
unfolding bit
bit_shift w k j = ap (λ (x : ℕ). x % 2) (sym (shr-shr w k j))

-- the bits below k are those of the word's low part
pub bit_low : (w k i : ℕ) → i < k → bit (w % 2 ^ k) i ≡ bit w i
unfolding bit
bit_low w k i h =
    let e : (k - (i + 1) + 1) + i ≡ k = omega arith in
    ap (λ (x : ℕ). w % 2 ^ x / 2 ^ i % 2) (sym e) ∙ ap (λ (x : ℕ). x % 2) (field w (k - (i + 1) + 1) i) ∙ mod-mod-pow (w / 2 ^ i) (k - (i + 1)) 1

-- a word of k bits has none from k on
pub bit_past : (w k i : ℕ) → w < 2 ^ k → k ≤ i → bit w i ≡ 0
unfolding bit
bit_past w k i h l = ap (λ (x : ℕ). x % 2) (div-eq_of_lt (omega (arith, pow_mono l)))

-- a word put together from a high part and k low bits
pub cat_low : (a k l i : ℕ) → l < 2 ^ k → i < k → bit (a * 2 ^ k + l) i ≡ bit l i
cat_low a k l i h g = sym (bit_low (a * 2 ^ k + l) k i g) ∙ ap (λ (x : ℕ). bit x i) (low a k h)

cat_high : (a k l i : ℕ) → l < 2 ^ k → k ≤ i → bit (a * 2 ^ k + l) i ≡ bit a (i - k)
cat_high a k l i h g =
    ap (bit (a * 2 ^ k + l)) (sym (add-sub_of_le g)) ∙ bit_shift (a * 2 ^ k + l) k (i - k) ∙ ap (λ (x : ℕ). bit x (i - k)) (high a k h)

-- `1 << b`, which a shift of a 64-bit word gives
pub one_shl : (b : ℕ) → b < 64 → 1 * 2 ^ b % 2 ^ 64 ≡ 2 ^ b
one_shl b h = mod-eq_of_lt (omega (arith, pow-lt h)) ∙ one-mul (2 ^ b)

-- `(w >> k) << k`
pub shr_shl : (w k : ℕ) → w < 2 ^ 64 → w / 2 ^ k * 2 ^ k % 2 ^ 64 ≡ w / 2 ^ k * 2 ^ k
shr_shl w k h = mod-eq_of_lt (lt_of_le_of_lt (div-mul-le_self w (2 ^ k)) h)

-- a part cleared
pub without_mid : (w lo hi : ℕ) → lo ≤ hi → Without w lo hi (w / 2 ^ hi * 2 ^ hi + w % 2 ^ lo)
without_mid w lo hi h =
    let s : w % 2 ^ lo < 2 ^ hi = omega (arith, mod-lt w (pow_pos lo), pow_mono h) in
    record {
      out = λ i a b. cat_low (w / 2 ^ hi) hi (w % 2 ^ lo) i s b ∙ bit_past (w % 2 ^ lo) lo i (mod-lt w (pow_pos lo)) a;
      low = λ i a. cat_low (w / 2 ^ hi) hi (w % 2 ^ lo) i s (omega arith) ∙ bit_low w lo i a;
      high = λ i a b. cat_high (w / 2 ^ hi) hi (w % 2 ^ lo) i s a ∙ sym (bit_shift w hi (i - hi)) ∙ ap (bit w) (add-sub_of_le a);
    }

-- `without` is just that; up to the top nothing is above it
pub without_in : (w lo hi : ℕ) → lo < hi → hi ≤ 64 → without w lo hi ≡ w / 2 ^ hi * 2 ^ hi + w % 2 ^ lo
unfolding without
without_in w lo hi a b = rw (lt-ltb lo hi a, le-leb hi 64 b)

pub without_all : (w lo : ℕ) → lo < 64 → w < 2 ^ 64 → without w lo 64 ≡ w % 2 ^ lo
without_all w lo a h = let z : w / 2 ^ 64 ≡ 0 = div-eq_of_lt h in without_in w lo 64 a (omega arith) ∙ rw z (zero-add (w % 2 ^ lo))

pub without_is : (w lo hi : ℕ) → lo < hi → hi ≤ 64 → Without w lo hi (without w lo hi)
without_is w lo hi a b = rw (without_in w lo hi a b) (without_mid w lo hi (omega arith))

-- `|` bit by bit
pub bit_or_law : (a b i : ℕ) → bit (bit_or a b) i ≡ max (bit a i) (bit b i)
unfolding bit
bit_or_law a b i =
    ap (λ (x : ℕ). x % 2) (or_shr a b i ∙ or_step (a / 2 ^ i) (b / 2 ^ i))
    ∙ mul-add-mod_self_right (bit_or (a / 2 ^ i / 2) (b / 2 ^ i / 2)) 2 _
    ∙ mod-eq_of_lt (omega (arith, mod-lt (a / 2 ^ i) (pow_pos 1), mod-lt (b / 2 ^ i) (pow_pos 1)))

bit_self : (b : ℕ) → bit (2 ^ b) b ≡ 1
unfolding bit
bit_self b = ap (λ (x : ℕ). x % 2) (div_self (pow_pos b))

bit_else : (b i : ℕ) → (i ≡ b → ⊥) → bit (2 ^ b) i ≡ 0
bit_else b i f = go (dec_le i b)
  where
    go : Dec (i ≤ b) → bit (2 ^ b) i ≡ 0
    go (yes p) = ap (λ (x : ℕ). bit x i) (sym (one-mul (2 ^ b)) ∙ sym (add-zero (1 * 2 ^ b))) ∙ cat_low 1 b 0 i (pow_pos b) (omega arith) ∙ bit_zero i
    go (no p) = bit_past (2 ^ b) i i (pow-lt (omega arith)) (omega arith)

pub put_bit : (w b : ℕ) → Put w b (bit_or w (2 ^ b))
put_bit w b = record {
  same = bit_or_law w (2 ^ b) b ∙ omega (arith, bit_self b, bit_lt w b);
  other = λ i f. bit_or_law w (2 ^ b) i ∙ omega (arith, bit_else b i f);
}

-- and it is no larger than the word
pub without_fits : (w lo hi : ℕ) → lo ≤ hi → w < 2 ^ 64 → w / 2 ^ hi * 2 ^ hi + w % 2 ^ lo < 2 ^ 64
without_fits w lo hi h l =
    let e : w % 2 ^ hi % 2 ^ lo ≡ w % 2 ^ lo = ap (λ (x : ℕ). w % 2 ^ x % 2 ^ lo) (sym (sub-add_cancel h)) ∙ mod-mod-pow w (hi - lo) lo in
    omega (arith, div-add-mod' w (2 ^ hi), mod-le (w % 2 ^ hi) (2 ^ lo))

-- the highest bit
pub top_bit : (a j : ℕ) → 2 ^ j ≤ a → a < 2 ^ suc j → bit a j ≡ 1
unfolding bit
top_bit a j l h = ap (λ (x : ℕ). x % 2) (div-eq_of_lt-le {k = 1} (2 ^ j) {m = a} (omega arith) (omega arith))

-- a word that is not 0 has a bit
pub some_bit : (a : ℕ) → a < 2 ^ 64 → 0 < a → (j : ℕ) × (bit a j ≡ 1)
some_bit a h p = let t = leading_top 64 a p h in (t.0, top_bit a t.0 t.2 t.3)
