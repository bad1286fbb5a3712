-- A word and a list that are built from what stands at each index have just that there; and a word is known by its bits.
-- Assumes nothing.
use Prim.Native.Nat.{ℕ, zero, suc, ◌+◌, ◌*◌, ◌/◌, ◌%◌, ◌^◌, ◌<◌}
use mathlib.Core.Path.{◌≡◌, refl, sym, ◌∙◌, ap}
use mathlib.Core.Bool.{Bool, true, false}
use native.Mathlib.Omega.{arith}
use lib.ListN.{length, get_or}
use Rattle.ring.specs.Bits.{as_bit, bit}
use Rattle.ring.specs.Words.{word_of, list_of}
use Rattle.ring.proofs.Bits.{bit_shift}

pub digit : (b : Bool) → as_bit b < 2
digit true = omega arith
digit false = omega arith

-- a word by its bits
pub word_lt : (k : ℕ) (b : ℕ → Bool) → word_of k b < 2 ^ k
unfolding word_of
word_lt zero b = omega arith
word_lt (suc k) b = omega (arith, word_lt k (λ i. b (suc i)), digit (b 0))

pub word_bit : (k : ℕ) (b : ℕ → Bool) (i : ℕ) → i < k → bit (word_of k b) i ≡ as_bit (b i)
unfolding word_of bit
word_bit zero b i h = absurd (omega arith)
word_bit (suc k) b zero h = omega (arith, digit (b 0))
word_bit (suc k) b (suc i) h =
    let w = word_of k (λ j. b (suc j)) in
    let d : (2 * w + as_bit (b 0)) / 2 ≡ w = omega (arith, digit (b 0)) in
    let s : suc i ≡ 1 + i = omega arith in
    ap (bit (2 * w + as_bit (b 0))) s ∙ bit_shift (2 * w + as_bit (b 0)) 1 i ∙ ap (λ (x : ℕ). bit x i) d ∙ word_bit k (λ j. b (suc j)) i (omega arith)

-- two words of k bits with the same bits are one
pub bits_ext : (k a b : ℕ) → a < 2 ^ k → b < 2 ^ k → ((i : ℕ) → i < k → bit a i ≡ bit b i) → a ≡ b
unfolding bit
bits_ext zero a b h l f = omega arith
bits_ext (suc k) a b h l f =
    let low : a / 1 % 2 ≡ b / 1 % 2 = f 0 (omega arith) in
    let high : a / 2 ≡ b / 2 = bits_ext k (a / 2) (b / 2) (omega arith) (omega arith) (λ i g. sym (bit_shift a 1 i) ∙ f (1 + i) (omega arith) ∙ bit_shift b 1 i) in
    omega arith

-- a list by its elements
pub list_length : (n : ℕ) (w : ℕ → ℕ) → length (list_of n w) ≡ n
unfolding list_of
list_length zero w = refl
list_length (suc n) w = ap suc (list_length n (λ k. w (suc k)))

pub list_at : (n : ℕ) (w : ℕ → ℕ) (k : ℕ) → k < n → get_or (list_of n w) k 0 ≡ w k
unfolding list_of
list_at zero w k h = absurd (omega arith)
list_at (suc n) w zero h = refl
list_at (suc n) w (suc k) h = list_at n (λ j. w (suc j)) k (omega arith)
