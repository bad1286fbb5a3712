-- The record that is built from a set of numbers: it has 128 words of 64 bits, it can be, and in its window it records exactly the set.
-- Assumes nothing.
use Prim.Native.Nat.{ℕ, zero, suc, ◌+◌, ◌-◌, ◌*◌, ◌/◌, ◌%◌, ◌^◌, ◌≤◌, ◌<◌, max}
use mathlib.Core.Path.{◌≡◌, refl, ◌∙◌, ap}
use mathlib.Core.Bool.{Bool, true, false, ◌&&◌, ◌||◌}
use native.Mathlib.Omega.{arith}
use native.Mathlib.Decide.{dec_le, ℕ_discrete}
use lib.ListN.{length, get_or, get_or-eq_default}
use lib.Dec.{leb, eqb}
use borrow.Author.Tests.{lt-ltb, le-ltb, le-leb, lt-leb, eq-eqb, ne_eqb}
use Rattle.answers.proofs.Choice.{below_or_not}
use Rattle.records.specs.declared.Record.{Record}
use Rattle.ring.specs.Bits.{as_bit, bit, bit_at}
use Rattle.records.specs.Marks.{recorded, Words, Sound}
use Rattle.records.specs.Ring.{word_of, list_of, slot_of, ring_of, with_mark}
use Rattle.records.specs.Parts.{Marked}
use Rattle.ring.proofs.Bits.{bit_shift}
use Rattle.records.proofs.Ring.{rec_in, rec_above, rec_below}

digit : (b : Bool) → as_bit b < 2
digit true = omega arith
digit false = omega arith

is_one : (b : Bool) → eqb (as_bit b) 1 ≡ b
is_one true = refl
is_one false = refl

-- a word by its bits
word_lt : (k : ℕ) (b : ℕ → Bool) → word_of k b < 2 ^ k
unfolding word_of
word_lt zero b = omega arith
word_lt (suc k) b = omega (arith, word_lt k (λ i. b (suc i)), digit (b 0))

word_bit : (k : ℕ) (b : ℕ → Bool) (i : ℕ) → i < k → bit (word_of k b) i ≡ as_bit (b i)
unfolding word_of bit
word_bit zero b i h = absurd (omega arith)
word_bit (suc k) b zero h = omega (arith, digit (b 0))
word_bit (suc k) b (suc i) h =
    let w = word_of k (λ j. b (suc j)) in
    let d : (2 * w + as_bit (b 0)) / 2 ≡ w = omega (arith, digit (b 0)) in
    let s : suc i ≡ 1 + i = omega arith in
    ap (bit (2 * w + as_bit (b 0))) s ∙ bit_shift (2 * w + as_bit (b 0)) 1 i ∙ ap (λ (x : ℕ). bit x i) d ∙ word_bit k (λ j. b (suc j)) i (omega arith)

-- a list by its elements
list_length : (n : ℕ) (w : ℕ → ℕ) → length (list_of n w) ≡ n
unfolding list_of
list_length zero w = refl
list_length (suc n) w = ap suc (list_length n (λ k. w (suc k)))

list_at : (n : ℕ) (w : ℕ → ℕ) (k : ℕ) → k < n → get_or (list_of n w) k 0 ≡ w k
unfolding list_of
list_at zero w k h = absurd (omega arith)
list_at (suc n) w zero h = refl
list_at (suc n) w (suc k) h = list_at n (λ j. w (suc j)) k (omega arith)

module _ (P : ℕ → Bool) (T : ℕ) where
  abbrev word : ℕ → ℕ
  word k = word_of 64 (λ i. slot_of P T (64 * k + i))

  pub ring_words : Words (ring_of P T)
  unfolding ring_of
  ring_words = record {
    long = list_length 128 word;
    small = λ k. below_or_not k 128
        (λ h. rw (list_at 128 word k h) (word_lt 64 (λ i. slot_of P T (64 * k + i))))
        (λ h. rw (get_or-eq_default (list_of 128 word) 0 {n = k} (omega (arith, list_length 128 word))) (omega arith));
  }

  ring_bit : (m : ℕ) → bit_at (ring_of P T).words m ≡ as_bit (slot_of P T (m % 8192))
  unfolding ring_of bit_at
  ring_bit m =
      ap (λ (x : ℕ). bit x (m % 64)) (list_at 128 word (m / 64 % 128) (omega arith))
      ∙ word_bit 64 (λ i. slot_of P T (64 * (m / 64 % 128) + i)) (m % 64) (omega arith) ∙ ap (λ (p : ℕ). as_bit (slot_of P T p)) (omega arith)

  -- the slot of a number of the window stands for it, and one from the top on for none
  slot_in : (m : ℕ) → m < T → T ≤ m + 8192 → slot_of P T (m % 8192) ≡ P m
  unfolding slot_of
  slot_in m a b = simp (lt-ltb (m % 8192) T (omega arith)) (ap P (omega arith))

  slot_out : (m : ℕ) → T ≤ m → m < 8192 → slot_of P T (m % 8192) ≡ false
  unfolding slot_of
  slot_out m a b = simp (le-ltb (m % 8192) T (omega arith))

  pub ring_in : (m : ℕ) → m < T → T ≤ m + 8192 → recorded (ring_of P T) m ≡ P m
  unfolding ring_of
  ring_in m a b = rec_in (ring_of P T) m a b ∙ ap (λ (x : ℕ). eqb x 1) (ring_bit m) ∙ is_one (slot_of P T (m % 8192)) ∙ slot_in m a b

  pub ring_sound : (0 < T → P (T - 1) ≡ true) → T ≤ 2 ^ 62 → Sound (ring_of P T)
  unfolding ring_of
  ring_sound last small = record {
    clean = λ m a b. ring_bit m ∙ ap as_bit (slot_out m a b);
    last = λ p. ring_bit (T - 1) ∙ ap as_bit (slot_in (T - 1) (omega arith) (omega arith) ∙ last p);
    small = small;
  }

-- the record with a number more
module _ (R : Record) (n : ℕ) (small : n < 2 ^ 62) where
  abbrev Held : ℕ → Bool
  Held m = eqb m n || recorded R m

  abbrev Top : ℕ
  Top = max R.top (n + 1)

  pub with_words : Words (with_mark R n)
  unfolding with_mark
  with_words = ring_words Held Top

  held_last : Sound R → Dec (Top - 1 ≡ n) → Held (Top - 1) ≡ true
  held_last s (yes e) = simp (eq-eqb _ _ e)
  held_last s (no f) =
      let e : Top - 1 ≡ R.top - 1 = omega arith in
      simp (ne_eqb _ _ f, ap (recorded R) e ∙ rec_in R (R.top - 1) (omega arith) (omega arith) ∙ eq-eqb _ 1 (s.last (omega arith)))

  -- exactly n is added, and exactly what fell out of the window is gone
  pub with_marked : Marked R n (with_mark R n)
  unfolding with_mark ring_of
  with_marked = record {
    top = refl;
    recorded_is = λ m. go m (dec_le Top m) (dec_le Top (m + 8192));
    sound = λ s. ring_sound Held Top (λ p. held_last s (ℕ_discrete (Top - 1) n)) (omega (arith, s.small));
  }
    where
      go : (m : ℕ) → Dec (Top ≤ m) → Dec (Top ≤ m + 8192) → recorded (ring_of Held Top) m ≡ (leb Top (m + 8192) && (eqb m n || recorded R m))
      go m (yes a) b = simp (rec_above (ring_of Held Top) m a, le-leb Top (m + 8192) (omega arith), ne_eqb m n (omega arith), rec_above R m (omega arith))
      go m (no a) (yes b) = ring_in Held Top m (omega arith) b ∙ simp (le-leb Top (m + 8192) b)
      go m (no a) (no b) = simp (rec_below (ring_of Held Top) m (omega arith), lt-leb Top (m + 8192) (omega arith))
