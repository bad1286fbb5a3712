-- Slots that are not marked: the code's test of the words, and the two ways of saying it, as a test and as facts.
-- Assumes nothing.
use Prim.Native.Nat.{ℕ, zero, suc, ◌+◌, ◌-◌, ◌*◌, ◌/◌, ◌%◌, ◌^◌, ◌≤◌, ◌<◌}
use mathlib.Core.Path.{◌≡◌, refl, sym, ◌∙◌, ap}
use mathlib.Core.Bool.{Bool, true, false, and-eq-true_iff}
use mathlib.Core.List.{List}
use native.Mathlib.Omega.{arith}
use native.Mathlib.Decide.{dec_le, ℕ_discrete}
use native.Mathlib.Nat.{lt_of_le_of_lt, div-le_self}
use lib.Bits.{bit_or}
use lib.ListN.{get_or}
use lib.Dec.{eqb}
use borrow.Author.Tests.{eq-eqb, eqb-true}
use Rattle.ring.specs.Bits.{bit, bit_at, unmarked}
use Rattle.ring.specs.Parts.{Blank, Clean, Decides}
use Rattle.ring.proofs.Bits.{bit_shift, bit_zero, bit_past, bit_or_law, some_bit}

-- a word with no bit from s on, as the shift finds it
pub blank_word : (w s : ℕ) → w / 2 ^ s ≡ 0 → Blank w s
blank_word w s z i a b =
    let f : s + (i - s) ≡ i = omega arith in
    ap (bit w) (sym f) ∙ bit_shift w s (i - s) ∙ ap (λ (x : ℕ). bit x (i - s)) z ∙ bit_zero (i - s)

pub marked_word : (w s : ℕ) → w < 2 ^ 64 → (w / 2 ^ s ≡ 0 → ⊥) → Blank w s → ⊥
marked_word w s h f k =
    let t = some_bit (w / 2 ^ s) (lt_of_le_of_lt (div-le_self w (2 ^ s)) h) (omega arith) in
    let one : bit w (s + t.0) ≡ 1 = bit_shift w s t.0 ∙ t.1 in
    room (s + t.0) (omega arith) one (dec_le 64 (s + t.0))
  where
    room : (i : ℕ) → s ≤ i → bit w i ≡ 1 → Dec (64 ≤ i) → ⊥
    room i a e (yes p) = absurd (omega (arith, e, bit_past w 64 i h p))
    room i a e (no p) = absurd (omega (arith, e, k i a (omega arith)))

-- words joined by `|` have no bit exactly where each has none
pub blank_or : (v w s : ℕ) → Blank v s → Blank w s → Blank (bit_or v w) s
blank_or v w s a b i l h = bit_or_law v w i ∙ omega (arith, a i l h, b i l h)

pub or_blank : (v w s : ℕ) → Blank (bit_or v w) s → Blank v s × Blank w s
or_blank v w s a = (λ i l h. omega (arith, a i l h, bit_or_law v w i), λ i l h. omega (arith, a i l h, bit_or_law v w i))

-- the word of `at` has no bit from its place on where no number from `at` on up to its end is marked
module _ (ws : List ℕ) (at : ℕ) where
  pub clean_word : Blank (get_or ws (at / 64) 0) (at % 64) → (m : ℕ) → at ≤ m → m < 8192 → m < at + (64 - at % 64) → bit_at ws m ≡ 0
  unfolding bit_at
  clean_word k m a b d =
      let e : m / 64 % 128 ≡ at / 64 = omega arith in
      ap (λ (x : ℕ). bit (get_or ws x 0) (m % 64)) e ∙ k (m % 64) (omega arith) (omega arith)

  pub word_clean : at < 8192 → ((m : ℕ) → at ≤ m → m < 8192 → bit_at ws m ≡ 0) → Blank (get_or ws (at / 64) 0) (at % 64)
  unfolding bit_at
  word_clean l k i a b =
      let m = at / 64 * 64 + i in
      let e : at / 64 ≡ m / 64 % 128 = omega arith in
      let g : i ≡ m % 64 = omega arith in
      ap (bit (get_or ws (at / 64) 0)) g ∙ ap (λ (x : ℕ). bit (get_or ws x 0) (m % 64)) e ∙ k m (omega arith) (omega arith)

-- the same of a whole word
module _ (ws : List ℕ) (k : ℕ) where
  pub bits_of : Blank (get_or ws k 0) 0 → (m : ℕ) → 64 * k ≤ m → m < 8192 → m < 64 * k + 64 → bit_at ws m ≡ 0
  bits_of b m p l q =
      let e : 64 * k / 64 ≡ k = omega arith in
      let r : 64 * k % 64 ≡ 0 = omega arith in
      clean_word ws (64 * k) (rw (e, r) b) m p l (omega (arith, r))

  pub word_of : k < 128 → ((m : ℕ) → 64 * k ≤ m → m < 8192 → bit_at ws m ≡ 0) → Blank (get_or ws k 0) 0
  word_of l f =
      let e : 64 * k / 64 ≡ k = omega arith in
      let r : 64 * k % 64 ≡ 0 = omega arith in
      rw (e, r) at (word_clean ws (64 * k) (omega arith) f)

-- the test and the facts
module _ (ws : List ℕ) where
  pub unmarked_facts : (p k : ℕ) → unmarked ws p k ≡ true → (m : ℕ) → p ≤ m → m < p + k → bit_at ws m ≡ 0
  unfolding unmarked
  unmarked_facts p zero e m a b = absurd (omega arith)
  unmarked_facts p (suc k) e m a b =
      let f = (and-eq-true_iff (eqb (bit_at ws p) 0) (unmarked ws (suc p) k)).0 e in
      go (eqb-true _ 0 f.0) (ℕ_discrete m p) (λ l. unmarked_facts (suc p) k f.1 m l (omega arith))
    where
      go : bit_at ws p ≡ 0 → Dec (m ≡ p) → (suc p ≤ m → bit_at ws m ≡ 0) → bit_at ws m ≡ 0
      go z (yes f) more = ap (bit_at ws) f ∙ z
      go z (no f) more = more (omega arith)

  pub unmarked_test : (p k : ℕ) → ((m : ℕ) → p ≤ m → m < p + k → bit_at ws m ≡ 0) → unmarked ws p k ≡ true
  unfolding unmarked
  unmarked_test p zero f = refl
  unmarked_test p (suc k) f = simp (eq-eqb _ 0 (f p (omega arith) (omega arith)), unmarked_test (suc p) k (λ m a b. f m (omega arith) (omega arith)))

-- so what decides the facts is the test
pub decided : (ws : List ℕ) (T : ℕ) (r : Bool) → Decides (Clean ws T) r → r ≡ unmarked ws T (8192 - T)
decided ws T true d = sym (unmarked_test ws T (8192 - T) (λ m a b. d.holds refl m a (omega arith)))
decided ws T false d = go (unmarked ws T (8192 - T)) refl
  where
    go : (b : Bool) → unmarked ws T (8192 - T) ≡ b → false ≡ b
    go true e = absurd (d.fails refl (λ m a b. unmarked_facts ws T (8192 - T) e m a (omega arith)))
    go false e = refl
