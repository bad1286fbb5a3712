-- The 4,096 places from `read` on and their slots are one to one, so 64 words are known by their marks there; and what painting leaves.
-- Assumes nothing.
use Prim.Native.Nat.{ℕ, ◌+◌, ◌*◌, ◌/◌, ◌%◌, ◌^◌, ◌≤◌, ◌<◌}
use mathlib.Core.Path.{◌≡◌, refl, sym, ◌∙◌, ap}
use mathlib.Core.Bool.{Bool, true, false, ◌&&◌}
use mathlib.Core.List.{List}
use native.Mathlib.Omega.{arith}
use native.Mathlib.Decide.{dec_le}
use lib.ListN.{length, get_or, get_or-eq_default}
use lib.Seq.{ext_get_or}
use lib.Dec.{eqb, leb, ltb}
use borrow.Author.Tests.{lt-ltb, le-ltb, le-leb, lt-leb, eq-eqb, ne_eqb}
use Rattle.answers.specs.Choice.{◌⇒◌∣◌}
use Rattle.answers.proofs.Choice.{below_or_not}
use Rattle.ring.specs.Bits.{as_bit, bit}
use Rattle.ring.specs.Words.{word_of, list_of}
use Rattle.ring.proofs.Words.{word_lt, word_bit, bits_ext, list_length, list_at}
use Rattle.places.specs.Places.{mark_at, marked, within, place_of, marks_of, painted_of}
use Rattle.places.specs.Parts.{Whole, Marked}
use Rattle.places.proofs.Bounds.{in_bounds, above_bounds, mark_bit, bit_mark}

-- the slots and the places from `read` on
pub record Place (read i p : ℕ) : Type 0 where
  pub slot : p % 4096 ≡ i
  pub least : read ≤ p
  pub most : p < read + 4096

pub place_of_law : (read i : ℕ) → i < 4096 → Place read i (place_of read i)
unfolding place_of
place_of_law read i h = record { slot = omega arith; least = omega arith; most = omega arith }

pub place_at : (read p : ℕ) → read ≤ p → p < read + 4096 → place_of read (p % 4096) ≡ p
unfolding place_of
place_at read p a b = omega arith

-- 64 words by their marks of the places from `read` on
module _ (read : ℕ) (f : ℕ → Bool) where
  abbrev word : ℕ → ℕ
  word k = word_of 64 (λ i. f (place_of read (64 * k + i)))

  pub marks_whole : Whole (marks_of read f)
  unfolding marks_of
  marks_whole = record {
    long = list_length 64 word;
    small = λ k. below_or_not k 64
        (λ h. rw (list_at 64 word k h) (word_lt 64 (λ i. f (place_of read (64 * k + i)))))
        (λ h. rw (get_or-eq_default (list_of 64 word) 0 {n = k} (omega (arith, list_length 64 word))) (omega arith));
  }

  pub marks_bit : (p : ℕ) → read ≤ p → p < read + 4096 → mark_at (marks_of read f) p ≡ as_bit (f p)
  unfolding marks_of mark_at
  marks_bit p a b =
      let e : 64 * (p / 64 % 64) + p % 64 ≡ p % 4096 = omega arith in
      ap (λ (x : ℕ). bit x (p % 64)) (list_at 64 word (p / 64 % 64) (omega arith))
      ∙ word_bit 64 (λ j. f (place_of read (64 * (p / 64 % 64) + j))) (p % 64) (omega arith)
      ∙ ap (λ (x : ℕ). as_bit (f (place_of read x))) e ∙ ap (λ (x : ℕ). as_bit (f x)) (place_at read p a b)

  pub marks_of_law : (p : ℕ) → read ≤ p → p < read + 4096 → marked (marks_of read f) p ≡ f p
  marks_of_law p a b = bit_mark _ p (f p) (marks_bit p a b)

  pub marks_is : (t : List ℕ) → Whole t → ((p : ℕ) → read ≤ p → p < read + 4096 → mark_at t p ≡ as_bit (f p)) → t ≡ marks_of read f
  unfolding marks_of mark_at
  marks_is t whole g = ext_get_or 0 t _ (whole.long ∙ sym (list_length 64 _)) (λ k h.
      let l : k < 64 = omega (arith, whole.long) in
      bits_ext 64 (get_or t k 0) _ (whole.small k) (rw (list_at 64 word k l) (word_lt 64 _)) (λ i m.
      let q = place_of_law read (64 * k + i) (omega arith) in
      let d : k ≡ place_of read (64 * k + i) / 64 % 64 = omega (arith, q.slot) in
      let e : i ≡ place_of read (64 * k + i) % 64 = omega (arith, q.slot) in
      ap (bit (get_or t k 0)) e ∙ ap (λ (x : ℕ). bit (get_or t x 0) (place_of read (64 * k + i) % 64)) d ∙ g (place_of read (64 * k + i)) q.least q.most
      ∙ sym (word_bit 64 (λ j. f (place_of read (64 * k + j))) i m)
      ∙ ap (λ (x : ℕ). bit x i) (sym (list_at 64 word k l))))

-- the words that are painted
module _ (ws : List ℕ) (from to : ℕ) (v : Bool) where
  abbrev paint : ℕ → Bool
  paint p = within from to p ⇒ v ∣ marked ws p

  pub painted_short : (length ws ≡ 64 → ⊥) → ws ≡ painted_of ws from to v
  unfolding painted_of
  painted_short f = simp (ne_eqb (length ws) 64 f)

  pub painted_high : 2 ^ 63 ≤ to → ws ≡ painted_of ws from to v
  unfolding painted_of
  painted_high h = go (eqb (length ws) 64) (leb to (from + 4096))
    where
      go : (a b : Bool) → ws ≡ (a && (b && ltb to (2 ^ 63)) ⇒ marks_of from paint ∣ ws)
      go true true = simp (le-ltb to (2 ^ 63) h)
      go true false = refl
      go false b = refl

  pub painted_many : from + 4096 < to → ws ≡ painted_of ws from to v
  unfolding painted_of
  painted_many h = go (eqb (length ws) 64)
    where
      go : (a : Bool) → ws ≡ (a && (leb to (from + 4096) && ltb to (2 ^ 63)) ⇒ marks_of from paint ∣ ws)
      go true = simp (lt-leb to (from + 4096) h)
      go false = refl

  module _ (long : length ws ≡ 64) (room : to ≤ from + 4096) (low : to < 2 ^ 63) where
    painted_marks : painted_of ws from to v ≡ marks_of from paint
    unfolding painted_of
    painted_marks = simp (eq-eqb (length ws) 64 long, le-leb to (from + 4096) room, lt-ltb to (2 ^ 63) low)

    -- words with these marks are those
    pub painted_is : (t : List ℕ) → Whole t → Marked ws from to v t → t ≡ painted_of ws from to v
    painted_is t whole m = marks_is from paint t whole (λ p a b. go p a b (dec_le to p)) ∙ sym painted_marks
      where
        go : (p : ℕ) → from ≤ p → p < from + 4096 → Dec (to ≤ p) → mark_at t p ≡ as_bit (paint p)
        go p a b (yes l) = m.rest p a l b ∙ sym (mark_bit ws p) ∙ ap (λ (x : Bool). as_bit (x ⇒ v ∣ marked ws p)) (sym (above_bounds from to p l))
        go p a b (no l) = m.inside p a (omega arith) ∙ ap (λ (x : Bool). as_bit (x ⇒ v ∣ marked ws p)) (sym (in_bounds from to p a (omega arith)))

    -- and those have these marks
    pub painted_whole : Whole (painted_of ws from to v)
    painted_whole = rw painted_marks (marks_whole from paint)

    pub painted_marked : Marked ws from to v (painted_of ws from to v)
    painted_marked =
        rw painted_marks
        (record {
          inside = λ p a b. marks_bit from paint p a (omega arith) ∙ ap (λ (x : Bool). as_bit (x ⇒ v ∣ marked ws p)) (in_bounds from to p a b);
          rest = λ p z a b. marks_bit from paint p z b ∙ ap (λ (x : Bool). as_bit (x ⇒ v ∣ marked ws p)) (above_bounds from to p a) ∙ mark_bit ws p;
        })
