-- The marks of places under a store to one word, a part of which is painted, and what a count in a word says of places.
-- Assumes nothing.
use Prim.Native.Nat.{ℕ, ◌+◌, ◌-◌, ◌/◌, ◌%◌, ◌^◌, ◌≤◌, ◌<◌}
use mathlib.Core.Path.{◌≡◌, refl, sym, ◌∙◌, ap}
use mathlib.Core.Bool.{Bool}
use mathlib.Core.List.{List}
use native.Mathlib.Omega.{arith}
use native.Mathlib.Decide.{dec_le, ℕ_discrete}
use lib.ListN.{length, get_or, set, length-set}
use lib.Seq.{get_or-set_same, get_or-set_other}
use Rattle.ring.specs.Bits.{as_bit, bit}
use Rattle.places.specs.Places.{mark_at}
use Rattle.places.specs.Parts.{Whole, Painted, Alike, Marked}
use Rattle.ring.proofs.Bits.{bit_lt}

-- a bit is 0 or 1
pub mark_lt : (ws : List ℕ) (p : ℕ) → mark_at ws p < 2
unfolding mark_at
mark_lt ws p = bit_lt (get_or ws (p / 64 % 64) 0) (p % 64)

-- a slot comes again after 4,096 places
pub same_place : (ws : List ℕ) (p q : ℕ) → p / 64 % 64 ≡ q / 64 % 64 → p % 64 ≡ q % 64 → mark_at ws p ≡ mark_at ws q
unfolding mark_at
same_place ws p q a b = cc

module _ (vs : List ℕ) (k r p : ℕ) where
  same_word : k < length vs → p / 64 % 64 ≡ k → mark_at (set vs k r) p ≡ bit r (p % 64)
  unfolding mark_at
  same_word h e = ap (λ (x : ℕ). bit x (p % 64)) (ap (λ (x : ℕ). get_or (set vs k r) x 0) e ∙ get_or-set_same vs k r 0 h)

  other_word : (p / 64 % 64 ≡ k → ⊥) → mark_at (set vs k r) p ≡ mark_at vs p
  unfolding mark_at
  other_word f = ap (λ (x : ℕ). bit x (p % 64)) (get_or-set_other vs k (p / 64 % 64) r 0 f)

-- a store of a word of 64 bits
pub whole_set : (vs : List ℕ) (k r : ℕ) → k < 64 → r < 2 ^ 64 → Whole vs → Whole (set vs k r)
whole_set vs k r h l w = record { long = simp length-set w.long; small = λ j. go j (ℕ_discrete j k) }
  where
    go : (j : ℕ) → Dec (j ≡ k) → get_or (set vs k r) j 0 < 2 ^ 64
    go j (yes e) = rw (e, get_or-set_same vs k r 0 (omega (arith, w.long))) l
    go j (no f) = rw (get_or-set_other vs k j r 0 f) (w.small j)

-- a store to the word of `at` of that word with the bits from the place of `at` up to hi painted
module _ (vs : List ℕ) (at hi r : ℕ) (v : Bool) (len : length vs ≡ 64) (word : Painted (get_or vs (at / 64 % 64) 0) (at % 64) hi v r) where
  in_part : (p : ℕ) → p / 64 % 64 ≡ at / 64 % 64 → at % 64 ≤ p % 64 → p % 64 < hi → mark_at (set vs (at / 64 % 64) r) p ≡ as_bit v
  in_part p e l h = same_word vs (at / 64 % 64) r p (omega arith) e ∙ word.inside (p % 64) l h

  off_part : (p : ℕ) → (p / 64 % 64 ≡ at / 64 % 64 → at % 64 ≤ p % 64 → p % 64 < hi → ⊥) → mark_at (set vs (at / 64 % 64) r) p ≡ mark_at vs p
  unfolding mark_at
  off_part p f = go (ℕ_discrete (p / 64 % 64) (at / 64 % 64)) (dec_le (at % 64) (p % 64)) (dec_le hi (p % 64))
    where
      back : p / 64 % 64 ≡ at / 64 % 64 → bit (get_or vs (at / 64 % 64) 0) (p % 64) ≡ mark_at vs p
      back e = ap (λ (x : ℕ). bit (get_or vs x 0) (p % 64)) (sym e)

      go : Dec (p / 64 % 64 ≡ at / 64 % 64) → Dec (at % 64 ≤ p % 64) → Dec (hi ≤ p % 64) → mark_at (set vs (at / 64 % 64) r) p ≡ mark_at vs p
      go (no g) a b = other_word vs (at / 64 % 64) r p g
      go (yes e) (no a) b = same_word vs (at / 64 % 64) r p (omega arith) e ∙ word.low (p % 64) (omega arith) ∙ back e
      go (yes e) (yes a) (yes b) = same_word vs (at / 64 % 64) r p (omega arith) e ∙ word.high (p % 64) b (omega arith) ∙ back e
      go (yes e) (yes a) (no b) = absurd (f e a (omega arith))

-- one turn of the marking
pub mark_turn : (ws vs : List ℕ) (from at hi r : ℕ) (v : Bool) → length vs ≡ 64 → from ≤ at → at % 64 < hi → hi ≤ 64 → at + (hi - at % 64) ≤ from + 4096
    → Painted (get_or vs (at / 64 % 64) 0) (at % 64) hi v r → Marked ws from at v vs → Marked ws from (at + (hi - at % 64)) v (set vs (at / 64 % 64) r)
mark_turn ws vs from at hi r v len start some fits room word done = record {
  inside = λ p a b. go p a b (dec_le at p);
  rest = λ p z a b. off_part vs at hi r v len word p (omega arith) ∙ done.rest p z (omega arith) b;
}
  where
    go : (p : ℕ) → from ≤ p → p < at + (hi - at % 64) → Dec (at ≤ p) → mark_at (set vs (at / 64 % 64) r) p ≡ as_bit v
    go p a b (yes l) = in_part vs at hi r v len word p (omega arith) (omega arith) (omega arith)
    go p a b (no l) = off_part vs at hi r v len word p (omega arith) ∙ done.inside p a (omega arith)

pub mark_none : (ws : List ℕ) (from to : ℕ) (v : Bool) → to ≤ from → Marked ws from to v ws
mark_none ws from to v h = record { inside = λ p a b. absurd (omega arith); rest = λ p z a b. refl }

-- what a count in the word of p says of the places from p on
module _ (ws : List ℕ) (p n : ℕ) (v : Bool) (count : Alike (get_or ws (p / 64 % 64) 0) (p % 64) v n) where
  pub places : (q : ℕ) → p ≤ q → q < p + n → mark_at ws q ≡ as_bit v
  unfolding mark_at
  places q a b =
      let e : q / 64 % 64 ≡ p / 64 % 64 = omega (arith, count.within) in
      ap (λ (x : ℕ). bit (get_or ws x 0) (q % 64)) e ∙ count.all (q % 64) (omega (arith, count.within)) (omega (arith, count.within))

  pub halts : p % 64 + n < 64 → mark_at ws (p + n) ≡ as_bit v → ⊥
  unfolding mark_at
  halts h e =
      let f : p / 64 % 64 ≡ (p + n) / 64 % 64 = omega arith in
      let g : p % 64 + n ≡ (p + n) % 64 = omega arith in
      count.stop h (ap (bit (get_or ws (p / 64 % 64) 0)) g ∙ ap (λ (x : ℕ). bit (get_or ws x 0) ((p + n) % 64)) f ∙ e)

  -- added to what was passed before
  pub passed : (at : ℕ) → ((q : ℕ) → at ≤ q → q < p → mark_at ws q ≡ as_bit v) → (q : ℕ) → at ≤ q → q < p + n → mark_at ws q ≡ as_bit v
  passed at f q a b = go (dec_le p q)
    where
      go : Dec (p ≤ q) → mark_at ws q ≡ as_bit v
      go (yes l) = places q l b
      go (no l) = f q a (omega arith)
