-- The ring under a store to one word, a window that slides, a number that is marked, and what is recorded by the bits.
-- Assumes nothing.
use Prim.Native.Nat.{ℕ, ◌+◌, ◌-◌, ◌/◌, ◌%◌, ◌^◌, ◌≤◌, ◌<◌}
use mathlib.Core.Path.{◌≡◌, refl, sym, ◌∙◌, ap}
use mathlib.Core.Bool.{false, ◌&&◌, ◌||◌}
use mathlib.Core.List.{List}
use mathlib.Core.Logic.{◌⊎◌, ⊎_elim}
use native.Mathlib.Omega.{arith}
use native.Mathlib.Decide.{dec_le, ℕ_discrete}
use lib.ListN.{length, get_or, set, length-set}
use lib.Seq.{get_or-set_same, get_or-set_other}
use lib.Dec.{leb, eqb}
use borrow.Author.Tests.{lt-ltb, le-ltb, le-leb, lt-leb, eq-eqb, ne_eqb}
use Rattle.records.specs.declared.Record.{Record}
use Rattle.ring.specs.Bits.{bit, bit_at}
use Rattle.ring.specs.Parts.{Without, Put}
use Rattle.records.specs.Marks.{recorded, Sound}
use Rattle.records.specs.Parts.{Whole, Cleared, Slid, Marked}

module _ (vs : List ℕ) (k r m : ℕ) where
  same_word : k < length vs → m / 64 % 128 ≡ k → bit_at (set vs k r) m ≡ bit r (m % 64)
  unfolding bit_at
  same_word h e = ap (λ (x : ℕ). bit x (m % 64)) (ap (λ (x : ℕ). get_or (set vs k r) x 0) e ∙ get_or-set_same vs k r 0 h)

  other_word : (m / 64 % 128 ≡ k → ⊥) → bit_at (set vs k r) m ≡ bit_at vs m
  unfolding bit_at
  other_word f = ap (λ (x : ℕ). bit x (m % 64)) (get_or-set_other vs k (m / 64 % 128) r 0 f)

-- a store of a word of 64 bits
pub whole_set : (vs : List ℕ) (k r : ℕ) → k < 128 → r < 2 ^ 64 → Whole vs → Whole (set vs k r)
whole_set vs k r h l w = record { long = simp length-set w.long; small = λ j. go j (ℕ_discrete j k) }
  where
    go : (j : ℕ) → Dec (j ≡ k) → get_or (set vs k r) j 0 < 2 ^ 64
    go j (yes e) = rw (e, get_or-set_same vs k r 0 (omega (arith, w.long))) l
    go j (no f) = rw (get_or-set_other vs k j r 0 f) (w.small j)

-- the same bit of the ring
pub same_place : (vs : List ℕ) (m n : ℕ) → m / 64 % 128 ≡ n / 64 % 128 → m % 64 ≡ n % 64 → bit_at vs m ≡ bit_at vs n
unfolding bit_at
same_place vs m n a b = cc

-- a store to the word of `at` of that word without the bits from the place of `at` up to hi
module _ (vs : List ℕ) (at hi r : ℕ) (len : length vs ≡ 128) (word : Without (get_or vs (at / 64 % 128) 0) (at % 64) hi r) where
  in_part : (m : ℕ) → m / 64 % 128 ≡ at / 64 % 128 → at % 64 ≤ m % 64 → m % 64 < hi → bit_at (set vs (at / 64 % 128) r) m ≡ 0
  in_part m e l h = same_word vs (at / 64 % 128) r m (omega arith) e ∙ word.out (m % 64) l h

  off_part : (m : ℕ) → (m / 64 % 128 ≡ at / 64 % 128 → at % 64 ≤ m % 64 → m % 64 < hi → ⊥) → bit_at (set vs (at / 64 % 128) r) m ≡ bit_at vs m
  unfolding bit_at
  off_part m f = go (ℕ_discrete (m / 64 % 128) (at / 64 % 128)) (dec_le (at % 64) (m % 64)) (dec_le hi (m % 64))
    where
      back : m / 64 % 128 ≡ at / 64 % 128 → bit (get_or vs (at / 64 % 128) 0) (m % 64) ≡ bit_at vs m
      back e = ap (λ (x : ℕ). bit (get_or vs x 0) (m % 64)) (sym e)

      go : Dec (m / 64 % 128 ≡ at / 64 % 128) → Dec (at % 64 ≤ m % 64) → Dec (hi ≤ m % 64) → bit_at (set vs (at / 64 % 128) r) m ≡ bit_at vs m
      go (no g) a b = other_word vs (at / 64 % 128) r m g
      go (yes e) (no a) b = same_word vs (at / 64 % 128) r m (omega arith) e ∙ word.low (m % 64) (omega arith) ∙ back e
      go (yes e) (yes a) (yes b) = same_word vs (at / 64 % 128) r m (omega arith) e ∙ word.high (m % 64) b (omega arith) ∙ back e
      go (yes e) (yes a) (no b) = absurd (f e a (omega arith))

-- one turn of the clearing
pub clear_turn : (ws vs : List ℕ) (from at hi r : ℕ) → length vs ≡ 128 → from ≤ at → at % 64 < hi → hi ≤ 64 → at + (hi - at % 64) ≤ from + 8192
    → Without (get_or vs (at / 64 % 128) 0) (at % 64) hi r → Cleared ws from at vs → Cleared ws from (at + (hi - at % 64)) (set vs (at / 64 % 128) r)
clear_turn ws vs from at hi r len start some word room kept done = record {
  out = λ m a b. go m a b (dec_le at m);
  rest = λ m a b. off_part vs at hi r len kept m (omega arith) ∙ done.rest m (omega arith) b;
}
  where
    go : (m : ℕ) → from ≤ m → m < at + (hi - at % 64) → Dec (at ≤ m) → bit_at (set vs (at / 64 % 128) r) m ≡ 0
    go m a b (yes p) = in_part vs at hi r len kept m (omega arith) (omega arith) (omega arith)
    go m a b (no p) = off_part vs at hi r len kept m (omega arith) ∙ done.out m a (omega arith)

pub clear_none : (ws : List ℕ) (from : ℕ) → Cleared ws from from ws
clear_none ws from = record { out = λ m a b. absurd (omega arith); rest = λ m a b. refl }

-- the window slid up to n: the bits from `from` up to n cleared
pub slide : (R : Record) (n from : ℕ) (ws : List ℕ) → R.top ≤ n → R.top ≤ from → n + 1 ≤ from + 8192 → (from ≡ R.top) ⊎ (from + 8191 ≡ n)
    → Cleared R.words from (n + 1) ws → Slid R n (record { words = ws; top = n + 1 })
slide R n from ws above least room way c = record {
  top = omega arith;
  kept = λ m a b. same_place ws m (m + 8192) (omega arith) (omega arith) ∙ c.rest (m + 8192) (omega arith) (omega arith) ∙ sym (same_place R.words m (m + 8192) (omega arith) (omega arith));
  fresh = λ m a b d. c.out m (⊎_elim (λ (e : from ≡ R.top). omega arith) (λ (e : from + 8191 ≡ n). omega arith) way) b;
  clean = λ m a b. c.rest m a (omega arith);
}

-- what is recorded, by the bits
module _ (R : Record) (m : ℕ) where
  pub rec_in : m < R.top → R.top ≤ m + 8192 → recorded R m ≡ eqb (bit_at R.words m) 1
  unfolding recorded
  rec_in a b = simp (lt-ltb _ _ a, le-leb _ _ b)

  pub rec_above : R.top ≤ m → recorded R m ≡ false
  unfolding recorded
  rec_above a = simp (le-ltb _ _ a)

  pub rec_below : m + 8192 < R.top → recorded R m ≡ false
  unfolding recorded
  rec_below a = simp (lt-ltb m R.top (omega arith), lt-leb _ _ a)

-- a bit set in the ring
module _ (vs : List ℕ) (n r : ℕ) (len : length vs ≡ 128) (put : Put (get_or vs (n / 64 % 128) 0) (n % 64) r) where
  put_here : bit_at (set vs (n / 64 % 128) r) n ≡ 1
  put_here = same_word vs (n / 64 % 128) r n (omega arith) refl ∙ put.same

  put_else : (m : ℕ) → (m / 64 % 128 ≡ n / 64 % 128 → m % 64 ≡ n % 64 → ⊥) → bit_at (set vs (n / 64 % 128) r) m ≡ bit_at vs m
  unfolding bit_at
  put_else m f = go (ℕ_discrete (m / 64 % 128) (n / 64 % 128))
    where
      go : Dec (m / 64 % 128 ≡ n / 64 % 128) → bit_at (set vs (n / 64 % 128) r) m ≡ bit_at vs m
      go (yes e) = same_word vs (n / 64 % 128) r m (omega arith) e ∙ put.other (m % 64) (f e) ∙ ap (λ (x : ℕ). bit (get_or vs x 0) (m % 64)) (sym e)
      go (no g) = other_word vs (n / 64 % 128) r m g

-- the window slid, and the bit of n set
pub mark : (R S : Record) (n r : ℕ) → n < 2 ^ 62 → length S.words ≡ 128 → Slid R n S → S.top ≤ n + 8192 → Put (get_or S.words (n / 64 % 128) 0) (n % 64) r
    → Marked R n (record { words = set S.words (n / 64 % 128) r; top = S.top })
mark R S n r small len slid room put = record {
  top = slid.top;
  recorded_is = λ m. go m (dec_le S.top m) (dec_le S.top (m + 8192)) (ℕ_discrete m n) (dec_le R.top m);
  sound = λ s. record {
    clean = λ m a b. else m (omega (arith, slid.top)) ∙ slid.clean m a b ∙ s.clean m (omega (arith, slid.top)) b;
    last = λ a. end s (ℕ_discrete (S.top - 1) n);
    small = omega (arith, slid.top, s.small);
  };
}
  where
    T : Record
    T = record { words = set S.words (n / 64 % 128) r; top = S.top }

    else : (m : ℕ) → (m / 64 % 128 ≡ n / 64 % 128 → m % 64 ≡ n % 64 → ⊥) → bit_at (set S.words (n / 64 % 128) r) m ≡ bit_at S.words m
    else = put_else S.words n r len put

    here : bit_at (set S.words (n / 64 % 128) r) n ≡ 1
    here = put_here S.words n r len put

    end : Sound R → Dec (S.top - 1 ≡ n) → bit_at (set S.words (n / 64 % 128) r) (S.top - 1) ≡ 1
    end s (yes e) = ap (bit_at (set S.words (n / 64 % 128) r)) e ∙ here
    end s (no f) =
        else (S.top - 1) (omega (arith, slid.top)) ∙ slid.kept (S.top - 1) (omega (arith, slid.top)) (omega (arith, slid.top))
        ∙ ap (λ (x : ℕ). bit_at R.words (x - 1)) (omega (arith, slid.top)) ∙ s.last (omega (arith, slid.top))

    go : (m : ℕ) → Dec (S.top ≤ m) → Dec (S.top ≤ m + 8192) → Dec (m ≡ n) → Dec (R.top ≤ m) → recorded T m ≡ (leb S.top (m + 8192) && (eqb m n || recorded R m))
    go m (yes a) b c d = simp (rec_above T m a, le-leb S.top (m + 8192) (omega arith), ne_eqb m n (omega (arith, slid.top)), rec_above R m (omega (arith, slid.top)))
    go m (no a) (no b) c d = simp (rec_below T m (omega arith), lt-leb S.top (m + 8192) (omega arith))
    go m (no a) (yes b) (yes e) d =
        rec_in T m (omega arith) b ∙ eq-eqb _ 1 (ap (bit_at (set S.words (n / 64 % 128) r)) e ∙ here) ∙ simp (le-leb _ _ b, eq-eqb _ _ e)
    go m (no a) (yes b) (no f) (yes d) =
        rec_in T m (omega arith) b ∙ ap (λ (x : ℕ). eqb x 1) (else m (omega (arith, slid.top)) ∙ slid.fresh m d (omega arith) b) ∙ simp (le-leb _ _ b, ne_eqb _ _ f, rec_above R m d)
    go m (no a) (yes b) (no f) (no d) =
        rec_in T m (omega arith) b ∙ ap (λ (x : ℕ). eqb x 1) (else m (omega (arith, slid.top)) ∙ slid.kept m (omega arith) b)
        ∙ simp (le-leb _ _ b, ne_eqb _ _ f, rec_in R m (omega arith) (omega (arith, slid.top)))
