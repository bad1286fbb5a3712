-- Words joined by single blanks are counted, and each is read back as it was.
-- Assumes nothing.
use mathlib.Core.Path.{◌≡◌, refl, ◌∙◌, ap}
use mathlib.Core.Bool.{true, false, not, and-eq-true_iff}
use mathlib.Core.List.{List, [], ◌∷◌, ◌++◌}
use Prim.Native.Nat.{ℕ, zero, suc, ◌≤◌}
use native.Mathlib.Omega.{arith}
use borrow.Author.Tests.{not-true}
use lib.Dec.{eqb}
use lib.ListN.{length, get_or, drop}
use lib.Seq.{take-length, take-append_seam}
use Rattle.text.specs.Text.{every}
use Rattle.search.specs.Words.{before}
use Rattle.lines.specs.Words.{blanks, gap_behind, count_of, behind_blank, from_word, first_word, word_of, IsWord, AreWords, joined_of}
use Rattle.lines.proofs.Counting.{some_words}

-- no character of a text is a blank
abbrev Full : List ℕ → Type 0
Full w = every (λ (x : ℕ). not (eqb x 32)) w ≡ true

-- the first is none, and the rest have none
parts : (x : ℕ) (w : List ℕ) → Full (x ∷ w) → (eqb x 32 ≡ false) × Full w
unfolding every
parts x w f =
    let b = (and-eq-true_iff (not (eqb x 32)) (every (λ (y : ℕ). not (eqb y 32)) w)).0 f in
    (not-true (eqb x 32) b.0, b.1)

before_all : (w : List ℕ) → Full w → before 32 w ≡ length w
unfolding before
before_all [] f = refl
before_all (x ∷ w) f = let p = parts x w f in rw (p.0, before_all w p.1)

before_blank : (w t : List ℕ) → Full w → before 32 (w ++ (32 ∷ t)) ≡ length w
unfolding before
before_blank [] t f = refl
before_blank (x ∷ w) t f = let p = parts x w f in rw (p.0, before_blank w t p.1)

blanks_none : (w : List ℕ) → Full w → blanks w ≡ 0
unfolding blanks
blanks_none [] f = refl
blanks_none (x ∷ w) f = let p = parts x w f in rw p.0 (blanks_none w p.1)

blanks_one : (w t : List ℕ) → Full w → blanks (w ++ (32 ∷ t)) ≡ suc (blanks t)
unfolding blanks
blanks_one [] t f = refl
blanks_one (x ∷ w) t f = let p = parts x w f in rw p.0 (blanks_one w t p.1)

-- after a character that is no blank
gap_none : (last : ℕ) (w : List ℕ) → eqb last 32 ≡ false → Full w → gap_behind last w ≡ false
unfolding gap_behind
gap_none last [] l f = l
gap_none last (x ∷ w) l f = let p = parts x w f in rw p.0 (gap_none x w p.0 p.1)

gap_on : (last : ℕ) (w t : List ℕ) → eqb last 32 ≡ false → Full w → gap_behind last (w ++ (32 ∷ t)) ≡ gap_behind 32 t
unfolding gap_behind
gap_on last [] t l f = rw l
gap_on last (x ∷ w) t l f = let p = parts x w f in rw p.0 (gap_on x w t p.0 p.1)

-- a word has no gap, whatever it stands after, and what stands after it is as after a blank
word_none : (last : ℕ) (w : List ℕ) → IsWord w → gap_behind last w ≡ false
unfolding gap_behind
word_none last [] i = absurd (omega (arith, i.some))
word_none last (x ∷ w) i = let p = parts x w i.no_blank in rw p.0 (gap_none x w p.0 p.1)

word_on : (last : ℕ) (w t : List ℕ) → IsWord w → gap_behind last (w ++ (32 ∷ t)) ≡ gap_behind 32 t
unfolding gap_behind
word_on last [] t i = absurd (omega (arith, i.some))
word_on last (x ∷ w) t i = let p = parts x w i.no_blank in rw p.0 (gap_on x w t p.0 p.1)

no_gap : (w : List ℕ) (ws : List (List ℕ)) → IsWord w → AreWords ws → gap_behind 32 (joined_of w ws) ≡ false
unfolding joined_of
no_gap w [] i j = word_none 32 w i
no_gap w (v ∷ ws) i j = word_on 32 w (joined_of v ws) i ∙ no_gap v ws j.0 j.1

blanks_between : (w : List ℕ) (ws : List (List ℕ)) → IsWord w → AreWords ws → blanks (joined_of w ws) ≡ length ws
unfolding joined_of
blanks_between w [] i j = blanks_none w i.no_blank
blanks_between w (v ∷ ws) i j = blanks_one w (joined_of v ws) i.no_blank ∙ ap suc (blanks_between v ws j.0 j.1)

-- the law of the count
pub joined_count : (w : List ℕ) (ws : List (List ℕ)) → IsWord w → AreWords ws → count_of (joined_of w ws) ≡ suc (length ws)
joined_count w ws i j = some_words (joined_of w ws) (no_gap w ws i j) ∙ ap suc (blanks_between w ws i j)

behind_word : (w t : List ℕ) → Full w → behind_blank (w ++ (32 ∷ t)) ≡ t
unfolding behind_blank
behind_word w t f = rw (before_blank w t f) (behind w)
  where
    behind : (v : List ℕ) → drop (suc (length v)) (v ++ (32 ∷ t)) ≡ t
    behind [] = refl
    behind (x ∷ v) = behind v

-- the law of a word
pub joined_word : (w : List ℕ) (ws : List (List ℕ)) (n : ℕ) → IsWord w → AreWords ws → n ≤ length ws → word_of (joined_of w ws) n ≡ get_or (w ∷ ws) n []
unfolding word_of joined_of from_word first_word
joined_word w [] zero i j h = rw (before_all w i.no_blank) (take-length w)
joined_word w [] (suc n) i j h = absurd (omega arith)
joined_word w (v ∷ ws) zero i j h = rw (before_blank w (joined_of v ws) i.no_blank) (take-append_seam w (32 ∷ joined_of v ws))
joined_word w (v ∷ ws) (suc n) i j h = rw (behind_word w (joined_of v ws) i.no_blank) (joined_word v ws n j.0 j.1 (omega arith))
