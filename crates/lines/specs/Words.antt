-- A line as words with single blanks (32) between them, and what a word is: a number with or without a sign, or bytes.
use Rattle.std.specs.Prelude.{ℕ, zero, suc, ◌<◌, ◌≡◌, Bool, true, false, not, ◌&&◌, ◌||◌, List, [], ◌∷◌, ◌++◌, length, take, drop, eqb, Option, Some, None, Result, Ok}
use Rattle.answers.specs.Choice.{◌⇒◌∣◌}
use Rattle.text.specs.Text.{every}
use Rattle.text.specs.Decimal.{parsed_of}
use Rattle.hexes.specs.Hex.{pairs_of}
use Rattle.search.specs.Words.{before, same_of}
use Rattle.lines.specs.declared.words.Signed.{Signed}
use Rattle.lines.specs.declared.words.Signed.TheVariants.{Plus, Minus}
use Rattle.hexes.specs.declared.HexError.{HexError}

unfoldable pub blanks : List ℕ → ℕ
blanks [] = 0
blanks (x ∷ s) =
    eqb x 32 ⇒ suc (blanks s)
    ∣ blanks s

-- whether a word is empty in a text that stands after a byte: a blank is at its end, or after another
unfoldable pub gap_behind : ℕ → List ℕ → Bool
gap_behind last [] = eqb last 32
gap_behind last (x ∷ s) = (eqb x 32 && eqb last 32) || gap_behind x s

-- how many words a line has, 0 if one is empty: a line begins as if after a blank
unfoldable pub count_of : List ℕ → ℕ
count_of s =
    gap_behind 32 s ⇒ 0
    ∣ suc (blanks s)

-- what stands after the first blank, nothing if there is none
unfoldable pub behind_blank : List ℕ → List ℕ
behind_blank s = drop (suc (before 32 s)) s

-- a line from its word n on; words count from 0
unfoldable pub from_word : List ℕ → ℕ → List ℕ
from_word s zero = s
from_word s (suc n) = from_word (behind_blank s) n

-- a text up to its first blank
unfoldable pub first_word : List ℕ → List ℕ
first_word s = take (before 32 s) s

-- the word n, empty if there are fewer
unfoldable pub word_of : List ℕ → ℕ → List ℕ
word_of s n = first_word (from_word s n)

-- a number with "-" before it, or without
unfoldable pub as_signed : Bool → Option ℕ → Option Signed
as_signed minus (Some value) =
    minus ⇒ Some (Minus value)
    ∣ Some (Plus value)
as_signed minus None = None

-- a word as a number that may have "-" (45) before its digits
unfoldable pub signed_of : List ℕ → Option Signed
signed_of [] = None
signed_of (x ∷ w) =
    eqb x 45 ⇒ as_signed true (parsed_of w)
    ∣ as_signed false (parsed_of (x ∷ w))

-- "-" stands for no bytes
unfoldable pub is_none : List ℕ → Bool
is_none w = same_of w (45 ∷ [])

-- a word as bytes, none or pairs of digits, and the output at exit
unfoldable pub bytes_of : List ℕ → List ℕ → Result ℕ HexError × List ℕ
bytes_of w out =
    is_none w ⇒ (Ok 0, out)
    ∣ pairs_of w out

-- what is meant by a word and by words: none is empty or has a blank
pub record IsWord (w : List ℕ) : Type 0 where
  pub some : 0 < length w
  pub no_blank : every (λ (x : ℕ). not (eqb x 32)) w ≡ true

abbrev pub AreWords : List (List ℕ) → Type 0
AreWords [] = Unit
AreWords (w ∷ ws) = IsWord w × AreWords ws

-- the line of a word and those that follow it
unfoldable pub joined_of : List ℕ → List (List ℕ) → List ℕ
joined_of w [] = w
joined_of w (v ∷ ws) = w ++ (32 ∷ joined_of v ws)
