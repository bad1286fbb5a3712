-- A record over its whole history: numbers come one after the other to a record that was new, and what it holds is told by the numbers alone, with no ring.
use Rattle.std.specs.Prelude.{ℕ, ◌+◌, ◌-◌, ◌^◌, max, ◌≡◌, Bool, true, false, ◌&&◌, ◌||◌, List, [], ◌∷◌, ltb, leb, eqb}
use Rattle.answers.specs.Answers.{accepts}
use Rattle.answers.specs.Choice.{◌⇒◌∣◌}
use Rattle.answers.specs.declared.Answer.{Answer}
use Rattle.answers.specs.declared.Answer.TheVariants.{Accepted, BelowRecord, InRecord, NoSuchNumber}
use Rattle.records.specs.declared.Record.{Record}
use Rattle.records.specs.Marks.{recorded, none_of, sound_of}
use Rattle.records.specs.Ring.{taken_of}

-- the record after these numbers came, the latest first; a refused one leaves it
unfoldable pub record_after : List ℕ → Record
record_after [] = none_of
record_after (n ∷ xs) = (taken_of (record_after xs) n).«record»

-- whether a number is among these
unfoldable pub is_among : ℕ → List ℕ → Bool
is_among m [] = false
is_among m (n ∷ l) = eqb m n || is_among m l

-- one above the largest of these, 0 if there is none
unfoldable pub above_all : List ℕ → ℕ
above_all [] = 0
above_all (n ∷ l) = max (above_all l) (n + 1)

-- the answer to n after the numbers l were taken: a number above 2^62-1 is 111; "those from largest-8,191 to largest. Below that: 106. Already in it: 107"
unfoldable pub answer_after : List ℕ → ℕ → Answer
answer_after l n =
    ltb (2 ^ 62 - 1) n ⇒ NoSuchNumber
    ∣ ltb (n + 8192) (above_all l) ⇒ BelowRecord
    ∣ is_among n l ⇒ InRecord
    ∣ Accepted

-- those of the numbers that came which were answered 0, the latest first
unfoldable pub taken_numbers : List ℕ → List ℕ
taken_numbers [] = []
taken_numbers (n ∷ xs) =
    accepts (answer_after (taken_numbers xs) n) ⇒ n ∷ taken_numbers xs
    ∣ taken_numbers xs

-- what holds of a record R after the numbers l were taken since it was new
pub record Holds (l : List ℕ) (R : Record) : Type 0 where
  -- it fits, whatever came
  pub fits : sound_of R ≡ true
  -- its top is one above the largest number
  pub top : R.top ≡ above_all l
  -- "Each space keeps a record of the last 8,192 packet numbers": it holds those of them that are not below largest-8,191, and no others
  pub last : (m : ℕ) → recorded R m ≡ (leb (above_all l) (m + 8192) && is_among m l)
  -- and the next number is answered by them
  pub next : (n : ℕ) → (taken_of R n).answer ≡ answer_after l n
