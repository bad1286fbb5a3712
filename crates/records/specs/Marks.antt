-- The numbers that a packet record holds, docs/RULES.md, "The record of a space": those from largest-8,191 to largest, a bit for each; and what is answered of a record and of a number.
use Rattle.std.specs.Prelude.{ℕ, ◌+◌, ◌-◌, ◌^◌, ◌≤◌, ◌<◌, ◌≡◌, Bool, ◌&&◌, ◌||◌, length, get_or, replicate, ltb, leb, eqb}
use Rattle.answers.specs.Choice.{◌⇒◌∣◌}
use Rattle.answers.specs.declared.Answer.{Answer}
use Rattle.answers.specs.declared.Answer.TheVariants.{Accepted, BelowRecord, InRecord, DoesNotFit}
use Rattle.ring.specs.Bits.{bit_at, marked, unmarked}
use Rattle.records.specs.declared.Record.{Record}

-- the number m is recorded: it is among the 8,192 numbers that end with the largest, and its bit is set
unfoldable pub recorded : Record → ℕ → Bool
recorded R = marked R.words R.top

-- the record of a space of which nothing came
unfoldable pub none_of : Record
none_of = record { words = replicate 128 0; top = 0 }

-- below the record: 106; already in it: 107
unfoldable pub test_of : Record → ℕ → Answer
test_of R n =
    ltb (n + 8192) R.top ⇒ BelowRecord
    ∣ recorded R n ⇒ InRecord
    ∣ Accepted

-- a record that fits: no number below 0 is marked (theirs are the slots from the top up to 8,192), the largest is marked, and it is not above 2^62-1
unfoldable pub sound_of : Record → Bool
sound_of R = unmarked R.words R.top (8192 - R.top) && ((eqb R.top 0 || recorded R (R.top - 1)) && leb R.top (2 ^ 62))

-- a record that does not fit: 120
unfoldable pub check_of : Record → Answer
check_of R =
    sound_of R ⇒ Accepted
    ∣ DoesNotFit

-- the same as facts, for proofs: no number below 0 is marked
abbrev pub Clean : Record → Type 0
Clean R = (m : ℕ) → R.top ≤ m → m < 8192 → bit_at R.words m ≡ 0

-- and the largest is marked, and is a packet number
pub record Sound (R : Record) : Type 0 where
  pub clean : Clean R
  pub last : 0 < R.top → bit_at R.words (R.top - 1) ≡ 1
  pub small : R.top ≤ 2 ^ 62

-- a value of the type: 128 words of 64 bits
pub record Words (R : Record) : Type 0 where
  pub long : length R.words ≡ 128
  pub small : (k : ℕ) → get_or R.words k 0 < 2 ^ 64
