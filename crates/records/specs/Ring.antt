-- The one record that marks a set of numbers, and what is answered to a number that comes, with the record after it.
use Rattle.std.specs.Prelude.{ℕ, zero, suc, ◌+◌, ◌-◌, ◌*◌, ◌/◌, ◌^◌, ◌<◌, max, ◌≡◌, Bool, not, ◌&&◌, ◌||◌, List, [], ◌∷◌, ltb, eqb, Result}
use Rattle.answers.specs.Choice.{◌⇒◌∣◌}
use Rattle.answers.specs.Outcome.{outcome_of}
use Rattle.answers.specs.declared.Answer.{Answer}
use Rattle.answers.specs.declared.Answer.TheVariants.{Accepted, BelowRecord, InRecord, NoSuchNumber, DoesNotFit}
use Rattle.records.specs.declared.Record.{Record}
use Rattle.records.specs.declared.Taken.{Taken}
use Rattle.ring.specs.Bits.{as_bit}
use Rattle.records.specs.Marks.{recorded, test_of, sound_of, Sound}

-- the word of k bits whose bit i is set exactly where b i holds
unfoldable pub word_of : ℕ → (ℕ → Bool) → ℕ
word_of zero b = 0
word_of (suc k) b = 2 * word_of k (λ i. b (suc i)) + as_bit (b 0)

-- the list of n words, the word k of which is w k
unfoldable pub list_of : ℕ → (ℕ → ℕ) → List ℕ
list_of zero w = []
list_of (suc n) w = w 0 ∷ list_of n (λ k. w (suc k))

-- the slot p is marked where the record's top is T and P its set: the slot stands for the largest number below T that is p up to a multiple of 8,192, and for no number where p is not below T
unfoldable pub slot_of : (ℕ → Bool) → ℕ → ℕ → Bool
slot_of P T p = ltb p T && P (p + (T - 1 - p) / 8192 * 8192)

-- the one record with the top T that marks the set P
unfoldable pub ring_of : (ℕ → Bool) → ℕ → Record
ring_of P T = record { words = list_of 128 (λ k. word_of 64 (λ i. slot_of P T (64 * k + i))); top = T }

-- the record R with the number n: the largest is the larger one, and marked are n and what was, as far as the window holds it
unfoldable pub with_mark : Record → ℕ → Record
with_mark R n = ring_of (λ m. eqb m n || recorded R m) (max R.top (n + 1))

-- a refusal leaves the record as it was
abbrev pub left : Record → Answer → Taken
left R a = record { answer = a; «record» = R }

-- the answer to a number that comes, and the record after it
unfoldable pub taken_of : Record → ℕ → Taken
taken_of R n =
    not (sound_of R) ⇒ left R DoesNotFit
    ∣ ltb (2 ^ 62 - 1) n ⇒ left R NoSuchNumber
    ∣ ltb (n + 8192) R.top ⇒ left R BelowRecord
    ∣ recorded R n ⇒ left R InRecord
    ∣ record { answer = Accepted; «record» = with_mark R n }

-- whether it was recorded, and the record after it, where the record was lent
abbrev pub taken_as : Taken → Result Unit Answer × Record
taken_as t = (outcome_of t.answer, t.«record»)

-- what holds of an acceptance that leaves the record S
pub record Accepts (R : Record) (n : ℕ) (S : Record) : Type 0 where
  pub could_be : Sound R
  pub low : n < 2 ^ 62
  pub fresh : test_of R n ≡ Accepted
  pub after : S ≡ with_mark R n
