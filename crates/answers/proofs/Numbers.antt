-- Two answers with one number are one answer: each is found again by its number.
-- Assumes nothing.
use mathlib.Core.Path.{◌≡◌, refl, sym, ◌∙◌, ap}
use Prim.Native.Nat.{ℕ}
use types.Run.{OneOf, miss}
use lib.Dec.{eqb}
use Rattle.answers.specs.Choice.{◌⇒◌∣◌}
use Rattle.answers.specs.Answers.{number_of}
use Rattle.answers.specs.Table.{every_answer}
use Rattle.answers.specs.declared.Answer.{Answer}
use Rattle.answers.specs.declared.Answer.TheVariants.{Accepted, Done, FlowControl, StreamLimit, StreamState, FinalSize, FrameEncoding, ProtocolViolation, Closed, NotAbove, AboveCeiling, NotServed, SizeKnown, BelowRecord, InRecord, NoRoom, Unwritable, NoPacket, NoSuchNumber, NothingToAcknowledge, DoesNotFit}
use mathlib.Core.List.{List, [], ◌∷◌}

-- the first answer of a list with the number n
first : List Answer → ℕ → Answer
first [] n = Accepted
first (a ∷ l) n = eqb (number_of a) n ⇒ a ∣ first l n

-- the answer with a number
pub answer_of : ℕ → Answer
answer_of n = first every_answer n

pub again : (a : Answer) → answer_of (number_of a) ≡ a
unfolding first answer_of
again a = elim a as (λ (k : Answer). answer_of (number_of k) ≡ k) [
  | Accepted ↦ refl
  | Done ↦ refl
  | FlowControl ↦ refl
  | StreamLimit ↦ refl
  | StreamState ↦ refl
  | FinalSize ↦ refl
  | FrameEncoding ↦ refl
  | ProtocolViolation ↦ refl
  | Closed ↦ refl
  | NotAbove ↦ refl
  | AboveCeiling ↦ refl
  | NotServed ↦ refl
  | SizeKnown ↦ refl
  | BelowRecord ↦ refl
  | InRecord ↦ refl
  | NoRoom ↦ refl
  | Unwritable ↦ refl
  | NoPacket ↦ refl
  | NoSuchNumber ↦ refl
  | NothingToAcknowledge ↦ refl
  | DoesNotFit ↦ refl
]

pub one_case : (a b : Answer) → number_of a ≡ number_of b → a ≡ b
one_case a b e = sym (again a) ∙ ap answer_of e ∙ again b

-- the tags of all answers but `Accepted`: where a match has told one of these apart, the answer is not `Accepted`, whose tag is 0
abbrev pub others : List ℕ
others = 1 ∷ 2 ∷ 3 ∷ 4 ∷ 5 ∷ 6 ∷ 7 ∷ 8 ∷ 9 ∷ 10 ∷ 11 ∷ 12 ∷ 13 ∷ 14 ∷ 15 ∷ 16 ∷ 17 ∷ 18 ∷ 19 ∷ 20 ∷ []

pub other : OneOf others 0 → ⊥
other = miss others 0 tt
