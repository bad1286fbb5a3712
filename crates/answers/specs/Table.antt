-- The table of answer numbers of docs/RULES.md as one row: the numbers of all answers, in its order.
use Rattle.std.specs.Prelude.{◌≡◌, List, [], ◌∷◌, map}
use Rattle.answers.specs.Answers.{number_of}
use Rattle.answers.specs.declared.Answer.{Answer}
use Rattle.answers.specs.declared.Answer.TheVariants.{Accepted, Done, FlowControl, StreamLimit, StreamState, FinalSize, FrameEncoding, ProtocolViolation, Closed, NotAbove, AboveCeiling, NotServed, SizeKnown, BelowRecord, InRecord, NoRoom, Unwritable, NoPacket, NoSuchNumber, NothingToAcknowledge, DoesNotFit}

-- every answer that there is (`proofs/Numbers.antt` finds each of them here by its number)
abbrev pub every_answer : List Answer
every_answer =
    Accepted ∷ Done ∷ FlowControl ∷ StreamLimit ∷ StreamState ∷ FinalSize ∷ FrameEncoding ∷ ProtocolViolation
    ∷ Closed ∷ NotAbove ∷ AboveCeiling ∷ NotServed ∷ SizeKnown ∷ BelowRecord ∷ InRecord ∷ NoRoom ∷ Unwritable ∷ NoPacket ∷ NoSuchNumber ∷ NothingToAcknowledge
    ∷ DoesNotFit ∷ []

pub record Table : Type 0 where
  -- 0, 100 for "done", the codes of RFC 9000, and our own from 101 on
  pub numbers : map number_of every_answer ≡ 0 ∷ 100 ∷ 3 ∷ 4 ∷ 5 ∷ 6 ∷ 7 ∷ 10 ∷ 101 ∷ 102 ∷ 103 ∷ 104 ∷ 105 ∷ 106 ∷ 107 ∷ 108 ∷ 109 ∷ 110 ∷ 111 ∷ 112 ∷ 120 ∷ []
