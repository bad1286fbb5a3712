-- The numbers of the answers, docs/RULES.md, "Answer numbers": the one place where they stand.
use Rattle.std.specs.Prelude.{ℕ, Bool, eqb}
use Rattle.answers.specs.declared.Answer.{Answer}
use Rattle.answers.specs.declared.Answer.TheVariants.{Accepted, Done, FlowControl, StreamLimit, StreamState, FinalSize, FrameEncoding, ProtocolViolation, Closed, NotAbove, AboveCeiling, NotServed, SizeKnown, BelowRecord, InRecord, NoRoom, Unwritable, NoPacket, NoSuchNumber, NothingToAcknowledge, DoesNotFit}

abbrev pub number_of : Answer → ℕ
-- accepted
number_of Accepted = 0
-- an empty rest: "done", whose number is ours
number_of Done = 100
-- FLOW_CONTROL_ERROR, STREAM_LIMIT_ERROR, STREAM_STATE_ERROR, FINAL_SIZE_ERROR, FRAME_ENCODING_ERROR, PROTOCOL_VIOLATION (RFC 9000, 20.1)
number_of FlowControl = 3
number_of StreamLimit = 4
number_of StreamState = 5
number_of FinalSize = 6
number_of FrameEncoding = 7
number_of ProtocolViolation = 10
-- connection closed
number_of Closed = 101
-- raise not above the present value
number_of NotAbove = 102
-- above a ceiling, or no number or length
number_of AboveCeiling = 103
-- stream not open, no receive half, or a type that this call does not serve
number_of NotServed = 104
-- its final size is known
number_of SizeKnown = 105
-- packet below the record; packet recorded already
number_of BelowRecord = 106
number_of InRecord = 107
-- output shorter than what is to be written
number_of NoRoom = 108
-- a value above 2^62-1, or a frame that the reader would refuse with 7
number_of Unwritable = 109
-- no packet of the forms
number_of NoPacket = 110
-- no such packet number
number_of NoSuchNumber = 111
-- nothing to acknowledge
number_of NothingToAcknowledge = 112
-- table or record that does not fit
number_of DoesNotFit = 120

-- whether an answer accepts
abbrev pub accepts : Answer → Bool
accepts answer = eqb (number_of answer) 0

-- what a call answers: its number, and the values that come with it
pub record Said (Values : Type 0) : Type 0 where
  pub number : ℕ
  pub values : Values

-- accepted, with values
abbrev pub accepting : {Values : Type 0} → Values → Said Values
accepting values = record { number = number_of Accepted; values = values }

-- refused, with values
abbrev pub refusing : {Values : Type 0} → Answer → Values → Said Values
refusing answer values = record { number = number_of answer; values = values }
