-- Demand 1 of every public call that can refuse: "A refused frame, or a packet's refused header or empty payload, changes nothing but the closing mark; any other refused call changes and writes nothing."
use Rattle.std.specs.Prelude.{ℕ, ◌≡◌, Bool, false, ◌||◌, List, length, eqb, Result, Ok, Err}
use Rattle.kinds.specs.declared.Role.{Role}
use Rattle.answers.specs.Choice.{◌⇒◌∣◌}
use Rattle.answers.specs.Answers.{number_of, accepts}
use Rattle.answers.specs.declared.Answer.{Answer}
use Rattle.answers.specs.declared.Answer.TheVariants.{Accepted}
use Rattle.wire.specs.Number.{number_at, with_number}
use Rattle.wire.specs.Writing.{writes, number_draft}
use Rattle.row.specs.Row.{row_draft}
use Rattle.frames.specs.declared.Frame.{Frame}
use Rattle.contents.specs.Content.{contents}
use Rattle.sizes.specs.Spelled.{frame_draft}
use Rattle.records.specs.declared.Record.{Record}
use Rattle.records.specs.Ring.{taken_of}
use Rattle.acks.specs.Ack.{ack_draft}
use Rattle.entries.specs.declared.Entry.{Entry}
use Rattle.streams.specs.declared.Limits.{Limits}
use Rattle.streams.specs.declared.Mark.TheVariants.{Code}
use Rattle.streams.specs.Conn.{marked_as}
use Rattle.opening.specs.Opening.{opening_when}
use Rattle.tables.specs.Opened.{opened_table}
use Rattle.accounts.specs.History.{State}
use Rattle.demands.specs.Hosts.{Act, answered, acted, with_conn, records_after, place_told, kept}
use Rattle.demands.specs.Hosts.Act.{TakeFrame, TakePacket, Make, HandOut}
use Rattle.demands.specs.Heard.{frames_in}

-- the public calls that can refuse, each with all that is handed in: a host's, opening, a number recorded, and the writers
pub data Asked : Type 0 where
  OfHost : State → Act → Asked
  Open : Role → List Entry → Limits → Asked
  RecordNumber : Record → ℕ → Asked
  WriteNumber : ℕ → List ℕ → ℕ → Asked
  WriteRow : List ℕ → List ℕ → ℕ → Asked
  WriteFrame : List ℕ → Frame → List ℕ → ℕ → Asked
  Acknowledge : Record → ℕ → List ℕ → ℕ → Asked

abbrev pub wrote_answer : Result ℕ Answer → Answer
wrote_answer (Ok n) = Accepted
wrote_answer (Err answer) = answer

abbrev pub answer_to : Asked → Answer
answer_to (OfHost h x) = answered h x
answer_to (Open role t o) = (opening_when role (length t) o).answer
answer_to (RecordNumber R n) = (taken_of R n).answer
answer_to (WriteNumber v out at) = wrote_answer (writes (number_draft v) out at).0
answer_to (WriteRow vs out at) = wrote_answer (writes (row_draft vs) out at).0
answer_to (WriteFrame s f out at) = wrote_answer (writes (frame_draft (contents s f)) out at).0
answer_to (Acknowledge R delay out at) = wrote_answer (writes (ack_draft R delay) out at).0

-- 3, 4, 5, 6, 7 and 10 close the connection
abbrev pub closes : Answer → Bool
closes answer =
    let n = number_of answer in
    eqb n 3 || (eqb n 4 || (eqb n 5 || (eqb n 6 || (eqb n 7 || eqb n 10))))

-- what a refusal with a frame's type leaves of what the host keeps: closed with code and type, or all as it was
abbrev pub leaves : Answer → ℕ → State → State
leaves answer ty h =
    closes answer ⇒ with_conn h (marked_as h.conn (Code answer ty))
    ∣ h

-- "type 0 if none was read": the type that stands at a place
abbrev pub type_at : List ℕ → ℕ → ℕ
type_at s at = with_number (number_at s at) 0 (λ ty next. ty)

-- what a refusal leaves. Of a packet: what the frames before the refused one left, and that closed; the records as they were
abbrev pub Left : Asked → Type 0
Left (OfHost h (TakeFrame s at kind)) = acted h (TakeFrame s at kind) ≡ leaves (answered h (TakeFrame s at kind)) (type_at s at) h
Left (OfHost h (TakePacket rs first s)) =
    (acted h (TakePacket rs first s) ≡ leaves (answered h (TakePacket rs first s)) (type_at s (place_told h rs first s)) (kept h (frames_in h rs first s).accepted))
    × (records_after h rs first s ≡ rs)
Left (OfHost h (Make call)) = acted h (Make call) ≡ h
Left (OfHost h (HandOut space)) = acted h (HandOut space) ≡ h
Left (Open role t o) = opened_table role t o ≡ t
Left (RecordNumber R n) = (taken_of R n).«record» ≡ R
Left (WriteNumber v out at) = (writes (number_draft v) out at).1 ≡ out
Left (WriteRow vs out at) = (writes (row_draft vs) out at).1 ≡ out
Left (WriteFrame s f out at) = (writes (frame_draft (contents s f)) out at).1 ≡ out
Left (Acknowledge R delay out at) = (writes (ack_draft R delay) out at).1 ≡ out

-- what is handed in is a value of its type: a connection has four numbers of what is open
abbrev pub Typed : Asked → Type 0
Typed (OfHost h x) = length h.conn.opened ≡ 4
Typed (Open role t o) = Unit
Typed (RecordNumber R n) = Unit
Typed (WriteNumber v out at) = Unit
Typed (WriteRow vs out at) = Unit
Typed (WriteFrame s f out at) = Unit
Typed (Acknowledge R delay out at) = Unit

abbrev pub Demand1 : Type 0
Demand1 = (x : Asked) → Typed x → accepts (answer_to x) ≡ false → Left x
