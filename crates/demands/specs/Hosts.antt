-- Histories of a host's calls: what a host keeps of a connection, and what each public call of crates tables, single, receive and local makes of it, by the definitions that the contracts cite.
-- That the contracts, as the toolchain reads them, say just this is shown call by call (`Tied`).
use Rattle.std.specs.Prelude.{ℕ, ◌≡◌, List, [], ◌∷◌, length}
use Rattle.kinds.specs.declared.Role.{Role}
use Rattle.answers.specs.declared.Answer.{Answer}
use Rattle.answers.specs.declared.Answer.TheVariants.{Accepted}
use Rattle.kinds.specs.declared.Kind.{Kind}
use Rattle.streams.specs.declared.Conn.{Conn}
use Rattle.entries.specs.declared.Entry.{Entry}
use Rattle.streams.specs.declared.Limits.{Limits}
use Rattle.kinds.specs.declared.Space.{Space}
use Rattle.streams.specs.Conn.{handed_out_of}
use Rattle.calls.specs.declared.Call.{Call}
use Rattle.spaces.specs.declared.Records.{Records}
use Rattle.opening.specs.Opening.{opening_when}
use Rattle.tables.specs.Opened.{opened_table}
use Rattle.receive.specs.Taking.{took_of, took_table}
use Rattle.single.specs.Single.{took_frame_of, frame_table}
use Rattle.local.specs.Calling.{called_at, called_table}
use Rattle.accounts.specs.History.{State}

-- the calls but opening, each with what is handed in beside the connection and the table. A packet comes with whatever records the host hands in: demand 3 asks for the connection and the table to be untouched, not for these
pub data Act : Type 0 where
  TakeFrame : List ℕ → ℕ → Kind → Act
  TakePacket : Records → ℕ → List ℕ → Act
  Make : Call → Act
  HandOut : Space → Act

-- the answer of a call
abbrev pub answered : State → Act → Answer
answered h (TakeFrame s at kind) = (took_frame_of h.conn h.table s at kind).answer
answered h (TakePacket rs first s) = (took_of h.conn rs h.table first s).answer
answered h (Make call) = (called_at h.conn h.table call).answer
answered h (HandOut space) = (handed_out_of h.conn space).answer

-- with another connection, and with another table too
abbrev pub with_conn : State → Conn → State
with_conn h c = record { conn = c; table = h.table }

abbrev pub with_both : Conn → List Entry → State
with_both c t = record { conn = c; table = t }

-- what the host keeps after it
abbrev pub acted : State → Act → State
acted h (TakeFrame s at kind) = with_both (took_frame_of h.conn h.table s at kind).conn (frame_table h.conn h.table s at kind)
acted h (TakePacket rs first s) = with_both (took_of h.conn rs h.table first s).conn (took_table h.conn rs h.table first s)
acted h (Make call) = with_both (called_at h.conn h.table call).conn (called_table h.conn h.table call)
acted h (HandOut space) = with_conn h (handed_out_of h.conn space).conn

-- what a packet leaves of the records that came with it, and the place that it tells
abbrev pub records_after : State → Records → ℕ → List ℕ → Records
records_after h rs first s = (took_of h.conn rs h.table first s).records

abbrev pub place_told : State → Records → ℕ → List ℕ → ℕ
place_told h rs first s = (took_of h.conn rs h.table first s).place

-- the number that a call hands out: the ID of the stream that was opened, or a packet number
abbrev pub number_given : State → Act → ℕ
number_given h (TakeFrame s at kind) = 0
number_given h (TakePacket rs first s) = 0
number_given h (Make call) = (called_at h.conn h.table call).number
number_given h (HandOut space) = (handed_out_of h.conn space).number

-- after a list of calls, the first first; "untouched between calls"
unfoldable pub kept : State → List Act → State
kept h [] = h
kept h (x ∷ xs) = kept (acted h x) xs

-- opening with the limits o on a table t, as an end of this role, was accepted; o has two counts, as its type says
pub record WasHosted (role : Role) (o : Limits) (t : List Entry) : Type 0 where
  pub accepted : (opening_when role (length t) o).answer ≡ Accepted
  pub two : length o.counts ≡ 2

-- what the host keeps then
unfoldable pub hosted : Role → Limits → List Entry → State
hosted role o t = record { conn = (opening_when role (length t) o).conn; table = opened_table role t o }

-- what the host keeps after the calls xs on a connection that was opened with o
abbrev pub host_after : Role → Limits → List Entry → List Act → State
host_after role o t xs = kept (hosted role o t) xs
