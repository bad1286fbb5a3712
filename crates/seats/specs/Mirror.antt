-- The mirror: what the role is. A client and a server that agree but for the exchange of types 0 with 1 and 2 with 3 in every ID, count and limit give the same answer to every frame whose admission is the same at both, to every local call and to every number asked for; and they agree so again.
-- So a rule of the client's seat is the server's with the types exchanged, whatever the rule: RFC 9000 2.1, docs/RULES.md, "Streams and credit".
use Rattle.std.specs.Prelude.{ℕ, ◌≡◌, true, List, length, Result, Ok, Err}
use Rattle.answers.specs.Answers.{accepts}
use Rattle.kinds.specs.declared.Kind.{Kind}
use Rattle.kinds.specs.declared.Role.{Role}
use Rattle.kinds.specs.declared.Space.{Space}
use Rattle.fields.specs.Heads.{head_at}
use Rattle.frames.specs.declared.Frame.{Frame}
use Rattle.frames.specs.declared.Frame.TheVariants.{Padding, Ping, Ack, AckEcn, ResetStream, StopSending, Crypto, NewToken, Stream, MaxData, MaxStreamData, MaxStreams, DataBlocked, StreamDataBlocked, StreamsBlocked, NewConnectionId, RetireConnectionId, PathChallenge, PathResponse, ConnectionClose, ApplicationClose, HandshakeDone}
use Rattle.frames.specs.declared.Reading.{Reading}
use Rattle.admission.specs.Admission.{admitted}
use Rattle.frames.specs.Fields.{fields_at}
use Rattle.halves.specs.Seat.{exchanged_of, seated_of, other_of}
use Rattle.halves.specs.Stream.{half_of, entries}
use Rattle.entries.specs.declared.Entry.{Entry}
use Rattle.entries.specs.Entry.{entry_of}
use Rattle.streams.specs.declared.Conn.{Conn}
use Rattle.streams.specs.declared.Limits.{Limits}
use Rattle.streams.specs.Conn.{initial_of, opened_of, count_of}
use Rattle.calls.specs.declared.Call.{Call}
use Rattle.calls.specs.declared.Call.TheVariants.{RaiseCredit, RaiseStream, RaiseCount, OpenNext}
use Rattle.accounts.specs.History.{State}
use Rattle.demands.specs.Hosts.{Act, answered, acted, number_given, hosted}
use Rattle.demands.specs.Hosts.Act.{TakeFrame, Make, HandOut}
use Rattle.frames.specs.Fields.{read_as}
use Rattle.frames.specs.Fields.{refused_as}
use Rattle.fields.specs.declared.Refusal.{Refusal}

-- ---- what a host holds, by types and IDs as on the wire

abbrev pub count_at : Conn → ℕ → ℕ
count_at c ty = count_of c (half_of (seated_of c.role ty))

abbrev pub opened_at : Conn → ℕ → ℕ
opened_at c ty = opened_of c (half_of (seated_of c.role ty))

abbrev pub initial_at : Conn → ℕ → ℕ
initial_at c ty = initial_of c.limits (half_of (seated_of c.role ty))

abbrev pub entry_on : State → ℕ → Entry
entry_on h id = entry_of h.table (seated_of h.conn.role id)

-- the numbers that a connection and its table have, as their types and the length of a table say
pub record Sized (h : State) : Type 0 where
  pub open_four : length h.conn.opened ≡ 4
  pub counts_two : length h.conn.limits.counts ≡ 2
  pub initial_three : length h.conn.limits.initial ≡ 3
  pub table_long : length h.table ≡ entries

-- the two ends agree but for the exchange
pub record Agree (h k : State) : Type 0 where
  pub role : k.conn.role ≡ other_of h.conn.role
  pub credit : k.conn.limits.credit ≡ h.conn.limits.credit
  pub total : k.conn.total ≡ h.conn.total
  pub next : k.conn.next ≡ h.conn.next
  pub mark : k.conn.mark ≡ h.conn.mark
  -- each count, each number of what is open and each initial credit of a type, and each stream's entry, is that of the exchanged type or ID
  pub counts : (ty : ℕ) → count_at k.conn (exchanged_of ty) ≡ count_at h.conn ty
  pub opens : (ty : ℕ) → opened_at k.conn (exchanged_of ty) ≡ opened_at h.conn ty
  pub initials : (ty : ℕ) → initial_at k.conn (exchanged_of ty) ≡ initial_at h.conn ty
  pub streams : (id : ℕ) → entry_on k (exchanged_of id) ≡ entry_on h id

-- ---- the same frame and the same call at the other end

-- a frame with the exchanged ID of its stream; those that name none are as they are
abbrev pub exchanged_frame : Frame → Frame
exchanged_frame Padding = Padding
exchanged_frame Ping = Ping
exchanged_frame (Ack largest delay count first at) = Ack largest delay count first at
exchanged_frame (AckEcn largest delay count first at ect0 ect1 ce) = AckEcn largest delay count first at ect0 ect1 ce
exchanged_frame (ResetStream id code size) = ResetStream (exchanged_of id) code size
exchanged_frame (StopSending id code) = StopSending (exchanged_of id) code
exchanged_frame (Crypto offset at len) = Crypto offset at len
exchanged_frame (NewToken at len) = NewToken at len
exchanged_frame (Stream id offset fin at len) = Stream (exchanged_of id) offset fin at len
exchanged_frame (MaxData maximum) = MaxData maximum
exchanged_frame (MaxStreamData id maximum) = MaxStreamData (exchanged_of id) maximum
exchanged_frame (MaxStreams uni maximum) = MaxStreams uni maximum
exchanged_frame (DataBlocked maximum) = DataBlocked maximum
exchanged_frame (StreamDataBlocked id maximum) = StreamDataBlocked (exchanged_of id) maximum
exchanged_frame (StreamsBlocked uni maximum) = StreamsBlocked uni maximum
exchanged_frame (NewConnectionId sequence retire at len token) = NewConnectionId sequence retire at len token
exchanged_frame (RetireConnectionId sequence) = RetireConnectionId sequence
exchanged_frame (PathChallenge at) = PathChallenge at
exchanged_frame (PathResponse at) = PathResponse at
exchanged_frame (ConnectionClose code ty at len) = ConnectionClose code ty at len
exchanged_frame (ApplicationClose code at len) = ApplicationClose code at len
exchanged_frame HandshakeDone = HandshakeDone

abbrev pub exchanged_reading : Result Reading Refusal → Result Reading Refusal
exchanged_reading (Ok r) = read_as (exchanged_frame r.frame) r.ty r.next
exchanged_reading (Err r) = refused_as r.answer r.ty

-- the bytes r hold at a place what the bytes s hold there, but for the exchange: the same type, whose admission in packets of this kind is the same at both ends, and the fields of the exchanged frame, or such as give the same code
pub record Exchanged (role : Role) (s r : List ℕ) (at : ℕ) (kind : Kind) : Type 0 where
  pub head : head_at r at ≡ head_at s at
  pub admission : (ty next : ℕ) → head_at s at ≡ Ok (ty, next) → admitted (other_of role) kind ty ≡ admitted role kind ty
  pub fields : (ty next : ℕ) → head_at s at ≡ Ok (ty, next) → fields_at r next ty ≡ exchanged_reading (fields_at s next ty)

-- a call with the exchanged stream or type
abbrev pub exchanged_call : Call → Call
exchanged_call (RaiseCredit new) = RaiseCredit new
exchanged_call (RaiseStream id new) = RaiseStream (exchanged_of id) new
exchanged_call (RaiseCount ty new) = RaiseCount (exchanged_of ty) new
exchanged_call (OpenNext ty) = OpenNext (exchanged_of ty)

-- ---- the law

-- a call at the one end and its like at the other: the same answer, and states that agree again
pub record Alike (h k : State) (x y : Act) : Type 0 where
  pub answer : answered k y ≡ answered h x
  pub agree : Agree (acted h x) (acted k y)

pub record Mirror (h k : State) : Type 0 where
  pub frame : (s r : List ℕ) (at : ℕ) (kind : Kind) → Exchanged h.conn.role s r at kind → Alike h k (TakeFrame s at kind) (TakeFrame r at kind)
  pub call : (call : Call) → Alike h k (Make call) (Make (exchanged_call call))
  -- the stream that is opened at the one end is that of the exchanged ID at the other
  pub stream : (ty : ℕ) → accepts (answered h (Make (OpenNext ty))) ≡ true → number_given k (Make (OpenNext (exchanged_of ty))) ≡ exchanged_of (number_given h (Make (OpenNext ty)))
  pub number : (space : Space) → Alike h k (HandOut space) (HandOut space)
  pub number_given_law : (space : Space) → number_given k (HandOut space) ≡ number_given h (HandOut space)

abbrev pub Mirrors : Type 0
Mirrors = (h k : State) → Sized h → Sized k → Agree h k → Mirror h k

-- two openings with the same limits agree, and every state has its like
abbrev pub OpenAlike : Type 0
OpenAlike = (role : Role) (o : Limits) (t : List Entry) → Agree (hosted role o t) (hosted (other_of role) o t)
