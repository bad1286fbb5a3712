-- The answer to every call by what was accepted before it: of every opening that was accepted, and of whatever calls came since. Demand 3 says it of STREAM and RESET_STREAM where there is credit for all; here it is said of every frame and every local call, rule 5 among the rules.
-- Nothing is looked at but the opening, the history and what is handed in: no part of the connection or of the table.
use Rattle.std.specs.Prelude.{ℕ, ◌≡◌, Bool, true, false, not, ◌||◌, ◌&&◌, List, ltb, leb, Some, None}
use Rattle.kinds.specs.declared.Role.{Role}
use Rattle.answers.specs.Choice.{◌⇒◌∣◌}
use Rattle.answers.specs.declared.Answer.{Answer}
use Rattle.answers.specs.declared.Answer.TheVariants.{Accepted, FlowControl, StreamLimit, StreamState, FinalSize, ProtocolViolation, Closed, AboveCeiling, NotServed, SizeKnown}
use Rattle.wire.specs.Number.{number_at}
use Rattle.frames.specs.declared.Frame.{Frame}
use Rattle.kinds.specs.declared.Kind.{Kind}
use Rattle.frames.specs.Reading.{frame_at}
use Rattle.halves.specs.Stream.{stream_of, half_of, ordinal_of, peers, receives, sends, most_streams}
use Rattle.entries.specs.declared.Entry.{Entry}
use Rattle.entries.specs.Entry.{most_credit, is_known}
use Rattle.streams.specs.declared.Limits.{Limits}
use Rattle.streams.specs.declared.Mark.TheVariants.{Open}
use Rattle.kinds.specs.declared.Space.{Space}
use Rattle.streams.specs.Conn.{is_open}
use Rattle.rules.specs.declared.View.{View}
use Rattle.rules.specs.declared.View.TheVariants.{Ends, Blocks, ForSender, Acks, Closes, Nothing}
use Rattle.views.specs.View.{view_of}
use Rattle.rules.specs.Rules.{rule1, rule2, rule3, rule4, rule5}
use Rattle.calls.specs.declared.Call.{Call}
use Rattle.calls.specs.declared.Call.TheVariants.{RaiseCredit, RaiseStream, RaiseCount, OpenNext}
use Rattle.calls.specs.Calls.{seated_call, raise_of, peers_type, ours_type}
use Rattle.limits.specs.Fits.{sum_to}
use Rattle.steps.specs.declared.Shown.TheVariants.{Nothing as Unseen, Typed, Whole}
use Rattle.accounts.specs.History.{Event, State, own, furthest, final_named}
use Rattle.accounts.specs.Advertised.{credit_by, stream_credit_by, count_by, open_by, next_by, mark_by}
use Rattle.demands.specs.Hosts.{Act, answered, host_after}
use Rattle.demands.specs.Hosts.Act.{TakeFrame, TakePacket, Make, HandOut}
use Rattle.demands.specs.Heard.{shown_by, heard_by}
use Rattle.hosts.specs.OnlyThen.{does_not_fit}
use Rattle.frames.specs.Fields.{read_as}
use Rattle.frames.specs.Fields.{refused_as}

-- "the counted total is the sum, over streams, of the furthest end or final size that an accepted frame named"
abbrev pub total_by : List Event → ℕ
total_by h = sum_to 256 (furthest h)

-- the state rules on what a frame asks
unfoldable pub verdict_by : Limits → List Event → View → Answer
-- STREAM and RESET_STREAM: rules 1 to 5
verdict_by o h (Ends id end fin) =
    rule1 (count_by o h (half_of id)) (stream_of id) ⇒ StreamState
    ∣ rule2 (count_by o h (half_of id)) (stream_of id) ⇒ StreamLimit
    ∣ rule3 (final_named (own h id)) (furthest h id) end fin ⇒ FinalSize
    ∣ rule4 (stream_credit_by o h id) end ⇒ FlowControl
    ∣ rule5 (credit_by o h) (total_by h) (furthest h id) end ⇒ FlowControl
    ∣ Accepted
-- "STREAM_DATA_BLOCKED: rules 1 and 2"
verdict_by o h (Blocks id) =
    rule1 (count_by o h (half_of id)) (stream_of id) ⇒ StreamState
    ∣ rule2 (count_by o h (half_of id)) (stream_of id) ⇒ StreamLimit
    ∣ Accepted
-- "STOP_SENDING and MAX_STREAM_DATA: type 2 is 5, type 1 or 3 not opened by us is 5, then rule 2 for type 0"
verdict_by o h (ForSender id) =
    not (sends (half_of id)) ⇒ StreamState
    ∣ (not (peers (half_of id)) && leb (count_by o h (half_of id)) (ordinal_of id)) ⇒ StreamState
    ∣ rule2 (count_by o h (half_of id)) (stream_of id) ⇒ StreamLimit
    ∣ Accepted
-- "An ACK of a number not yet handed out in its space is 10"
verdict_by o h (Acks space largest) = leb (next_by h space) largest ⇒ ProtocolViolation ∣ Accepted
verdict_by o h Closes = Accepted
verdict_by o h Nothing = Accepted

-- a local call: "Order: 101, 104, 105, 103, 102"
unfoldable pub reply_by : Limits → List Event → Call → Answer
reply_by o h (RaiseCredit new) = raise_of (credit_by o h) new most_credit
reply_by o h (RaiseStream id new) =
    (not (receives (half_of id)) || leb (open_by h (half_of id)) (ordinal_of id)) ⇒ NotServed
    ∣ is_known (final_named (own h id)) ⇒ SizeKnown
    ∣ raise_of (stream_credit_by o h id) new most_credit
reply_by o h (RaiseCount ty new) =
    not (peers_type ty) ⇒ NotServed
    ∣ raise_of (count_by o h (half_of ty)) new most_streams
reply_by o h (OpenNext ty) =
    not (ours_type ty) ⇒ NotServed
    ∣ leb most_streams (open_by h (half_of ty)) ⇒ AboveCeiling
    ∣ Accepted

-- a call that asks whether the connection is closed, and it is
abbrev pub is_barred : State → Act → Bool
is_barred h (TakeFrame s at kind) = not (is_open h.conn.mark)
is_barred h (TakePacket rs first s) = not (is_open h.conn.mark)
is_barred h (Make call) = not (is_open h.conn.mark)
is_barred h (HandOut space) = false

-- "120; closed 101": of every host and every call, before all that comes after them
abbrev pub ClosedNext : Type 0
ClosedNext = (h : State) (x : Act) → does_not_fit h x ≡ false → is_barred h x ≡ true → answered h x ≡ Closed

pub record ByHistory (role : Role) (o : Limits) (t : List Entry) (xs : List Act) : Type 0 where
  -- while the connection is open no CONNECTION_CLOSE was accepted
  pub none_closed : (host_after role o t xs).conn.mark ≡ Open → mark_by (heard_by role o t xs) ≡ Open
  -- a frame that can be read is shown whole, and judged by the state rules; one that cannot has its reading's answer
  pub frame_shown : (host_after role o t xs).conn.mark ≡ Open → (s : List ℕ) (at : ℕ) (kind : Kind) (frame : Frame) (ty next : ℕ) → frame_at role s at kind ≡ read_as frame ty next → shown_by (host_after role o t xs) s at kind ≡ Whole frame ty next
  -- .. else its type where it could be read, and nothing where it could not
  pub type_shown : (host_after role o t xs).conn.mark ≡ Open → (s : List ℕ) (at : ℕ) (kind : Kind) (answer : Answer) (ty value next : ℕ) → frame_at role s at kind ≡ refused_as answer ty → number_at s at ≡ Some (value, next) → shown_by (host_after role o t xs) s at kind ≡ Typed value
  pub nothing_shown : (host_after role o t xs).conn.mark ≡ Open → (s : List ℕ) (at : ℕ) (kind : Kind) → number_at s at ≡ None → shown_by (host_after role o t xs) s at kind ≡ Unseen
  pub frame_judged : (host_after role o t xs).conn.mark ≡ Open → (s : List ℕ) (at : ℕ) (kind : Kind) (frame : Frame) (ty next : ℕ) → frame_at role s at kind ≡ read_as frame ty next
      → answered (host_after role o t xs) (TakeFrame s at kind) ≡ verdict_by o (heard_by role o t xs) (view_of role kind frame)
  pub frame_refused : (host_after role o t xs).conn.mark ≡ Open → (s : List ℕ) (at : ℕ) (kind : Kind) (answer : Answer) (ty : ℕ) → frame_at role s at kind ≡ refused_as answer ty → answered (host_after role o t xs) (TakeFrame s at kind) ≡ answer
  pub call_answered : (host_after role o t xs).conn.mark ≡ Open → (call : Call) → answered (host_after role o t xs) (Make call) ≡ reply_by o (heard_by role o t xs) (seated_call role call)
  -- "after 2^62-1 it is 103", closed or not
  pub number_answered : (space : Space) → answered (host_after role o t xs) (HandOut space) ≡ (ltb most_credit (next_by (heard_by role o t xs) space) ⇒ AboveCeiling ∣ Accepted)
