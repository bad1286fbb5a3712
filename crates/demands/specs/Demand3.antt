-- Demand 3, in the host's terms: of every opening that was accepted on a lent table, and of whatever calls came since, packets and refused calls included.
-- Limits and counts are those of the history too: of what opening advertised and what accepted calls raised (accounts `Advertised`), not what the connection holds, which is shown to be the same.
use Rattle.std.specs.Prelude.{ℕ, ◌+◌, ◌*◌, ◌≤◌, ◌<◌, ◌≡◌, Bool, true, false, List}
use Rattle.kinds.specs.declared.Role.{Role}
use Rattle.answers.specs.Answers.{accepts}
use Rattle.answers.specs.declared.Answer.TheVariants.{DoesNotFit}
use Rattle.kinds.specs.declared.Kind.{Kind}
use Rattle.frames.specs.declared.Frame.TheVariants.{Stream, ResetStream}
use Rattle.frames.specs.Reading.{frame_at}
use Rattle.entries.specs.declared.Entry.{Entry}
use Rattle.streams.specs.declared.Limits.{Limits}
use Rattle.streams.specs.declared.Mark.TheVariants.{Open}
use Rattle.kinds.specs.declared.Space.{Space}
use Rattle.halves.specs.Seat.{seated_of}
use Rattle.halves.specs.Stream.{half_of, listed}
use Rattle.entries.specs.Entry.{final_of, entry_of}
use Rattle.streams.specs.Conn.{opened_of, count_of, next_of}
use Rattle.rules.specs.Rules.{rule5}
use Rattle.calls.specs.declared.Call.TheVariants.{OpenNext}
use Rattle.limits.specs.Fits.{sum_to}
use Rattle.spaces.specs.Spaces.{records_fit}
use Rattle.accounts.specs.History.{own, furthest, final_named, ruling}
use Rattle.accounts.specs.Advertised.{credit_by, stream_credit_by, count_by, open_by, next_by, may_send_by, granted_by}
use Rattle.demands.specs.Hosts.{Act, answered, number_given, WasHosted, host_after}
use Rattle.demands.specs.Hosts.Act.{TakeFrame, TakePacket, Make, HandOut}
use Rattle.demands.specs.Heard.{heard_by}
use Rattle.frames.specs.Fields.{read_as}

-- the bytes at a place of a packet of this kind are an admitted, well-formed STREAM or RESET_STREAM frame of the stream, with this end, final or not: "STREAM with end = offset + length", "RESET_STREAM: the same, its final size taken as an end with FIN"
pub data Names (role : Role) (s : List ℕ) (at : ℕ) (kind : Kind) : ℕ → ℕ → Bool → Type 0 where
  stream : (id offset len : ℕ) (fin : Bool) (place ty next : ℕ) → frame_at role s at kind ≡ read_as (Stream id offset fin place len) ty next → Names role s at kind (seated_of role id) (offset + len) fin
  reset : (id code size ty next : ℕ) → frame_at role s at kind ≡ read_as (ResetStream id code size) ty next → Names role s at kind (seated_of role id) size true

-- "while the connection is open", and "When the connection credit is at least the sum of the credits of all streams on which the peer may send, ended ones included"
pub record Enough (role : Role) (o : Limits) (t : List Entry) (xs : List Act) : Type 0 where
  pub was_hosted : WasHosted role o t
  pub still_open : (host_after role o t xs).conn.mark ≡ Open
  pub for_all : granted_by o (heard_by role o t xs) ≤ credit_by o (heard_by role o t xs)

-- the records that come with a call fit; those of a host that keeps what packets hand back always do
abbrev pub Fitted : Act → Type 0
Fitted (TakeFrame s at kind) = Unit
Fitted (TakePacket rs first s) = records_fit rs ≡ true
Fitted (Make call) = Unit
Fitted (HandOut space) = Unit

pub record Demand3 (role : Role) (o : Limits) (t : List Entry) (xs : List Act) : Type 0 where
  -- "the counted total is the sum, over streams, of the furthest end or final size that an accepted frame named"
  pub total_is_sum : (n : ℕ) → 256 ≤ n → (host_after role o t xs).conn.total ≡ sum_to n (furthest (heard_by role o t xs))
  pub none_left_out : (id : ℕ) → 256 ≤ id → furthest (heard_by role o t xs) id ≡ 0
  pub each_end : (id : ℕ) → listed id ≡ true → (entry_of (host_after role o t xs).table id).end ≡ furthest (heard_by role o t xs) id
  pub each_size : (id : ℕ) → listed id ≡ true → final_of (entry_of (host_after role o t xs).table id).size ≡ final_named (own (heard_by role o t xs) id)
  -- the limits that the connection and the table hold are those of opening and of the accepted calls, and so are the initial credits, what is open and the numbers handed out
  pub credit_is : (host_after role o t xs).conn.limits.credit ≡ credit_by o (heard_by role o t xs)
  pub each_credit : (id : ℕ) → listed id ≡ true → (entry_of (host_after role o t xs).table id).credit ≡ stream_credit_by o (heard_by role o t xs) id
  pub each_count : (half : ℕ) → half < 4 → count_of (host_after role o t xs).conn half ≡ count_by o (heard_by role o t xs) half
  pub initial_is : (host_after role o t xs).conn.limits.initial ≡ o.initial
  pub each_open : (half : ℕ) → half < 4 → opened_of (host_after role o t xs).conn half ≡ open_by (heard_by role o t xs) half
  pub each_next : (space : Space) → next_of (host_after role o t xs).conn space ≡ next_by (heard_by role o t xs) space
  -- what is handed out is the next of these: "the next number of a space", "the next type 1 or 3 stream"
  pub number_given_law : (space : Space) → accepts (answered (host_after role o t xs) (HandOut space)) ≡ true → number_given (host_after role o t xs) (HandOut space) ≡ next_by (heard_by role o t xs) space
  pub stream_given : (ty : ℕ) → accepts (answered (host_after role o t xs) (Make (OpenNext ty))) ≡ true → number_given (host_after role o t xs) (Make (OpenNext ty)) ≡ seated_of role (4 * count_by o (heard_by role o t xs) (half_of (seated_of role ty)) + half_of (seated_of role ty))
  -- "It never exceeds the connection credit, nor any stream its own credit"
  pub total_within : (host_after role o t xs).conn.total ≤ credit_by o (heard_by role o t xs)
  pub each_within : (id : ℕ) → furthest (heard_by role o t xs) id ≤ stream_credit_by o (heard_by role o t xs) id
  -- 120 never comes of our own calls
  pub never_unfit : (x : Act) → Fitted x → answered (host_after role o t xs) x ≡ DoesNotFit → ⊥
  -- "the verdict on the next admitted, well-formed STREAM or RESET_STREAM frame depends, beside the frame, only on that stream's own accepted frames, its credit and the stream count for its type"
  pub verdict : Enough role o t xs → (s : List ℕ) (at : ℕ) (kind : Kind) (id end : ℕ) (fin : Bool) → Names role s at kind id end fin
      → answered (host_after role o t xs) (TakeFrame s at kind) ≡ ruling (count_by o (heard_by role o t xs) (half_of id)) (stream_credit_by o (heard_by role o t xs) id) (own (heard_by role o t xs) id) id end fin
  -- "a stream that keeps to its own limits never suffers for its neighbours": rule 5 does not refuse it
  pub no_neighbour : Enough role o t xs → (id end : ℕ) → may_send_by o (heard_by role o t xs) id ≡ true → end ≤ stream_credit_by o (heard_by role o t xs) id
      → rule5 (credit_by o (heard_by role o t xs)) (sum_to 256 (furthest (heard_by role o t xs))) (furthest (heard_by role o t xs) id) end ≡ false

-- what the verdict depends on beside the frame is the same of two connections, of whichever roles and however each came about
pub record SameOwn (role seat : Role) (o p : Limits) (t u : List Entry) (xs ys : List Act) (id : ℕ) : Type 0 where
  pub own_frames : own (heard_by role o t xs) id ≡ own (heard_by seat p u ys) id
  pub credit : stream_credit_by o (heard_by role o t xs) id ≡ stream_credit_by p (heard_by seat p u ys) id
  pub count : count_by o (heard_by role o t xs) (half_of id) ≡ count_by p (heard_by seat p u ys) (half_of id)

abbrev pub Independence : Type 0
Independence = (role seat : Role) (o p : Limits) (t u : List Entry) (xs ys : List Act) (id : ℕ) → Enough role o t xs → Enough seat p u ys → SameOwn role seat o p t u xs ys id
    → (r s : List ℕ) (at place : ℕ) (kind form : Kind) (end : ℕ) (fin : Bool) → Names role r at kind id end fin → Names seat s place form id end fin
    → answered (host_after role o t xs) (TakeFrame r at kind) ≡ answered (host_after seat p u ys) (TakeFrame s place form)
