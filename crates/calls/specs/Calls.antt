-- The local calls, docs/RULES.md, "Local calls": the entry that a call looks at, and its answer on an open connection, in the order 104, 105, 103, 102.
use Rattle.std.specs.Prelude.{ℕ, Bool, not, ◌&&◌, ◌||◌, ltb, leb}
use Rattle.answers.specs.Choice.{◌⇒◌∣◌}
use Rattle.answers.specs.declared.Answer.{Answer}
use Rattle.answers.specs.declared.Answer.TheVariants.{Accepted, NotAbove, AboveCeiling, NotServed, SizeKnown}
use Rattle.kinds.specs.declared.Role.{Role}
use Rattle.halves.specs.Seat.{seated_of}
use Rattle.halves.specs.Stream.{half_of, ordinal_of, peers, receives, most_streams}
use Rattle.entries.specs.Entry.{most_credit, final_of, is_known}
use Rattle.streams.specs.Conn.{opened_of, count_of}
use Rattle.streams.specs.declared.Conn.{Conn}
use Rattle.entries.specs.declared.Entry.{Entry}
use Rattle.calls.specs.declared.Call.{Call}
use Rattle.calls.specs.declared.Call.TheVariants.{RaiseCredit, RaiseStream, RaiseCount, OpenNext}

-- "Local calls speak of types as on the wire": a call with its stream or its type as at a server, by which all that follows knows it
abbrev pub seated_call : Role → Call → Call
seated_call role (RaiseCredit new) = RaiseCredit new
seated_call role (RaiseStream id new) = RaiseStream (seated_of role id) new
seated_call role (RaiseCount ty new) = RaiseCount (seated_of role ty) new
seated_call role (OpenNext ty) = OpenNext (seated_of role ty)

-- the stream whose entry a call looks at; stream 0 for those that look at none, and leave it
abbrev pub stream_in : Call → ℕ
stream_in (RaiseCredit new) = 0
stream_in (RaiseStream id new) = id
stream_in (RaiseCount ty new) = 0
stream_in (OpenNext ty) = 0

-- 103 above the ceiling, 102 not above the present value
unfoldable pub raise_of : ℕ → ℕ → ℕ → Answer
raise_of present new ceiling =
    ltb ceiling new ⇒ AboveCeiling
    ∣ leb new present ⇒ NotAbove
    ∣ Accepted

-- a type, whose half is that of its first stream; the peer opens its streams, or we do
abbrev pub peers_type : ℕ → Bool
peers_type ty = ltb ty 4 && peers (half_of ty)

abbrev pub ours_type : ℕ → Bool
ours_type ty = ltb ty 4 && not (peers (half_of ty))

-- the answer to a call on an open connection
unfoldable pub reply_of : Conn → Entry → Call → Answer
-- the connection credit
reply_of c e (RaiseCredit new) = raise_of c.limits.credit new most_credit
-- a stream's credit: 104 if it is not open or has no receive half, 105 if its final size is known
reply_of c e (RaiseStream id new) =
    (not (receives (half_of id)) || leb (opened_of c (half_of id)) (ordinal_of id)) ⇒ NotServed
    ∣ is_known (final_of e.size) ⇒ SizeKnown
    ∣ raise_of e.credit new most_credit
-- "a count of type 0 or 2": of the peer's two halves
reply_of c e (RaiseCount ty new) =
    not (peers_type ty) ⇒ NotServed
    ∣ raise_of (count_of c (half_of ty)) new most_streams
-- "open the next type 1 or 3 stream": of our two halves
reply_of c e (OpenNext ty) =
    not (ours_type ty) ⇒ NotServed
    ∣ leb most_streams (opened_of c (half_of ty)) ⇒ AboveCeiling
    ∣ Accepted
