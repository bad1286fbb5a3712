-- The rules for STREAM and RESET_STREAM one by one, docs/RULES.md, "Streams and credit": "STREAM with end = offset + length, in this order"; and those of the frames that name a stream without an end.
use Rattle.std.specs.Prelude.{ℕ, ◌+◌, ◌-◌, Bool, false, not, ◌&&◌, ◌||◌, ltb, leb, eqb, Option, Some, None}
use Rattle.answers.specs.Choice.{◌⇒◌∣◌}
use Rattle.answers.specs.declared.Answer.{Answer}
use Rattle.answers.specs.declared.Answer.TheVariants.{Accepted, FlowControl, StreamLimit, StreamState, FinalSize}
use Rattle.halves.specs.Stream.{stream_of, half_of, peers, receives, sends}
use Rattle.entries.specs.Entry.{final_of}
use Rattle.streams.specs.Conn.{count_of}
use Rattle.streams.specs.declared.Conn.{Conn}
use Rattle.entries.specs.declared.Entry.{Entry}
use Rattle.halves.specs.declared.Stream.{Stream}

-- 1. "type 3, or type 1 not opened by us": the peer does not send there, or the stream is ours and not open; count is the stream count of its half
unfoldable pub rule1 : ℕ → Stream → Bool
rule1 count s = not (receives s.half) || (not (peers s.half) && leb count s.ordinal)

-- 2. "type 0 or 2, ordinal not below the advertised count": the stream is the peer's
unfoldable pub rule2 : ℕ → Stream → Bool
rule2 count s = peers s.half && leb count s.ordinal

-- 3. final size known and end above it, or FIN with another end ..
abbrev pub against : Option ℕ → ℕ → Bool → Bool
against None end fin = false
against (Some size) end fin = ltb size end || (fin && not (eqb end size))

-- .. or FIN below the furthest end
unfoldable pub rule3 : Option ℕ → ℕ → ℕ → Bool → Bool
rule3 final furthest end fin = against final end fin || (fin && ltb end furthest)

-- 4. end above the stream's credit
unfoldable pub rule4 : ℕ → ℕ → Bool
rule4 credit end = ltb credit end

-- 5. total plus growth of the furthest end above the connection credit
unfoldable pub rule5 : ℕ → ℕ → ℕ → ℕ → Bool
rule5 credit total furthest end = ltb credit (total + (end - furthest))

-- STREAM, and RESET_STREAM with its final size taken as an end with FIN
unfoldable pub ends_of : Conn → Entry → ℕ → ℕ → Bool → Answer
ends_of c e id end fin =
    rule1 (count_of c (half_of id)) (stream_of id) ⇒ StreamState
    ∣ rule2 (count_of c (half_of id)) (stream_of id) ⇒ StreamLimit
    ∣ rule3 (final_of e.size) e.end end fin ⇒ FinalSize
    ∣ rule4 e.credit end ⇒ FlowControl
    ∣ rule5 c.limits.credit c.total e.end end ⇒ FlowControl
    ∣ Accepted

-- STREAM_DATA_BLOCKED: rules 1 and 2
unfoldable pub blocked_of : Conn → ℕ → Answer
blocked_of c id =
    rule1 (count_of c (half_of id)) (stream_of id) ⇒ StreamState
    ∣ rule2 (count_of c (half_of id)) (stream_of id) ⇒ StreamLimit
    ∣ Accepted

-- STOP_SENDING and MAX_STREAM_DATA: "type 2 is 5, type 1 or 3 not opened by us is 5, then rule 2 for type 0"
unfoldable pub for_sender_of : Conn → ℕ → Answer
for_sender_of c id =
    not (sends (half_of id)) ⇒ StreamState
    ∣ (not (peers (half_of id)) && leb (count_of c (half_of id)) (stream_of id).ordinal) ⇒ StreamState
    ∣ rule2 (count_of c (half_of id)) (stream_of id) ⇒ StreamLimit
    ∣ Accepted
