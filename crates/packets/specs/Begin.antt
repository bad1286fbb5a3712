-- A packet up to its frames, docs/RULES.md, "Taking a packet". The order of checks: 120; closed 101; Retry, bit 0x40 clear, or fewer bytes than the number's length 110;
-- 111; 106; 107; reserved bits not zero code 10; no frames code 10; then the frames.
use Rattle.std.specs.Prelude.{ℕ, Bool, not, ◌&&◌, List, length, ltb, leb, Option, Some, None, Result, Ok, Err}
use Rattle.answers.specs.Choice.{◌⇒◌∣◌}
use Rattle.answers.specs.declared.Answer.{Answer}
use Rattle.answers.specs.declared.Answer.TheVariants.{Accepted, ProtocolViolation, Closed, NoPacket, DoesNotFit}
use Rattle.wire.specs.Number.{big_endian}
use Rattle.kinds.specs.declared.Kind.{Kind}
use Rattle.kinds.specs.declared.Kind.TheVariants.{OneRtt}
use Rattle.numbers.specs.Numbers.{bytes_in, recovered_of}
use Rattle.records.specs.declared.Record.{Record}
use Rattle.records.specs.Marks.{test_of}
use Rattle.streams.specs.declared.Conn.{Conn}
use Rattle.streams.specs.declared.Mark.TheVariants.{Code}
use Rattle.streams.specs.Conn.{is_open, marked_as}
use Rattle.kinds.specs.Kinds.{space_of}
use Rattle.answers.specs.Answers.{accepts}
use Rattle.headers.specs.First.{header_of, size_in, reserved_of}
use Rattle.spaces.specs.Spaces.{record_of, records_fit}
use Rattle.spaces.specs.declared.Records.{Records}
use Rattle.packets.specs.declared.Begun.{Begun}

-- refused, with this connection: there are no frames to walk, as they begin where the bytes end
unfoldable pub refused_of : Conn → Answer → ℕ → Begun
refused_of c answer end = record { answer = answer; conn = c; kind = OneRtt; at = end; number = 0 }

-- "closed with code and type (type 0 if none was read)"
unfoldable pub closes_of : Conn → ℕ → Begun
closes_of c end = refused_of (marked_as c (Code ProtocolViolation 0)) ProtocolViolation end

-- a packet whose number is known, of n bytes, and was tested against its record; end is where its bytes end
unfoldable pub tested_of : Conn → Answer → Kind → ℕ → ℕ → ℕ → ℕ → Begun
tested_of c test kind number first n end =
    not (accepts test) ⇒ refused_of c test end
    ∣ reserved_of first ⇒ closes_of c end
    ∣ leb end n ⇒ closes_of c end
    ∣ record { answer = Accepted; conn = c; kind = kind; at = n; number = number }

-- goes on with a number, or with the answer that there is none
abbrev pub with_recovered : {X : Type 0} → Result ℕ Answer → (Answer → X) → (ℕ → X) → X
with_recovered (Ok n) x k = k n
with_recovered (Err answer) x k = x answer

-- a packet of a kind, whose space has this record
unfoldable pub in_space_of : Conn → Record → Kind → ℕ → List ℕ → Begun
in_space_of c R kind first s =
    ltb (length s) (bytes_in (size_in first)) ⇒ refused_of c NoPacket (length s)
    ∣ with_recovered (recovered_of R.top (size_in first) (big_endian s 0 (bytes_in (size_in first)))) (λ answer. refused_of c answer (length s))
    (λ number. tested_of c (test_of R number) kind number first (bytes_in (size_in first)) (length s))

-- goes on with the kind of a packet, or with x where it is none to take
abbrev pub with_kind : {X : Type 0} → Option Kind → X → (Kind → X) → X
with_kind (Some kind) x k = k kind
with_kind None x k = x

-- fits says whether the connection and its table fit
unfoldable pub begin_of : Conn → Records → Bool → ℕ → List ℕ → Begun
begin_of c rs fits first s =
    not (fits && records_fit rs) ⇒ refused_of c DoesNotFit (length s)
    ∣ not (is_open c.mark) ⇒ refused_of c Closed (length s)
    ∣ with_kind (header_of first) (refused_of c NoPacket (length s)) (λ kind. in_space_of c (record_of rs (space_of kind)) kind first s)
