-- Streams by their halves, RFC 9000 2.1: who opens them, and who may send on them. Halves by number: 0 the peer's two-way, 1 our two-way, 2 the peer's one-way, 3 our one-way. docs/RULES.md, "Streams and credit": "Type is ID mod 4, ordinal ID div 4".
use Rattle.std.specs.Prelude.{ℕ, ◌+◌, ◌*◌, ◌/◌, ◌%◌, ◌^◌, Bool, not, ◌&&◌, ◌||◌, ltb, eqb}
use Rattle.answers.specs.Choice.{◌⇒◌∣◌}
use Rattle.halves.specs.declared.Stream.{Stream}

-- the stream that an ID names, the ID that it has at a server (`Seat`): its half is its type there
abbrev pub stream_of : ℕ → Stream
stream_of id = record { half = id % 4; ordinal = id / 4 }

abbrev pub half_of : ℕ → ℕ
half_of id = (stream_of id).half

abbrev pub ordinal_of : ℕ → ℕ
ordinal_of id = (stream_of id).ordinal

-- and back; no ID has more than 62 bits
unfoldable pub id_of : ℕ → ℕ → ℕ
id_of half ordinal =
    (ltb half 4 && ltb ordinal (2 ^ 60)) ⇒ 4 * ordinal + half
    ∣ 0

-- the peer opens its streams
abbrev pub peers : ℕ → Bool
peers half = eqb half 0 || eqb half 2

-- the peer may send on them, so that they have entries: all but our one-way streams
abbrev pub receives : ℕ → Bool
receives half = ltb half 3

-- we may send on them: all but the peer's one-way streams
abbrev pub sends : ℕ → Bool
sends half = not (eqb half 2)

-- "64 streams a type"
abbrev pub most_streams : ℕ
most_streams = 64

-- "The stream table has 192 entries": 64 for each half that receives
abbrev pub entries : ℕ
entries = 192

-- whether a stream has an entry
unfoldable pub listed : ℕ → Bool
listed id = receives (half_of id) && ltb (ordinal_of id) most_streams

-- its place in the table, half after half; the first place for streams that have none, whose entry no rule looks at
unfoldable pub place_of : ℕ → ℕ
place_of id =
    listed id ⇒ most_streams * half_of id + ordinal_of id
    ∣ 0
