-- The rules and the local calls at a client's borders, each from both sides, with what is left: bytes and types as on the wire, on a client all of whose numbers differ. docs/RULES.md, "At a client": types 1, 0, 3 and 2 are there what types 0, 1, 2 and 3 are at a server.
use Rattle.std.specs.Prelude.{ℕ, ◌-◌, ◌^◌, ◌≡◌, List, [], ◌∷◌, ◌++◌, map, replicate}
use Rattle.answers.specs.Answers.{number_of}
use Rattle.answers.specs.declared.Answer.{Answer}
use Rattle.answers.specs.declared.Answer.TheVariants.{Accepted, StreamLimit, StreamState, ProtocolViolation, NotAbove, AboveCeiling, NotServed, DoesNotFit}
use Rattle.kinds.specs.declared.Kind.TheVariants.{OneRtt}
use Rattle.kinds.specs.declared.Role.{Role}
use Rattle.kinds.specs.declared.Role.TheVariants.{Server, Client}
use Rattle.halves.specs.Seat.{exchanged_of, seated_of}
use Rattle.halves.specs.Stream.{half_of, entries, place_of}
use Rattle.records.specs.Marks.{none_of}
use Rattle.entries.specs.declared.Entry.{Entry}
use Rattle.entries.specs.Entry.{fresh}
use Rattle.streams.specs.declared.Conn.{Conn}
use Rattle.streams.specs.declared.Limits.{Limits}
use Rattle.streams.specs.declared.Mark.{Mark}
use Rattle.streams.specs.declared.Mark.TheVariants.{Open, Code}
use Rattle.opening.specs.Opening.{opening_when}
use Rattle.calls.specs.declared.Call.{Call}
use Rattle.calls.specs.declared.Call.TheVariants.{RaiseCredit, RaiseStream, RaiseCount, OpenNext}
use Rattle.replies.specs.declared.Replied.{Replied}
use Rattle.calls.specs.Calls.{seated_call, stream_in}
use Rattle.replies.specs.Replies.{replied_of}
use Rattle.spaces.specs.declared.Records.{Records}
use Rattle.steps.specs.declared.Decided.{Decided}
use Rattle.steps.specs.Step.{request_at, decided_of}
use Rattle.accounts.specs.History.{State}
use Rattle.demands.specs.Hosts.{answered, acted, records_after, place_told, hosted}
use Rattle.demands.specs.Hosts.Act.{TakePacket}
use Rattle.seats.specs.Mirror.{count_at, initial_at}

-- ---- a client

-- connection credit 40; counts of types 1 and 3, 3 and 5; initial credits of types 1, 0 and 3, 16, 17 and 18
abbrev pub limits : ℕ → ℕ → ℕ → Limits
limits credit two_way one_way = record { credit = credit; counts = two_way ∷ one_way ∷ []; initial = 16 ∷ 17 ∷ 18 ∷ [] }

-- so many streams of types 1, 0, 3 and 2 open, a total, next numbers 7, 8 and 9, and a mark
abbrev pub client : Limits → ℕ → ℕ → ℕ → ℕ → ℕ → Mark → Conn
client o open1 open0 open3 open2 total mark = record { limits = o; opened = open1 ∷ open0 ∷ open3 ∷ open2 ∷ []; total = total; next = 7 ∷ 8 ∷ 9 ∷ []; mark = mark; role = Client }

-- of types 1, 0, 3 and 2, 1, 2, 3 and 4 streams are open, and the total is 20
abbrev pub held : ℕ → ℕ → ℕ → ℕ → ℕ → Mark → Conn
held = client (limits 40 3 5)

abbrev pub before : Conn
before = held 1 2 3 4 20 Open

abbrev pub growing : ℕ → ℕ → Entry
growing credit end = record { credit = credit; end = end; size = 2 ^ 64 - 1 }

-- ---- frames, by their bytes; IDs below 64

abbrev pub stream : ℕ → List ℕ
stream id = 0x0a ∷ id ∷ 0 ∷ []

abbrev pub reset : ℕ → List ℕ
reset id = 0x04 ∷ id ∷ 0 ∷ 9 ∷ []

abbrev pub stop : ℕ → List ℕ
stop id = 0x05 ∷ id ∷ 0 ∷ []

abbrev pub allow : ℕ → List ℕ
allow id = 0x11 ∷ id ∷ 9 ∷ []

abbrev pub blocked : ℕ → List ℕ
blocked id = 0x15 ∷ id ∷ 0 ∷ []

-- the frame at the start of some bytes of a 1-RTT packet, judged with an entry of credit 16 and furthest end 6
abbrev pub heard : Conn → List ℕ → Decided
heard c s = decided_of c (growing 16 6) (request_at c.role s 0 OneRtt)

-- the answers to a frame on some streams
abbrev pub answers : (ℕ → List ℕ) → List ℕ → List ℕ
answers frame l = map (λ id. number_of (heard before (frame id)).stepped.answer) l

-- what a frame of n bytes leaves: accepted, with a connection and an entry; or refused, with the mark alone changed
abbrev pub accepted : ℕ → Conn → Entry → Decided
accepted n c e = record { stepped = record { conn = c; answer = Accepted; next = n }; entry = e }

abbrev pub refused : Answer → ℕ → ℕ → Decided
refused answer ty n = record { stepped = record { conn = held 1 2 3 4 20 (Code answer ty); answer = answer; next = n }; entry = growing 16 6 }

-- ---- local calls, on the same entry

abbrev pub called : Conn → Call → Replied
called c call = replied_of c (growing 16 6) call

abbrev pub served : ℕ → Conn → Entry → Replied
served number c e = record { called = record { answer = Accepted; number = number; conn = c }; entry = e }

abbrev pub unserved : Answer → Conn → Replied
unserved answer c = record { called = record { answer = answer; number = 0; conn = c }; entry = growing 16 6 }

-- the answers to some calls
abbrev pub replies : Conn → List Call → List ℕ
replies c l = map (λ k. number_of (called c k).called.answer) l

-- ---- whole hosts

-- a client and a server, opened with the same limits, that have taken nothing yet
abbrev pub host : Role → State
host role = hosted role (limits 40 3 5) (replicate entries (fresh 0))

abbrev pub none : Records
none = record { initial = none_of; handshake = none_of; application = none_of }

-- a packet of each kind, Initial, Handshake, 0-RTT and 1-RTT, with the number 0 and these frames: the answers, and where each stopped
abbrev pub packets : Role → List ℕ → List ℕ
packets role s = map (λ first. number_of (answered (host role) (TakePacket none first (0 ∷ s)))) (0xc0 ∷ 0xe0 ∷ 0xd0 ∷ 0x40 ∷ [])

abbrev pub places : Role → List ℕ → List ℕ
places role s = map (λ first. place_told (host role) none first (0 ∷ s)) (0xc0 ∷ 0xe0 ∷ 0xd0 ∷ 0x40 ∷ [])

-- the host closed with a code and a type, all else as it was
abbrev pub closed : State → Answer → ℕ → State
closed h answer ty = record { conn = record { limits = h.conn.limits; opened = h.conn.opened; total = h.conn.total; next = h.conn.next; mark = Code answer ty; role = h.conn.role }; table = h.table }

pub record AtClient : Type 0 where
  -- "Types swap ends": the halves of types 0 to 3, the ordinals as they are, and back; at a server each is its own
  pub halves : map (λ ty. half_of (seated_of Client ty)) (0 ∷ 1 ∷ 2 ∷ 3 ∷ []) ≡ 1 ∷ 0 ∷ 3 ∷ 2 ∷ []
  pub halves_server : map (λ ty. half_of (seated_of Server ty)) (0 ∷ 1 ∷ 2 ∷ 3 ∷ []) ≡ 0 ∷ 1 ∷ 2 ∷ 3 ∷ []
  pub exchanges : map exchanged_of (0 ∷ 1 ∷ 2 ∷ 3 ∷ 4 ∷ 7 ∷ 254 ∷ 255 ∷ (2 ^ 62 - 2) ∷ (2 ^ 62 - 1) ∷ (2 ^ 64 - 2) ∷ (2 ^ 64 - 1) ∷ [])
      ≡ 1 ∷ 0 ∷ 3 ∷ 2 ∷ 5 ∷ 6 ∷ 255 ∷ 254 ∷ (2 ^ 62 - 1) ∷ (2 ^ 62 - 2) ∷ (2 ^ 64 - 1) ∷ (2 ^ 64 - 2) ∷ []
  -- "The table lies by halves [..]; so for a client types 1, 0, 3": the first and the last place of each; type 2 has none
  pub places_in_table : map (λ id. place_of (seated_of Client id)) (1 ∷ 5 ∷ 253 ∷ 0 ∷ 4 ∷ 252 ∷ 3 ∷ 7 ∷ 255 ∷ []) ≡ 0 ∷ 1 ∷ 63 ∷ 64 ∷ 65 ∷ 127 ∷ 128 ∷ 129 ∷ 191 ∷ []
  pub placeless : map (λ id. place_of (seated_of Client id)) (2 ∷ 254 ∷ 256 ∷ 257 ∷ 259 ∷ []) ≡ 0 ∷ 0 ∷ 0 ∷ 0 ∷ 0 ∷ []
  -- opening: "credits [..] of the three halves in this order, its counts those of the peer's two (types 1 and 3 at a client)"
  pub opens : opening_when Client 192 (limits 40 3 5) ≡ record { answer = Accepted; conn = record { limits = limits 40 3 5; opened = 0 ∷ 0 ∷ 0 ∷ 0 ∷ []; total = 0; next = 0 ∷ 0 ∷ 0 ∷ []; mark = Open; role = Client } }
  pub opens_counts : map (count_at (host Client).conn) (0 ∷ 1 ∷ 2 ∷ 3 ∷ []) ≡ 0 ∷ 3 ∷ 0 ∷ 5 ∷ []
  pub opens_credits : map (initial_at (host Client).conn) (1 ∷ 0 ∷ 3 ∷ []) ≡ 16 ∷ 17 ∷ 18 ∷ []
  pub opens_table : (host Client).table ≡ replicate 64 (fresh 16) ++ (replicate 64 (fresh 17) ++ replicate 64 (fresh 18))
  pub refuses : map (λ n. opening_when Client n (limits (2 ^ 62) 3 5)) (191 ∷ 192 ∷ [])
      ≡ map (λ answer. record { answer = answer; conn = record { limits = record { credit = 0; counts = 0 ∷ 0 ∷ []; initial = 0 ∷ 0 ∷ 0 ∷ [] }; opened = 0 ∷ 0 ∷ 0 ∷ 0 ∷ []; total = 0; next = 0 ∷ 0 ∷ 0 ∷ []; mark = Code answer 0; role = Client } }) (DoesNotFit ∷ AboveCeiling ∷ [])
  -- rules 1 and 2: type 1 by its count, 3; type 0 by what we opened, 2; type 3 by its count, 5; type 2 never, open or not
  pub streams : answers stream (1 ∷ 9 ∷ 13 ∷ 0 ∷ 4 ∷ 8 ∷ 3 ∷ 19 ∷ 23 ∷ 2 ∷ 14 ∷ 18 ∷ []) ≡ 0 ∷ 0 ∷ 4 ∷ 0 ∷ 0 ∷ 5 ∷ 0 ∷ 0 ∷ 4 ∷ 5 ∷ 5 ∷ 5 ∷ []
  pub resets : answers reset (1 ∷ 9 ∷ 13 ∷ 0 ∷ 4 ∷ 8 ∷ 3 ∷ 19 ∷ 23 ∷ 2 ∷ 14 ∷ 18 ∷ []) ≡ 0 ∷ 0 ∷ 4 ∷ 0 ∷ 0 ∷ 5 ∷ 0 ∷ 0 ∷ 4 ∷ 5 ∷ 5 ∷ 5 ∷ []
  -- "STREAM_DATA_BLOCKED: rules 1 and 2"
  pub blocks : answers blocked (1 ∷ 9 ∷ 13 ∷ 0 ∷ 4 ∷ 8 ∷ 3 ∷ 19 ∷ 23 ∷ 2 ∷ 14 ∷ 18 ∷ []) ≡ 0 ∷ 0 ∷ 4 ∷ 0 ∷ 0 ∷ 5 ∷ 0 ∷ 0 ∷ 4 ∷ 5 ∷ 5 ∷ 5 ∷ []
  -- STOP_SENDING and MAX_STREAM_DATA: type 3 is 5, type 0 or 2 not opened by us is 5, then rule 2 for type 1
  pub stops : answers stop (3 ∷ 19 ∷ 23 ∷ 4 ∷ 8 ∷ 14 ∷ 18 ∷ 9 ∷ 13 ∷ []) ≡ 5 ∷ 5 ∷ 5 ∷ 0 ∷ 5 ∷ 0 ∷ 5 ∷ 0 ∷ 4 ∷ []
  pub allows : answers allow (3 ∷ 19 ∷ 23 ∷ 4 ∷ 8 ∷ 14 ∷ 18 ∷ 9 ∷ 13 ∷ []) ≡ 5 ∷ 5 ∷ 5 ∷ 0 ∷ 5 ∷ 0 ∷ 5 ∷ 0 ∷ 4 ∷ []
  -- what they leave: a stream is opened with all lower ones of its type, on types 1 and 3; ours are open already
  pub stream_left : map (λ id. heard before (stream id)) (9 ∷ 19 ∷ 4 ∷ []) ≡ accepted 3 (held 3 2 3 4 20 Open) (growing 16 6) ∷ accepted 3 (held 1 2 5 4 20 Open) (growing 16 6) ∷ accepted 3 before (growing 16 6) ∷ []
  pub reset_left : heard before (reset 9) ≡ accepted 4 (held 3 2 3 4 23 Open) (record { credit = 16; end = 9; size = 9 })
  pub blocked_left : map (λ id. heard before (blocked id)) (9 ∷ 19 ∷ 4 ∷ []) ≡ accepted 3 (held 3 2 3 4 20 Open) (growing 16 6) ∷ accepted 3 (held 1 2 5 4 20 Open) (growing 16 6) ∷ accepted 3 before (growing 16 6) ∷ []
  pub stop_left : map (λ id. heard before (stop id)) (9 ∷ 4 ∷ 14 ∷ []) ≡ accepted 3 (held 3 2 3 4 20 Open) (growing 16 6) ∷ accepted 3 before (growing 16 6) ∷ accepted 3 before (growing 16 6) ∷ []
  pub allow_left : map (λ id. heard before (allow id)) (9 ∷ 4 ∷ 14 ∷ []) ≡ accepted 3 (held 3 2 3 4 20 Open) (growing 16 6) ∷ accepted 3 before (growing 16 6) ∷ accepted 3 before (growing 16 6) ∷ []
  -- .. and refused: closed with code and type, and nothing else
  pub refused_left : heard before (stream 13) ∷ heard before (stream 2) ∷ heard before (reset 8) ∷ heard before (blocked 23) ∷ heard before (stop 3) ∷ heard before (allow 18) ∷ []
      ≡ refused StreamLimit 0x0a 3 ∷ refused StreamState 0x0a 3 ∷ refused StreamState 0x04 4 ∷ refused StreamLimit 0x15 3 ∷ refused StreamState 0x05 3 ∷ refused StreamState 0x11 3 ∷ []
  -- the entry that a frame looks at
  pub looks_at : map (λ id. (request_at Client (stream id) 0 OneRtt).place) (1 ∷ 9 ∷ 0 ∷ 4 ∷ 3 ∷ 19 ∷ 2 ∷ []) ≡ 0 ∷ 2 ∷ 64 ∷ 65 ∷ 128 ∷ 132 ∷ 0 ∷ []
  -- a count: "a client raises the counts of types 1 and 3 [..], anything else is 104"
  pub raises_counts : map (called before) (RaiseCount 1 4 ∷ RaiseCount 3 6 ∷ []) ≡ served 0 (client (limits 40 4 5) 1 2 3 4 20 Open) (growing 16 6) ∷ served 0 (client (limits 40 3 6) 1 2 3 4 20 Open) (growing 16 6) ∷ []
  pub counts : replies before (RaiseCount 1 3 ∷ RaiseCount 1 64 ∷ RaiseCount 1 65 ∷ RaiseCount 3 5 ∷ RaiseCount 3 64 ∷ RaiseCount 3 65 ∷ RaiseCount 0 9 ∷ RaiseCount 2 9 ∷ RaiseCount 4 9 ∷ RaiseCount 5 9 ∷ RaiseCount 7 9 ∷ RaiseCount (2 ^ 64 - 1) 9 ∷ [])
      ≡ 102 ∷ 0 ∷ 103 ∷ 102 ∷ 0 ∷ 103 ∷ 104 ∷ 104 ∷ 104 ∷ 104 ∷ 104 ∷ 104 ∷ []
  -- the next stream: it "opens types 0 and 2, anything else is 104"; its ID is of that type
  pub starts : map (called before) (OpenNext 0 ∷ OpenNext 2 ∷ []) ≡ served 8 (held 1 3 3 4 20 Open) (growing 16 6) ∷ served 18 (held 1 2 3 5 20 Open) (growing 16 6) ∷ []
  pub starts_not : map (called before) (OpenNext 1 ∷ OpenNext 3 ∷ OpenNext 4 ∷ OpenNext 6 ∷ []) ≡ replicate 4 (unserved NotServed before)
  pub starts_first : map (λ ty. (called (held 0 0 0 0 0 Open) (OpenNext ty)).called.number) (0 ∷ 2 ∷ []) ≡ 0 ∷ 2 ∷ []
  pub starts_last : map (λ ty. (called (held 0 63 0 63 0 Open) (OpenNext ty)).called.number) (0 ∷ 2 ∷ []) ≡ 252 ∷ 254 ∷ []
  pub starts_no_more : map (called (held 0 64 0 64 0 Open)) (OpenNext 0 ∷ OpenNext 2 ∷ []) ≡ replicate 2 (unserved AboveCeiling (held 0 64 0 64 0 Open))
  -- a stream's credit: open streams of types 1, 0 and 3, and none of type 2
  pub raises_stream : map (λ id. called before (RaiseStream id 17)) (1 ∷ 4 ∷ 11 ∷ []) ≡ replicate 3 (served 0 before (growing 17 6))
  pub raises_not : map (λ id. called before (RaiseStream id 17)) (5 ∷ 8 ∷ 15 ∷ 2 ∷ 14 ∷ 18 ∷ []) ≡ replicate 6 (unserved NotServed before)
  pub raises_at : map (λ id. place_of (stream_in (seated_call Client (RaiseStream id 17)))) (1 ∷ 4 ∷ 11 ∷ []) ≡ 0 ∷ 65 ∷ 130 ∷ []
  -- the connection credit has no type
  pub raises_credit : map (called before) (RaiseCredit 40 ∷ RaiseCredit 41 ∷ []) ≡ unserved NotAbove before ∷ served 0 (client (limits 41 3 5) 1 2 3 4 20 Open) (growing 16 6) ∷ []
  -- whole packets. NEW_TOKEN with a token and an empty one, HANDSHAKE_DONE: "in 1-RTT", and never at a server
  pub token : packets Client (0x07 ∷ 1 ∷ 9 ∷ []) ≡ 10 ∷ 10 ∷ 10 ∷ 0 ∷ []
  pub token_empty : packets Client (0x07 ∷ 0 ∷ []) ≡ 10 ∷ 10 ∷ 10 ∷ 7 ∷ []
  pub done : packets Client (0x1e ∷ []) ≡ 10 ∷ 10 ∷ 10 ∷ 0 ∷ []
  pub not_at_server : map (packets Server) ((0x07 ∷ 1 ∷ 9 ∷ []) ∷ (0x07 ∷ 0 ∷ []) ∷ (0x1e ∷ []) ∷ []) ≡ replicate 3 (replicate 4 10)
  pub done_left : acted (host Client) (TakePacket none 0x40 (0 ∷ 0x1e ∷ [])) ≡ host Client
  -- "nothing in 0-RTT (PADDING there is 10)": also before other frames, at the first byte; at a server it is passed
  pub padding : packets Client (0x00 ∷ []) ≡ 0 ∷ 0 ∷ 10 ∷ 0 ∷ []
  pub padding_places : places Client (0x00 ∷ 0x00 ∷ 0x01 ∷ []) ≡ 4 ∷ 4 ∷ 1 ∷ 4 ∷ []
  pub padding_server : places Server (0x00 ∷ 0x00 ∷ 0x01 ∷ []) ≡ replicate 4 4
  pub padding_left : acted (host Client) (TakePacket none 0xd0 (0 ∷ 0x00 ∷ 0x00 ∷ 0x01 ∷ [])) ≡ closed (host Client) ProtocolViolation 0
  pub padding_unrecorded : records_after (host Client) none 0xd0 (0 ∷ 0x00 ∷ []) ≡ none
  -- "7 for an unknown and 10 for a padded type stay before"
  pub unknown : packets Client (0x1f ∷ []) ≡ replicate 4 7
  pub padded : packets Client (0x40 ∷ 0x00 ∷ []) ≡ replicate 4 10
  -- a frame in a packet: a server's stream of type 1 is the peer's here, and its own stream of type 0 is not open yet
  pub ends : map (λ s. number_of (answered (host Client) (TakePacket none 0x40 (0 ∷ s)))) (stream 1 ∷ stream 3 ∷ stream 0 ∷ stream 2 ∷ []) ≡ 0 ∷ 0 ∷ 5 ∷ 5 ∷ []
  pub ends_server : map (λ s. number_of (answered (host Server) (TakePacket none 0x40 (0 ∷ s)))) (stream 0 ∷ stream 2 ∷ stream 1 ∷ stream 3 ∷ []) ≡ 0 ∷ 0 ∷ 5 ∷ 5 ∷ []
