-- docs/RULES.md, "Packet numbers": "Three spaces: Initial, Handshake, and one for 0-RTT with 1-RTT": each has its own record, by which a packet's number is recovered, tested and recorded, and its own next number.
use Rattle.std.specs.Prelude.{ℕ, ◌^◌, ◌≡◌, List, [], ◌∷◌, map, replicate, get_or}
use Rattle.answers.specs.Answers.{number_of}
use Rattle.records.specs.declared.Record.{Record}
use Rattle.records.specs.Marks.{none_of}
use Rattle.streams.specs.declared.Mark.TheVariants.{Open}
use Rattle.spaces.specs.declared.Records.{Records}
use Rattle.receive.specs.Taking.{begun_of}
use Rattle.accounts.specs.History.{State}
use Rattle.demands.specs.Hosts.{answered, records_after}
use Rattle.demands.specs.Hosts.Act.{TakePacket}
use Rattle.hosts.specs.Unfit.{whole_host, plain, first_marked, held}
use Rattle.hosts.specs.Order.{AllGet, table, live}
use Rattle.hosts.specs.Stops.{identity}

abbrev pub records : Record → Record → Record → Records
records initial handshake application = record { initial = initial; handshake = handshake; application = application }

-- the record that holds 8,192 alone, and the one that holds 8,193 too
abbrev pub one : Record
one = first_marked 8193

abbrev pub two : Record
two = record { words = 3 ∷ replicate 127 0; top = 8194 }

-- the records that hold 127 alone, and 128 alone
abbrev pub only127 : Record
only127 = record { words = 0 ∷ 2 ^ 63 ∷ replicate 126 0; top = 128 }

abbrev pub only128 : Record
only128 = record { words = 0 ∷ 0 ∷ 1 ∷ replicate 125 0; top = 129 }

-- .. 8,392 alone, and 8,592 alone
abbrev pub only8392 : Record
only8392 = record { words = 0 ∷ 0 ∷ 0 ∷ 2 ^ 8 ∷ replicate 124 0; top = 8393 }

abbrev pub only8592 : Record
only8592 = record { words = 0 ∷ 0 ∷ 0 ∷ 0 ∷ 0 ∷ 0 ∷ 2 ^ 16 ∷ replicate 121 0; top = 8593 }

-- an Initial, a 0-RTT, a Handshake and a 1-RTT packet by their first bytes
abbrev pub kinds : List ℕ
kinds = 0xc0 ∷ 0xd0 ∷ 0xe0 ∷ 0x40 ∷ []

-- a packet of each kind with the byte 1 for its number, and a PING: the answers; the number 8,193 where 8,192 is the largest
abbrev pub in_each_kind : Records → List ℕ
in_each_kind rs = map (λ (first : ℕ). number_of (answered live (TakePacket rs first (1 ∷ 1 ∷ [])))) kinds

-- the records after a packet with the number 8,193
abbrev pub left : ℕ → Records
left first = records_after live held first (1 ∷ 1 ∷ [])

-- the top and the first word of each of three records
abbrev pub shapes : Records → List ℕ
shapes rs = rs.initial.top ∷ get_or rs.initial.words 0 0 ∷ rs.handshake.top ∷ get_or rs.handshake.words 0 0 ∷ rs.application.top ∷ get_or rs.application.words 0 0 ∷ []

-- the number of a packet, as the checks before its frames found it
abbrev pub number_in : Records → ℕ → List ℕ → ℕ
number_in rs first s = (begun_of live.conn rs live.table first s).number

-- a host that has handed out one number of the first space, two of the second and three of the third
abbrev pub sent : State
sent = whole_host plain (1 ∷ 2 ∷ 64 ∷ 1 ∷ []) 18 (1 ∷ 2 ∷ 3 ∷ []) Open table

-- a packet with an ACK of one number
abbrev pub acknowledging : ℕ → List ℕ
acknowledging n = 1 ∷ 0x02 ∷ n ∷ 0 ∷ 0 ∷ 0 ∷ []

-- the answers to a frame in a packet of each kind
abbrev pub carried : List ℕ → List ℕ
carried s = map (λ (first : ℕ). number_of (answered live (TakePacket held first (1 ∷ s)))) kinds

pub record Spaces : Type 0 where
  -- "Already in it: 107": a number recorded in one space is new in the others; 0-RTT and 1-RTT share one
  pub in_initial : in_each_kind (records two one one) ≡ 107 ∷ 0 ∷ 0 ∷ 0 ∷ []
  pub in_handshake : in_each_kind (records one two one) ≡ 0 ∷ 0 ∷ 107 ∷ 0 ∷ []
  pub in_application : in_each_kind (records one one two) ≡ 0 ∷ 107 ∷ 0 ∷ 107 ∷ []
  -- "If all pass, the number is recorded": in the record of its space, and the other two stay; what else a record then holds is a law (crate demands, `Recorded`)
  pub recorded_in : map (λ (first : ℕ). shapes (left first)) kinds
      ≡ (8194 ∷ 3 ∷ 8193 ∷ 1 ∷ 8193 ∷ 1 ∷ [])
      ∷ (8193 ∷ 1 ∷ 8193 ∷ 1 ∷ 8194 ∷ 3 ∷ [])
      ∷ (8193 ∷ 1 ∷ 8194 ∷ 3 ∷ 8193 ∷ 1 ∷ [])
      ∷ (8193 ∷ 1 ∷ 8193 ∷ 1 ∷ 8194 ∷ 3 ∷ [])
      ∷ []
  pub others_kept : (left 0xc0).handshake ∷ (left 0xc0).application ∷ (left 0xd0).initial ∷ (left 0xd0).handshake ∷ (left 0xe0).initial ∷ (left 0xe0).application ∷ (left 0x40).initial ∷ (left 0x40).handshake ∷ [] ≡ replicate 8 one
  -- "with E one above the largest number recorded (0 if none)": E is 8,193, 8,393 and 8,593 in the three spaces, and one byte 1 stands for 8,193, 8,449 and 8,705; with nothing, 127 and 128 recorded it stands for 1, 1 and 257
  pub own_expected : map (λ (first : ℕ). number_in (records one only8392 only8592) first (1 ∷ 1 ∷ [])) kinds ≡ 8193 ∷ 8705 ∷ 8449 ∷ 8705 ∷ []
  pub expected : map (λ (R : Record). number_in (records one one R) 0x40 (1 ∷ 1 ∷ [])) (none_of ∷ only127 ∷ only128 ∷ []) ≡ 1 ∷ 1 ∷ 257 ∷ []
  pub expected_recorded : records_after live (records one one only128) 0x40 (1 ∷ 1 ∷ []) ≡ records one one (record { words = 0 ∷ 0 ∷ 1 ∷ 0 ∷ 2 ∷ replicate 123 0; top = 258 })
  -- "Differences may be negative": while none is recorded each truncated number is itself
  pub from_none : map (λ (t : ℕ). number_in (records one one none_of) 0x40 (t ∷ 1 ∷ [])) (129 ∷ 255 ∷ []) ≡ 129 ∷ 255 ∷ []
  -- "The low two bits of the plain first byte, plus one, give the length of the number"
  pub lengths : map (λ (p : ℕ × List ℕ). number_in held p.0 p.1) ((0xc0, 2 ∷ 1 ∷ []) ∷ (0xd1, 0x20 ∷ 2 ∷ 1 ∷ []) ∷ (0xe2, 0 ∷ 0x20 ∷ 2 ∷ 1 ∷ []) ∷ (0xc3, 0 ∷ 0 ∷ 0x20 ∷ 2 ∷ 1 ∷ []) ∷ []) ≡ replicate 4 8194
  -- "admitted in this packet kind": the frames of a packet are those of its kind. PING, ACK, MAX_DATA, PATH_RESPONSE; RETIRE_CONNECTION_ID whole and cut short; NEW_CONNECTION_ID
  pub carried_ping : carried (0x01 ∷ []) ≡ 0 ∷ 0 ∷ 0 ∷ 0 ∷ []
  pub carried_ack : carried (0x02 ∷ 0 ∷ 0 ∷ 0 ∷ 0 ∷ []) ≡ 0 ∷ 10 ∷ 0 ∷ 0 ∷ []
  pub carried_max_data : carried (0x10 ∷ 5 ∷ []) ≡ 10 ∷ 0 ∷ 10 ∷ 0 ∷ []
  pub carried_path_response : carried (0x1b ∷ replicate 8 5) ≡ 10 ∷ 10 ∷ 10 ∷ 0 ∷ []
  pub carried_retire : carried (0x19 ∷ 5 ∷ []) ≡ 10 ∷ 10 ∷ 10 ∷ 0 ∷ []
  pub carried_retire_torn : carried (0x19 ∷ []) ≡ 10 ∷ 10 ∷ 10 ∷ 7 ∷ []
  pub carried_identity : carried identity ≡ 10 ∷ 0 ∷ 10 ∷ 0 ∷ []
  -- "An ACK of a number not yet handed out in its space is 10"
  pub acknowledged : AllGet sent held 0 ((0xc0, acknowledging 0) ∷ (0xe0, acknowledging 1) ∷ (0x40, acknowledging 2) ∷ [])
  pub not_handed_out : AllGet sent held 10 ((0xc0, acknowledging 1) ∷ (0xe0, acknowledging 2) ∷ (0x40, acknowledging 3) ∷ [])
