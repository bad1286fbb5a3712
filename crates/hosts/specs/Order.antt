-- docs/RULES.md, "Taking a packet": "The order of checks": each pair of neighbours by an input that both would refuse. That a refused packet leaves the host and its records but for the mark is a law (demand 1); here it is seen once for each answer, with the place that is told.
use Rattle.std.specs.Prelude.{ℕ, ◌^◌, ◌≡◌, List, [], ◌∷◌, ◌++◌, map, replicate}
use Rattle.answers.specs.Answers.{number_of}
use Rattle.answers.specs.declared.Answer.{Answer}
use Rattle.answers.specs.declared.Answer.TheVariants.{FlowControl, FinalSize, ProtocolViolation, Closed, BelowRecord, InRecord, NoPacket, NoSuchNumber}
use Rattle.streams.specs.declared.Mark.{Mark}
use Rattle.streams.specs.declared.Mark.TheVariants.{Open, Code, ByPeer}
use Rattle.kinds.specs.declared.Space.TheVariants.{Application}
use Rattle.entries.specs.declared.Entry.{Entry}
use Rattle.spaces.specs.declared.Records.{Records}
use Rattle.endings.specs.declared.Took.{Took}
use Rattle.receive.specs.Taking.{took_of, took_table}
use Rattle.accounts.specs.History.{State}
use Rattle.demands.specs.Hosts.{answered}
use Rattle.demands.specs.Hosts.Act.{TakePacket, HandOut}
use Rattle.hosts.specs.Unfit.{sized, unsized, table_of, whole_host, plain, each, held, answers_of, states_of}

-- ---- what a packet leaves

pub record Outcome : Type 0 where
  pub took : Took
  pub table : List Entry

-- of a packet by its first byte and the bytes after it
abbrev pub outcome : State → Records → ℕ × List ℕ → Outcome
outcome h rs p = record { took = took_of h.conn rs h.table p.0 p.1; table = took_table h.conn rs h.table p.0 p.1 }

abbrev pub ending : Answer → ℕ → State → Records → Outcome
ending answer place host rs = record { took = record { answer = answer; place = place; conn = host.conn; records = rs }; table = host.table }

-- some packets, each to the host as it is, all of which get this answer
abbrev pub AllGet : State → Records → ℕ → List (ℕ × List ℕ) → Type 0
AllGet h rs answer l = map (λ (p : ℕ × List ℕ). number_of (answered h (TakePacket rs p.0 p.1))) l ≡ map (λ (p : ℕ × List ℕ). answer) l

-- ---- hosts and records

-- connection credit 100, counts 4 and 64, initial credits 16, 17 and 18; one stream of type 0 is open, two of type 1, all of type 2 and one of type 3; the streams 0, 5 and 254 have ends 5, 6 and 7, the last two as final sizes
abbrev pub table : List Entry
table = table_of 16 17 18 (unsized 16 5) (sized 17 6 6) (sized 18 7 7)

abbrev pub marked : Mark → State
marked mark = whole_host plain (1 ∷ 2 ∷ 64 ∷ 1 ∷ []) 18 (1 ∷ 1 ∷ 1 ∷ []) mark table

abbrev pub live : State
live = marked Open

-- the same with a total that is not the sum
abbrev pub unfit : Mark → State
unfit mark = whole_host plain (1 ∷ 2 ∷ 64 ∷ 1 ∷ []) 19 (1 ∷ 1 ∷ 1 ∷ []) mark table

-- the records of a host that has got just the number 2^62-1 in each space: no number is above it
abbrev pub last_held : Records
last_held = each (record { words = replicate 127 0 ++ (2 ^ 63 ∷ []); top = 2 ^ 62 })

-- ---- the rows

pub record Order : Type 0 where
  -- "The order of checks: 120; closed 101": of every call. Handing out a number "ignore[s] the closing mark"
  pub unfit_closed : answers_of (unfit (Code FlowControl 8)) ≡ replicate 6 120
  pub unfit_first : AllGet (unfit ByPeer) held 120 ((0xf0, []) ∷ (0x40, 0 ∷ 1 ∷ []) ∷ (0x58, 1 ∷ []) ∷ [])
  pub fit_closed : map (λ (mark : Mark). answers_of (marked mark)) (ByPeer ∷ Code FlowControl 8 ∷ []) ≡ replicate 2 (replicate 6 101)
  pub closed_same : states_of (marked (Code FlowControl 8)) ≡ replicate 6 (marked (Code FlowControl 8))
  pub closed_hands_out : map (λ (mark : Mark). number_of (answered (marked mark) (HandOut Application))) (ByPeer ∷ Code FlowControl 8 ∷ []) ≡ 0 ∷ 0 ∷ []
  -- "closed 101; Retry, bit 0x40 clear, or fewer bytes than the number's length 110"
  pub closed_first : AllGet (marked ByPeer) held 101 ((0xf0, 1 ∷ 1 ∷ []) ∷ (0x00, 1 ∷ 1 ∷ []) ∷ (0x40, []) ∷ (0x58, 1 ∷ 1 ∷ []) ∷ (0x40, 0 ∷ 1 ∷ []) ∷ (0x40, 1 ∷ []) ∷ [])
  pub no_packet : AllGet live held 110 ((0xf0, 1 ∷ 1 ∷ []) ∷ (0x80, 1 ∷ 1 ∷ []) ∷ (0x00, 1 ∷ 1 ∷ []) ∷ (0x40, []) ∷ (0x41, 1 ∷ []) ∷ (0x42, 1 ∷ 1 ∷ []) ∷ (0x43, 1 ∷ 1 ∷ 1 ∷ []) ∷ [])
  -- 110 before 111, 106 and 107, of whatever the bytes that are there begin; before the reserved bits, and before no frames
  pub packet_before_number : AllGet live last_held 110 ((0xf0, 0 ∷ []) ∷ (0x41, 0 ∷ []) ∷ (0x43, 0 ∷ 0 ∷ 0 ∷ []) ∷ [])
  pub packet_before_record : AllGet live held 110 ((0xf0, 0 ∷ []) ∷ (0x42, 0 ∷ 0 ∷ []) ∷ (0x42, 0x20 ∷ 0 ∷ []) ∷ (0x00, 0 ∷ []) ∷ [])
  pub packet_before_bits : AllGet live held 110 ((0x5b, 1 ∷ 1 ∷ []) ∷ (0xfc, 1 ∷ 1 ∷ []) ∷ (0x18, 1 ∷ 1 ∷ []) ∷ (0x8c, 1 ∷ 1 ∷ []) ∷ (0x58, []) ∷ [])
  -- "111; 106; 107; reserved bits not zero (0x0c long, 0x18 short) code 10; no frames code 10": each of the three with frames and none, with reserved bits and without. No number is two of the three
  pub no_number : AllGet live last_held 111 ((0x40, 0 ∷ 1 ∷ []) ∷ (0x40, 0 ∷ []) ∷ (0x58, 0 ∷ 1 ∷ []) ∷ (0x58, 128 ∷ []) ∷ [])
  pub below_record : AllGet live held 106 ((0x41, 0 ∷ 0 ∷ 1 ∷ []) ∷ (0x41, 0 ∷ 0 ∷ []) ∷ (0x59, 0 ∷ 0 ∷ 1 ∷ []) ∷ (0x49, 0 ∷ 0 ∷ []) ∷ [])
  pub in_record : AllGet live held 107 ((0x40, 0 ∷ 1 ∷ []) ∷ (0x40, 0 ∷ []) ∷ (0x58, 0 ∷ 1 ∷ []) ∷ (0x50, 0 ∷ []) ∷ (0x59, 0x20 ∷ 0 ∷ []) ∷ [])
  pub next_to_these : AllGet live held 0 ((0x41, 0 ∷ 1 ∷ 1 ∷ []) ∷ (0x40, 1 ∷ 1 ∷ []) ∷ (0x41, 0x1f ∷ 0xff ∷ 1 ∷ []) ∷ [])
  pub next_to_none : AllGet live last_held 0 ((0x40, 129 ∷ 1 ∷ []) ∷ (0x40, 254 ∷ 1 ∷ []) ∷ [])
  -- reserved bits, then no frames: both close with code 10 and type 0, so that one cannot tell which came first
  pub reserved_bits : AllGet live held 10 ((0x48, 1 ∷ 1 ∷ []) ∷ (0x50, 1 ∷ 1 ∷ []) ∷ (0x58, 1 ∷ 0x1f ∷ []) ∷ (0xc4, 1 ∷ 1 ∷ []) ∷ (0xe8, 1 ∷ 1 ∷ []) ∷ (0xdc, 1 ∷ 1 ∷ []) ∷ (0x58, 1 ∷ []) ∷ [])
  pub free_bits : AllGet live held 0 ((0x44, 1 ∷ 1 ∷ []) ∷ (0x60, 1 ∷ 1 ∷ []) ∷ (0xc0, 1 ∷ 1 ∷ []) ∷ (0xd0, 1 ∷ 1 ∷ []) ∷ (0xe0, 1 ∷ 1 ∷ []) ∷ [])
  pub no_frames : AllGet live held 10 ((0x40, 1 ∷ []) ∷ (0x41, 0x20 ∷ 1 ∷ []) ∷ (0x42, 0 ∷ 0x20 ∷ 1 ∷ []) ∷ (0x43, 0 ∷ 0 ∷ 0x20 ∷ 1 ∷ []) ∷ [])
  -- the same order of the three long kinds: 111, 106 and 107, each with reserved bits and without, with frames and none; then reserved bits, and no frames
  pub long_no_number : AllGet live last_held 111 ((0xc0, 0 ∷ 1 ∷ []) ∷ (0xdc, 0 ∷ []) ∷ (0xec, 0 ∷ 1 ∷ []) ∷ [])
  pub long_below : AllGet live held 106 ((0xcd, 0 ∷ 0 ∷ 1 ∷ []) ∷ (0xd1, 0 ∷ 0 ∷ []) ∷ (0xe9, 0 ∷ 0 ∷ []) ∷ [])
  pub long_in : AllGet live held 107 ((0xcc, 0 ∷ 1 ∷ []) ∷ (0xd0, 0 ∷ []) ∷ (0xe4, 0 ∷ []) ∷ [])
  pub long_no_packet : AllGet live held 110 ((0xcd, 1 ∷ []) ∷ (0xd2, 1 ∷ 1 ∷ []) ∷ (0xef, 1 ∷ 1 ∷ 1 ∷ []) ∷ [])
  pub long_no_frames : AllGet live held 10 ((0xc0, 1 ∷ []) ∷ (0xd0, 1 ∷ []) ∷ (0xe1, 0x20 ∷ 1 ∷ []) ∷ [])

-- what each leaves: as no frame was looked at, the place that is told is the end of the bytes
pub record Endings : Type 0 where
  -- "nothing changed", the closing mark neither
  pub after_101 : outcome (marked (Code FinalSize 4)) held (0xf0, 0 ∷ 1 ∷ []) ≡ ending Closed 2 (marked (Code FinalSize 4)) held
  pub after_110 : outcome live held (0x43, 1 ∷ 1 ∷ 1 ∷ []) ≡ ending NoPacket 3 live held
  pub after_111 : outcome live last_held (0x58, 0 ∷ 0x1f ∷ []) ≡ ending NoSuchNumber 2 live last_held
  pub after_106 : outcome live held (0x59, 0 ∷ 0 ∷ 0x1f ∷ []) ≡ ending BelowRecord 3 live held
  pub after_107 : outcome live held (0x58, 0 ∷ 0x1f ∷ []) ≡ ending InRecord 2 live held
  -- "closed with code and type (type 0 if none was read)": the frames are not looked at, and the number is not recorded
  pub after_bits : outcome live held (0x48, 1 ∷ 0x0a ∷ 4 ∷ 1 ∷ 0x61 ∷ []) ≡ ending ProtocolViolation 5 (marked (Code ProtocolViolation 0)) held
  pub after_none : outcome live held (0x41, 0x20 ∷ 1 ∷ []) ≡ ending ProtocolViolation 2 (marked (Code ProtocolViolation 0)) held
