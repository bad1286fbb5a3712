-- docs/RULES.md, "Taking a packet": "The walk stops at the first frame that is refused": a packet refused in its middle, by each kind of refusal, one that ends with CONNECTION_CLOSE and one of which all pass; each with all that it leaves.
use Rattle.std.specs.Prelude.{ℕ, ◌≡◌, List, [], ◌∷◌, ◌++◌, map, replicate, set}
use Rattle.answers.specs.declared.Answer.{Answer}
use Rattle.answers.specs.declared.Answer.TheVariants.{Accepted, FlowControl, StreamLimit, StreamState, FinalSize, FrameEncoding, ProtocolViolation}
use Rattle.streams.specs.declared.Mark.{Mark}
use Rattle.streams.specs.declared.Mark.TheVariants.{Open, Code, ByPeer}
use Rattle.spaces.specs.declared.Records.{Records}
use Rattle.accounts.specs.History.{State}
use Rattle.hosts.specs.Unfit.{unsized, whole_host, plain, first_marked, held}
use Rattle.hosts.specs.Order.{Outcome, outcome, ending, table, marked, live}

-- with 8,193 recorded in the last space
abbrev pub recorded_next : Records
recorded_next = record { initial = first_marked 8193; handshake = first_marked 8193; application = record { words = 3 ∷ replicate 127 0; top = 8194 } }

-- ---- packets

-- STREAM of three bytes on stream 4, from offset 0, which opens it and sets its end to 3
abbrev pub three : List ℕ
three = 0x0a ∷ 4 ∷ 3 ∷ 0x61 ∷ 0x62 ∷ 0x63 ∷ []

-- 8,193 as one byte, a PING, then that frame: it ends at 8
abbrev pub before : List ℕ
before = 1 ∷ 0x01 ∷ three

-- what these leave, with a mark
abbrev pub heard : Mark → State
heard mark = whole_host plain (2 ∷ 2 ∷ 64 ∷ 1 ∷ []) 21 (1 ∷ 1 ∷ 1 ∷ []) mark (set table 1 (unsized 16 3))

-- the packet of these and some more bytes
abbrev pub going_on : List ℕ → Outcome
going_on s = outcome live held (0x40, before ++ s)

-- .. in 0-RTT
abbrev pub going_on_early : List ℕ → Outcome
going_on_early s = outcome live held (0xd0, before ++ s)

-- NEW_CONNECTION_ID: sequence number 3, an ID of one byte
abbrev pub identity : List ℕ
identity = 0x18 ∷ 3 ∷ 0 ∷ 1 ∷ replicate 17 5

-- .. which are refused: "frames before it stay applied, it changes nothing itself, the connection closes with its code and type, and the number is not recorded"
abbrev pub refused_in : Answer → ℕ → Outcome
refused_in answer ty = ending answer 8 (heard (Code answer ty)) held

-- ---- the rows

pub record Stops : Type 0 where
  -- "then the frames": "If all pass, the number is recorded", and the place is their end
  pub all_pass : outcome live held (0x40, before) ≡ ending Accepted 8 (heard Open) recorded_next
  -- no frame is passed over, however many there are: each PADDING byte is one, and the last byte of the packet is looked at
  pub short_frames : outcome live held (0x40, 1 ∷ 0x00 ∷ 0x01 ∷ 0x00 ∷ 0x00 ∷ 0x01 ∷ 0x01 ∷ 0x1f ∷ []) ≡ ending FrameEncoding 7 (marked (Code FrameEncoding 0x1f)) held
  -- "The walk stops at the first frame that is refused": rules 4, 2, 1 and 3; what stands behind it is not looked at
  pub refused_credit : going_on (0x0e ∷ 4 ∷ 15 ∷ 2 ∷ 0x61 ∷ 0x61 ∷ 0x1f ∷ []) ≡ refused_in FlowControl 0x0e
  pub refused_count : going_on (0x0a ∷ 16 ∷ 0 ∷ 0x01 ∷ []) ≡ refused_in StreamLimit 0x0a
  pub refused_state : going_on (0x05 ∷ 2 ∷ 0 ∷ 0x01 ∷ []) ≡ refused_in StreamState 0x05
  pub refused_size : going_on (0x04 ∷ 4 ∷ 0 ∷ 2 ∷ 0x01 ∷ []) ≡ refused_in FinalSize 0x04
  -- .. an ACK of a number not yet handed out; a type that is unreadable (type 0), padded, unknown, not admitted; a field
  pub refused_ack : going_on (0x02 ∷ 1 ∷ 0 ∷ 0 ∷ 0 ∷ 0x01 ∷ []) ≡ refused_in ProtocolViolation 0x02
  pub refused_unreadable : going_on (0x40 ∷ []) ≡ refused_in FrameEncoding 0
  pub refused_padded : going_on (0x40 ∷ 0x01 ∷ []) ≡ refused_in ProtocolViolation 0x01
  pub refused_unknown : going_on (0x1f ∷ []) ≡ refused_in FrameEncoding 0x1f
  pub refused_not_admitted : going_on (0x1e ∷ []) ≡ refused_in ProtocolViolation 0x1e
  pub refused_field : going_on (0x0a ∷ 4 ∷ 2 ∷ 0x61 ∷ []) ≡ refused_in FrameEncoding 0x0a
  -- .. RETIRE_CONNECTION_ID in 0-RTT, whole and cut short; in 1-RTT it passes, and NEW_CONNECTION_ID does in 0-RTT
  pub refused_early : map going_on_early ((0x19 ∷ 5 ∷ 0x01 ∷ []) ∷ (0x19 ∷ 0x41 ∷ []) ∷ (0x19 ∷ []) ∷ []) ≡ replicate 3 (refused_in ProtocolViolation 0x19)
  pub passed_late : going_on (0x19 ∷ 5 ∷ []) ≡ ending Accepted 10 (heard Open) recorded_next
  pub passed_early : going_on_early identity ≡ ending Accepted 29 (heard Open) recorded_next
  -- "CONNECTION_CLOSE is accepted, ends the walk, records the number and closes "by peer""; the place is its own, and what stands behind it is not looked at
  pub closed_by_peer : going_on (0x1c ∷ 3 ∷ 0x1f ∷ 0 ∷ 0x40 ∷ []) ≡ ending Accepted 8 (heard ByPeer) recorded_next
  pub closed_by_application : (going_on (0x1d ∷ 3 ∷ 1 ∷ 0x61 ∷ 0x1f ∷ [])).took.conn ≡ (heard ByPeer).conn
  pub application_place : (going_on (0x1d ∷ 3 ∷ 1 ∷ 0x61 ∷ 0x1f ∷ [])).took.place ≡ 8
  pub application_recorded : (going_on (0x1d ∷ 3 ∷ 1 ∷ 0x61 ∷ 0x1f ∷ [])).took.records.application.top ≡ 8194
