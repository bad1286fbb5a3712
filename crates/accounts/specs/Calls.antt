-- The local calls at their borders, whole: the answer, the number handed out, the connection in all its parts and the entry, on a connection all of whose numbers differ. docs/RULES.md, "Local calls": "Order: 101, 104, 105, 103, 102"; a refused call leaves "nothing changed".
use Rattle.std.specs.Prelude.{ℕ, ◌+◌, ◌-◌, ◌^◌, ◌≡◌, [], ◌∷◌, map}
use Rattle.kinds.specs.declared.Role.TheVariants.{Server}
use Rattle.answers.specs.Answers.{number_of}
use Rattle.answers.specs.declared.Answer.{Answer}
use Rattle.answers.specs.declared.Answer.TheVariants.{Accepted, FlowControl, Closed, NotAbove, AboveCeiling, NotServed, SizeKnown}
use Rattle.streams.specs.declared.Called.{Called}
use Rattle.streams.specs.declared.Conn.{Conn}
use Rattle.streams.specs.declared.Mark.{Mark}
use Rattle.streams.specs.declared.Mark.TheVariants.{Open, Code, ByPeer}
use Rattle.kinds.specs.declared.Space.TheVariants.{Initial, Handshake, Application}
use Rattle.streams.specs.Conn.{handed_out_of}
use Rattle.entries.specs.declared.Entry.{Entry}
use Rattle.calls.specs.declared.Call.{Call}
use Rattle.calls.specs.declared.Call.TheVariants.{RaiseCredit, RaiseStream, RaiseCount, OpenNext}
use Rattle.replies.specs.declared.Replied.{Replied}
use Rattle.calls.specs.Calls.{stream_in, raise_of}
use Rattle.replies.specs.Replies.{conn_called, replied_of}
use Rattle.accounts.specs.Borders.{limits, held, before, entry, growing, called}

-- the connection before, closed with a code or by the peer
abbrev pub closed_as : Mark → Conn
closed_as mark = held 1 2 3 4 20 mark

-- the same with other limits: the connection credit and the two counts
abbrev pub limited_by : ℕ → ℕ → ℕ → Conn
limited_by credit two_way one_way = record { limits = limits credit two_way one_way 16 17 18; opened = 1 ∷ 2 ∷ 3 ∷ 4 ∷ []; total = 20; next = 7 ∷ 8 ∷ 9 ∷ []; mark = Open; role = Server }

-- the same with other next numbers, and a mark
abbrev pub numbered : ℕ → ℕ → ℕ → Mark → Conn
numbered initial handshake application mark = record { limits = limits 40 3 5 16 17 18; opened = 1 ∷ 2 ∷ 3 ∷ 4 ∷ []; total = 20; next = initial ∷ handshake ∷ application ∷ []; mark = mark; role = Server }

-- a call on an entry with credit 16 and furthest end 6
abbrev pub replied : Conn → Call → Replied
replied c call = replied_of c (growing 16 6) call

abbrev pub accepted : ℕ → Conn → Entry → Replied
accepted number c e = record { called = record { answer = Accepted; number = number; conn = c }; entry = e }

-- refused: no number, and nothing changed
abbrev pub refused : Answer → Conn → Entry → Replied
refused answer c e = record { called = record { answer = answer; number = 0; conn = c }; entry = e }

abbrev pub handed : ℕ → Conn → Called
handed number c = record { answer = Accepted; number = number; conn = c }

abbrev pub none_left : Conn → Called
none_left c = record { answer = AboveCeiling; number = 0; conn = c }

pub record Calls : Type 0 where
  -- "raise the connection credit": it alone changes
  pub credit : replied before (RaiseCredit 41) ≡ accepted 0 (limited_by 41 3 5) (growing 16 6)
  pub credit_most : replied before (RaiseCredit (2 ^ 62 - 1)) ≡ accepted 0 (limited_by (2 ^ 62 - 1) 3 5) (growing 16 6)
  pub credit_above : replied before (RaiseCredit (2 ^ 62)) ≡ refused AboveCeiling before (growing 16 6)
  pub credit_same : replied before (RaiseCredit 40) ≡ refused NotAbove before (growing 16 6)
  pub credit_lower : replied before (RaiseCredit 0) ≡ refused NotAbove before (growing 16 6)
  -- "a stream's credit": the entry's credit alone changes, for the last open stream of each type that receives
  pub stream : map (λ id. replied before (RaiseStream id 17)) (0 ∷ 5 ∷ 10 ∷ []) ≡ accepted 0 before (growing 17 6) ∷ accepted 0 before (growing 17 6) ∷ accepted 0 before (growing 17 6) ∷ []
  pub stream_most : replied before (RaiseStream 0 (2 ^ 62 - 1)) ≡ accepted 0 before (growing (2 ^ 62 - 1) 6)
  pub stream_above : replied before (RaiseStream 0 (2 ^ 62)) ≡ refused AboveCeiling before (growing 16 6)
  pub stream_same : replied before (RaiseStream 0 16) ≡ refused NotAbove before (growing 16 6)
  pub stream_known : replied_of before (entry 16 6 6) (RaiseStream 0 17) ≡ refused SizeKnown before (entry 16 6 6)
  -- "stream not open, no receive half": the next stream of each type, and one of type 3 that is open
  pub stream_not_open : replied before (RaiseStream 4 17) ≡ refused NotServed before (growing 16 6)
  pub stream_not_served : called before (growing 16 6) (RaiseStream 4 17 ∷ RaiseStream 9 17 ∷ RaiseStream 14 17 ∷ RaiseStream 3 17 ∷ RaiseStream 15 17 ∷ RaiseStream 19 17 ∷ []) ≡ 104 ∷ 104 ∷ 104 ∷ 104 ∷ 104 ∷ 104 ∷ []
  -- the last stream of each type where all are open, and IDs that no stream has
  pub stream_last : called (held 64 64 64 64 20 Open) (growing 16 6) (RaiseStream 252 17 ∷ RaiseStream 256 17 ∷ RaiseStream 253 17 ∷ RaiseStream 257 17 ∷ RaiseStream 254 17 ∷ RaiseStream 258 17 ∷ RaiseStream 255 17 ∷ []) ≡ 0 ∷ 104 ∷ 0 ∷ 104 ∷ 0 ∷ 104 ∷ 104 ∷ []
  pub stream_no_id : called (held 64 64 64 64 20 Open) (growing 16 6) (RaiseStream (2 ^ 62 - 4) 17 ∷ RaiseStream (2 ^ 62) 17 ∷ RaiseStream (2 ^ 62 + 1) 17 ∷ RaiseStream (2 ^ 62 + 2) 17 ∷ RaiseStream (2 ^ 64 - 4) 17 ∷ RaiseStream (2 ^ 64 - 1) 17 ∷ []) ≡ 104 ∷ 104 ∷ 104 ∷ 104 ∷ 104 ∷ 104 ∷ []
  -- "or a count of type 0 or 2": 3 and 5 here, and that of the type alone changes
  pub count_two_way : replied before (RaiseCount 0 4) ≡ accepted 0 (limited_by 40 4 5) (growing 16 6)
  pub count_two_way_most : replied before (RaiseCount 0 64) ≡ accepted 0 (limited_by 40 64 5) (growing 16 6)
  pub count_two_way_above : replied before (RaiseCount 0 65) ≡ refused AboveCeiling before (growing 16 6)
  pub count_two_way_same : replied before (RaiseCount 0 3) ≡ refused NotAbove before (growing 16 6)
  pub count_one_way : replied before (RaiseCount 2 6) ≡ accepted 0 (limited_by 40 3 6) (growing 16 6)
  pub count_one_way_most : replied before (RaiseCount 2 64) ≡ accepted 0 (limited_by 40 3 64) (growing 16 6)
  pub count_one_way_above : replied before (RaiseCount 2 65) ≡ refused AboveCeiling before (growing 16 6)
  pub count_one_way_same : replied before (RaiseCount 2 5) ≡ refused NotAbove before (growing 16 6)
  pub count_one_way_lower : replied before (RaiseCount 2 4) ≡ refused NotAbove before (growing 16 6)
  -- "a type that this call does not serve": ours, and what is no type
  pub count_not_served : replied before (RaiseCount 1 5) ≡ refused NotServed before (growing 16 6)
  pub count_types : called before (growing 16 6) (RaiseCount 1 6 ∷ RaiseCount 3 6 ∷ RaiseCount 4 6 ∷ RaiseCount 5 6 ∷ RaiseCount 6 6 ∷ RaiseCount 7 6 ∷ RaiseCount (2 ^ 64 - 2) 6 ∷ []) ≡ 104 ∷ 104 ∷ 104 ∷ 104 ∷ 104 ∷ 104 ∷ 104 ∷ []
  -- "open the next type 1 or 3 stream": the number is the stream's ID, and one more of the type is open; the first, a later one, and the 64th
  pub next_two_way_first : replied (held 1 0 3 4 20 Open) (OpenNext 1) ≡ accepted 1 (held 1 1 3 4 20 Open) (growing 16 6)
  pub next_two_way_second : replied (held 1 1 3 4 20 Open) (OpenNext 1) ≡ accepted 5 (held 1 2 3 4 20 Open) (growing 16 6)
  pub next_two_way : replied before (OpenNext 1) ≡ accepted 9 (held 1 3 3 4 20 Open) (growing 16 6)
  pub next_two_way_last : replied (held 1 63 3 4 20 Open) (OpenNext 1) ≡ accepted 253 (held 1 64 3 4 20 Open) (growing 16 6)
  pub next_two_way_none : replied (held 1 64 3 4 20 Open) (OpenNext 1) ≡ refused AboveCeiling (held 1 64 3 4 20 Open) (growing 16 6)
  pub next_one_way_first : replied (held 1 2 3 0 20 Open) (OpenNext 3) ≡ accepted 3 (held 1 2 3 1 20 Open) (growing 16 6)
  pub next_one_way_second : replied (held 1 2 3 1 20 Open) (OpenNext 3) ≡ accepted 7 (held 1 2 3 2 20 Open) (growing 16 6)
  pub next_one_way : replied before (OpenNext 3) ≡ accepted 19 (held 1 2 3 5 20 Open) (growing 16 6)
  pub next_one_way_last : replied (held 1 2 3 63 20 Open) (OpenNext 3) ≡ accepted 255 (held 1 2 3 64 20 Open) (growing 16 6)
  pub next_one_way_none : replied (held 1 2 3 64 20 Open) (OpenNext 3) ≡ refused AboveCeiling (held 1 2 3 64 20 Open) (growing 16 6)
  pub next_not_served : replied before (OpenNext 0) ≡ refused NotServed before (growing 16 6)
  pub next_types : called before (growing 16 6) (OpenNext 0 ∷ OpenNext 2 ∷ OpenNext 4 ∷ OpenNext 5 ∷ OpenNext 6 ∷ OpenNext 7 ∷ OpenNext (2 ^ 64 - 3) ∷ OpenNext (2 ^ 64 - 1) ∷ []) ≡ 104 ∷ 104 ∷ 104 ∷ 104 ∷ 104 ∷ 104 ∷ 104 ∷ 104 ∷ []
  -- 101 before 104, 105, 103 and 102, and for a call that nothing else refuses, with either mark
  pub closed_by_peer : called (closed_as ByPeer) (entry 16 6 6) (RaiseStream 4 17 ∷ RaiseCount 1 6 ∷ OpenNext 0 ∷ RaiseStream 0 17 ∷ RaiseCredit (2 ^ 62) ∷ RaiseCount 0 65 ∷ RaiseCredit 40 ∷ RaiseCount 2 5 ∷ RaiseCredit 41 ∷ RaiseCount 0 4 ∷ OpenNext 1 ∷ []) ≡ 101 ∷ 101 ∷ 101 ∷ 101 ∷ 101 ∷ 101 ∷ 101 ∷ 101 ∷ 101 ∷ 101 ∷ 101 ∷ []
  pub closed_open_stream : replied (closed_as ByPeer) (RaiseStream 0 17) ≡ refused Closed (closed_as ByPeer) (growing 16 6)
  pub closed_with_code : replied (closed_as (Code FlowControl 10)) (OpenNext 1) ≡ refused Closed (closed_as (Code FlowControl 10)) (growing 16 6)
  pub closed_full : called (held 1 64 3 64 20 ByPeer) (growing 16 6) (OpenNext 1 ∷ OpenNext 3 ∷ []) ≡ 101 ∷ 101 ∷ []
  -- 104 before 105 ..
  pub not_served_first : called before (entry 16 6 6) (RaiseStream 4 17 ∷ RaiseStream 3 17 ∷ []) ≡ 104 ∷ 104 ∷ []
  -- .. before 103 ..
  pub not_served_above : called (held 64 64 64 64 20 Open) (growing 16 6) (RaiseStream 256 (2 ^ 62) ∷ RaiseStream 3 (2 ^ 62) ∷ RaiseCount 1 65 ∷ RaiseCount 3 65 ∷ RaiseCount 4 65 ∷ OpenNext 0 ∷ OpenNext 2 ∷ OpenNext 5 ∷ OpenNext 7 ∷ []) ≡ 104 ∷ 104 ∷ 104 ∷ 104 ∷ 104 ∷ 104 ∷ 104 ∷ 104 ∷ 104 ∷ []
  -- .. and before 102
  pub not_served_same : called before (growing 16 6) (RaiseStream 4 16 ∷ RaiseStream 3 16 ∷ RaiseCount 1 2 ∷ RaiseCount 3 4 ∷ RaiseCount 4 3 ∷ []) ≡ 104 ∷ 104 ∷ 104 ∷ 104 ∷ 104 ∷ []
  -- 105 before 103 and 102; a final size of 0 is known
  pub known_first : called before (entry 16 6 6) (RaiseStream 0 (2 ^ 62) ∷ RaiseStream 0 16 ∷ RaiseStream 0 17 ∷ []) ≡ 105 ∷ 105 ∷ 105 ∷ []
  pub known_empty : called before (entry 16 0 0) (RaiseStream 0 17 ∷ []) ≡ 105 ∷ []
  -- 103 and 102 cannot meet in a call: no present value is above its ceiling, or the answer was 120 before. In the rule itself 103 is first
  pub above_first : map (λ new. number_of (raise_of 70 new 64)) (0 ∷ 64 ∷ 65 ∷ 70 ∷ 71 ∷ []) ≡ 102 ∷ 102 ∷ 103 ∷ 103 ∷ 103 ∷ []
  pub raises : map (λ new. number_of (raise_of 60 new 64)) (59 ∷ 60 ∷ 61 ∷ 64 ∷ 65 ∷ []) ≡ 102 ∷ 102 ∷ 0 ∷ 0 ∷ 103 ∷ []
  -- a final size is asked for by no call but the raise of its stream's credit
  pub known_others : called before (entry 16 6 6) (RaiseCredit 41 ∷ RaiseCount 0 4 ∷ OpenNext 1 ∷ []) ≡ 0 ∷ 0 ∷ 0 ∷ []
  -- what is left when accepted, asked without the answer: whatever the mark
  pub credit_closed : (conn_called (closed_as ByPeer) (RaiseCredit 41)).mark ≡ ByPeer
  pub count_closed : (conn_called (closed_as ByPeer) (RaiseCount 0 4)).mark ≡ ByPeer
  -- the stream whose entry a call looks at
  pub looks_at : map stream_in (RaiseCredit 41 ∷ RaiseStream 5 17 ∷ RaiseCount 2 6 ∷ OpenNext 3 ∷ []) ≡ 0 ∷ 5 ∷ 0 ∷ 0 ∷ []
  -- "a call hands out the next number of a space, from 0": of each space its own, and nothing else changes
  pub hands_first : map (handed_out_of (numbered 0 0 0 Open)) (Initial ∷ Handshake ∷ Application ∷ []) ≡ handed 0 (numbered 1 0 0 Open) ∷ handed 0 (numbered 0 1 0 Open) ∷ handed 0 (numbered 0 0 1 Open) ∷ []
  pub hands_out : map (handed_out_of (numbered 7 8 9 Open)) (Initial ∷ Handshake ∷ Application ∷ []) ≡ handed 7 (numbered 8 8 9 Open) ∷ handed 8 (numbered 7 9 9 Open) ∷ handed 9 (numbered 7 8 10 Open) ∷ []
  -- it ignores the closing mark
  pub hands_out_closed : map (handed_out_of (numbered 7 8 9 ByPeer)) (Initial ∷ Handshake ∷ Application ∷ []) ≡ handed 7 (numbered 8 8 9 ByPeer) ∷ handed 8 (numbered 7 9 9 ByPeer) ∷ handed 9 (numbered 7 8 10 ByPeer) ∷ []
  pub hands_out_code : handed_out_of (numbered 7 8 9 (Code FlowControl 10)) Handshake ≡ handed 8 (numbered 7 9 9 (Code FlowControl 10))
  -- "after 2^62-1 it is 103"
  pub hands_last : map (λ space. handed_out_of (numbered (2 ^ 62 - 1) (2 ^ 62 - 1) (2 ^ 62 - 1) Open) space) (Initial ∷ Handshake ∷ Application ∷ [])
      ≡ handed (2 ^ 62 - 1) (numbered (2 ^ 62) (2 ^ 62 - 1) (2 ^ 62 - 1) Open) ∷ handed (2 ^ 62 - 1) (numbered (2 ^ 62 - 1) (2 ^ 62) (2 ^ 62 - 1) Open) ∷ handed (2 ^ 62 - 1) (numbered (2 ^ 62 - 1) (2 ^ 62 - 1) (2 ^ 62) Open) ∷ []
  pub hands_none : map (λ space. handed_out_of (numbered (2 ^ 62) (2 ^ 62) (2 ^ 64 - 1) ByPeer) space) (Initial ∷ Handshake ∷ Application ∷ []) ≡ none_left (numbered (2 ^ 62) (2 ^ 62) (2 ^ 64 - 1) ByPeer) ∷ none_left (numbered (2 ^ 62) (2 ^ 62) (2 ^ 64 - 1) ByPeer) ∷ none_left (numbered (2 ^ 62) (2 ^ 62) (2 ^ 64 - 1) ByPeer) ∷ []
  -- a space whose numbers are used up leaves the others theirs
  pub hands_others : map (λ space. number_of (handed_out_of (numbered 7 (2 ^ 62) 9 Open) space).answer) (Initial ∷ Handshake ∷ Application ∷ []) ≡ 0 ∷ 103 ∷ 0 ∷ []
