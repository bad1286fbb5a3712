-- What the calls leave of the host, its whole table with it: each frame that names a stream at a stream of each type, each local call accepted and refused, and numbers handed out. The rules themselves are held to docs/RULES.md on a connection and one entry (crate accounts); here it is seen that the one entry is that of the stream, and that all others stay.
use Rattle.std.specs.Prelude.{ℕ, ◌-◌, ◌^◌, ◌≡◌, List, [], ◌∷◌, map, replicate, set}
use Rattle.answers.specs.Answers.{number_of}
use Rattle.kinds.specs.declared.Kind.TheVariants.{OneRtt}
use Rattle.streams.specs.declared.Limits.{Limits}
use Rattle.streams.specs.declared.Mark.{Mark}
use Rattle.streams.specs.declared.Mark.TheVariants.{Open, ByPeer}
use Rattle.kinds.specs.declared.Space.TheVariants.{Initial, Handshake, Application}
use Rattle.streams.specs.Conn.{handed_out_of}
use Rattle.entries.specs.declared.Entry.{Entry}
use Rattle.entries.specs.Entry.{fresh}
use Rattle.calls.specs.declared.Call.{Call}
use Rattle.calls.specs.declared.Call.TheVariants.{RaiseCredit, RaiseStream, RaiseCount, OpenNext}
use Rattle.local.specs.Calling.{called_at}
use Rattle.accounts.specs.History.{State}
use Rattle.demands.specs.Hosts.{answered, acted}
use Rattle.demands.specs.Hosts.Act.{TakeFrame, Make, HandOut}
use Rattle.hosts.specs.Unfit.{limits_of, sized, unsized, table_of, whole_host}

-- connection credit 100, counts 4 and 62, initial credits 16, 17 and 18; open are one stream of type 0, two of type 1, 61 of type 2 and one of type 3; streams 0 and 5 have ends 5 and 6, the last as its final size
abbrev pub entries_now : List Entry
entries_now = table_of 16 17 18 (unsized 16 5) (sized 17 6 6) (fresh 18)

abbrev pub limits_now : Limits
limits_now = limits_of 100 4 62 16 17 18

abbrev pub host : Limits → List ℕ → ℕ → List Entry → State
host limits opened total table = whole_host limits opened total (3 ∷ 4 ∷ 5 ∷ []) Open table

abbrev pub open_now : List ℕ
open_now = 1 ∷ 2 ∷ 61 ∷ 1 ∷ []

abbrev pub now : State
now = host limits_now open_now 11 entries_now

-- some 1-RTT frames, each to the host as it is: it stays open, as all are accepted
abbrev pub after : List (List ℕ) → List State
after = map (λ (s : List ℕ). acted now (TakeFrame s 0 OneRtt))

-- some local calls
abbrev pub after_calls : List Call → List State
after_calls = map (λ (call : Call). acted now (Make call))

abbrev pub call_answers : List Call → List ℕ
call_answers = map (λ (call : Call). number_of (answered now (Make call)))

-- the number that a local call hands out
abbrev pub numbers : List Call → List ℕ
numbers = map (λ (call : Call). (called_at now.conn now.table call).number)

-- STREAM of two bytes to end 7: on streams 0 (which has 5), 12, 1 and 246; RESET_STREAM at 7 of streams 4, 1, 242 and 5
abbrev pub streams : List (List ℕ)
streams = (0x0e ∷ 0 ∷ 5 ∷ 2 ∷ 8 ∷ 8 ∷ []) ∷ (0x0f ∷ 12 ∷ 5 ∷ 2 ∷ 8 ∷ 8 ∷ []) ∷ (0x0e ∷ 1 ∷ 5 ∷ 2 ∷ 8 ∷ 8 ∷ []) ∷ (0x0e ∷ 0x40 ∷ 246 ∷ 5 ∷ 2 ∷ 8 ∷ 8 ∷ []) ∷ []

abbrev pub resets : List (List ℕ)
resets = (0x04 ∷ 4 ∷ 0 ∷ 7 ∷ []) ∷ (0x04 ∷ 1 ∷ 0 ∷ 7 ∷ []) ∷ (0x04 ∷ 0x40 ∷ 242 ∷ 0 ∷ 7 ∷ []) ∷ (0x04 ∷ 5 ∷ 0 ∷ 6 ∷ []) ∷ []

-- frames that name a stream without an end: STREAM_DATA_BLOCKED of streams 8 and 246, STOP_SENDING of 12 and 3, MAX_STREAM_DATA of 5
abbrev pub namings : List (List ℕ)
namings = (0x15 ∷ 8 ∷ 9 ∷ []) ∷ (0x15 ∷ 0x40 ∷ 246 ∷ 9 ∷ []) ∷ (0x05 ∷ 12 ∷ 9 ∷ []) ∷ (0x05 ∷ 3 ∷ 9 ∷ []) ∷ (0x11 ∷ 5 ∷ 9 ∷ []) ∷ []

-- frames that name none: MAX_DATA, MAX_STREAMS, DATA_BLOCKED, STREAMS_BLOCKED, RETIRE_CONNECTION_ID, and an ACK of a number that was handed out
abbrev pub others : List (List ℕ)
others = (0x10 ∷ 9 ∷ []) ∷ (0x12 ∷ 9 ∷ []) ∷ (0x14 ∷ 9 ∷ []) ∷ (0x16 ∷ 9 ∷ []) ∷ (0x19 ∷ 9 ∷ []) ∷ (0x02 ∷ 4 ∷ 0 ∷ 0 ∷ 4 ∷ []) ∷ []

-- each raise just above what is, and a stream of types 1 and 3
abbrev pub raises : List Call
raises = RaiseCredit 101 ∷ RaiseStream 0 17 ∷ RaiseStream 1 18 ∷ RaiseStream 242 19 ∷ RaiseCount 0 5 ∷ RaiseCount 2 63 ∷ OpenNext 1 ∷ OpenNext 3 ∷ []

-- 102, 103, 104 and 105
abbrev pub no_raises : List Call
no_raises = RaiseCredit 100 ∷ RaiseCount 2 62 ∷ RaiseStream 0 16 ∷ RaiseCredit (2 ^ 62) ∷ RaiseCount 0 65 ∷ RaiseStream 1 (2 ^ 62) ∷ RaiseStream 4 50 ∷ RaiseStream 3 50 ∷ RaiseCount 1 50 ∷ OpenNext 0 ∷ OpenNext 4 ∷ RaiseStream 5 50 ∷ []

-- with these next numbers and a mark
abbrev pub handing : List ℕ → Mark → State
handing next mark = whole_host limits_now open_now 11 next mark entries_now

pub record Leaving : Type 0 where
  -- "Acceptance sets furthest end, total and, where given, final size. It opens all lower ordinals of the type": the end grows by 2 on stream 0, else by 7
  pub stream_hosts : after streams
      ≡ host limits_now open_now 13 (set entries_now 0 (unsized 16 7))
      ∷ host limits_now (4 ∷ 2 ∷ 61 ∷ 1 ∷ []) 18 (set entries_now 3 (sized 16 7 7))
      ∷ host limits_now open_now 18 (set entries_now 64 (unsized 17 7))
      ∷ host limits_now (1 ∷ 2 ∷ 62 ∷ 1 ∷ []) 18 (set entries_now 189 (unsized 18 7))
      ∷ []
  -- "RESET_STREAM: the same, its final size taken as an end with FIN"
  pub reset_hosts : after resets
      ≡ host limits_now (2 ∷ 2 ∷ 61 ∷ 1 ∷ []) 18 (set entries_now 1 (sized 16 7 7))
      ∷ host limits_now open_now 18 (set entries_now 64 (sized 17 7 7))
      ∷ host limits_now open_now 18 (set entries_now 188 (sized 18 7 7))
      ∷ now
      ∷ []
  -- "These open too", and touch no entry
  pub naming_hosts : after namings ≡ host limits_now (3 ∷ 2 ∷ 61 ∷ 1 ∷ []) 11 entries_now ∷ host limits_now (1 ∷ 2 ∷ 62 ∷ 1 ∷ []) 11 entries_now ∷ host limits_now (4 ∷ 2 ∷ 61 ∷ 1 ∷ []) 11 entries_now ∷ now ∷ now ∷ []
  -- all others change nothing
  pub other_hosts : after others ≡ replicate 6 now
  -- "raise the connection credit, a stream's credit or a count of type 0 or 2; open the next type 1 or 3 stream"
  pub raise_hosts : after_calls raises
      ≡ host (limits_of 101 4 62 16 17 18) open_now 11 entries_now
      ∷ host limits_now open_now 11 (set entries_now 0 (unsized 17 5))
      ∷ host limits_now open_now 11 (set entries_now 64 (fresh 18))
      ∷ host limits_now open_now 11 (set entries_now 188 (fresh 19))
      ∷ host (limits_of 100 5 62 16 17 18) open_now 11 entries_now
      ∷ host (limits_of 100 4 63 16 17 18) open_now 11 entries_now
      ∷ host limits_now (1 ∷ 3 ∷ 61 ∷ 1 ∷ []) 11 entries_now
      ∷ host limits_now (1 ∷ 2 ∷ 61 ∷ 2 ∷ []) 11 entries_now
      ∷ []
  -- a stream that was opened is told: the third of type 1, the second of type 3
  pub raise_numbers : numbers raises ≡ 0 ∷ 0 ∷ 0 ∷ 0 ∷ 0 ∷ 0 ∷ 9 ∷ 7 ∷ []
  -- 102, 103, 104, 105: "nothing changed"
  pub no_raise_answers : call_answers no_raises ≡ 102 ∷ 102 ∷ 102 ∷ 103 ∷ 103 ∷ 103 ∷ 104 ∷ 104 ∷ 104 ∷ 104 ∷ 104 ∷ 105 ∷ []
  pub no_raise_hosts : after_calls no_raises ≡ replicate 12 now
  -- "a call hands out the next number of a space, from 0; after 2^62-1 it is 103"; it ignores the closing mark
  pub handed_hosts : map (λ space. acted (handing (0 ∷ 4 ∷ (2 ^ 62 - 1) ∷ []) ByPeer) (HandOut space)) (Initial ∷ Handshake ∷ Application ∷ [])
      ≡ handing (1 ∷ 4 ∷ (2 ^ 62 - 1) ∷ []) ByPeer ∷ handing (0 ∷ 5 ∷ (2 ^ 62 - 1) ∷ []) ByPeer ∷ handing (0 ∷ 4 ∷ 2 ^ 62 ∷ []) ByPeer ∷ []
  pub handed_numbers : map (λ space. (handed_out_of (handing (0 ∷ 4 ∷ (2 ^ 62 - 1) ∷ []) ByPeer).conn space).number) (Initial ∷ Handshake ∷ Application ∷ []) ≡ 0 ∷ 4 ∷ (2 ^ 62 - 1) ∷ []
  pub handed_none : acted (handing (0 ∷ 4 ∷ 2 ^ 62 ∷ []) Open) (HandOut Application) ≡ handing (0 ∷ 4 ∷ 2 ^ 62 ∷ []) Open
  pub handed_answers : map (λ space. number_of (answered (handing (0 ∷ (2 ^ 62 - 1) ∷ 2 ^ 62 ∷ []) Open) (HandOut space))) (Initial ∷ Handshake ∷ Application ∷ []) ≡ 0 ∷ 0 ∷ 103 ∷ []
