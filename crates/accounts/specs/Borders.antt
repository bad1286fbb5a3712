-- The rules of streams, local calls and 120 at their borders, each from both sides: they hold the definitions to docs/RULES.md. Beside each, its sentence.
use Rattle.std.specs.Prelude.{ℕ, ◌-◌, ◌^◌, ◌≡◌, true, false, List, [], ◌∷◌, map, Some, None}
use Rattle.kinds.specs.declared.Role.TheVariants.{Server}
use Rattle.answers.specs.Answers.{number_of}
use Rattle.kinds.specs.declared.Kind.TheVariants.{Initial as Initial', Handshake as Handshake', ZeroRtt, OneRtt}
use Rattle.frames.specs.declared.Frame.TheVariants.{Ack, AckEcn, ResetStream, StopSending, Stream, MaxData, MaxStreamData, StreamDataBlocked, ConnectionClose, ApplicationClose}
use Rattle.streams.specs.declared.Conn.{Conn}
use Rattle.entries.specs.declared.Entry.{Entry}
use Rattle.streams.specs.declared.Limits.{Limits}
use Rattle.streams.specs.declared.Mark.{Mark}
use Rattle.streams.specs.declared.Mark.TheVariants.{Open, ByPeer}
use Rattle.kinds.specs.declared.Space.TheVariants.{Initial, Handshake, Application}
use Rattle.entries.specs.Entry.{fresh}
use Rattle.streams.specs.Conn.{opened_of, handed_out_of}
use Rattle.opening.specs.Opening.{opened_conn, opening_of}
use Rattle.rules.specs.declared.View.{View}
use Rattle.rules.specs.declared.View.TheVariants.{Ends, Blocks, ForSender, Acks, Closes, Nothing}
use Rattle.views.specs.View.{view_of}
use Rattle.verdicts.specs.Verdict.{verdict_of, conn_heard}
use Rattle.calls.specs.declared.Call.{Call}
use Rattle.calls.specs.declared.Call.TheVariants.{RaiseCredit, RaiseStream, RaiseCount, OpenNext}
use Rattle.replies.specs.Replies.{replied_of}
use Rattle.limits.specs.Fits.{entry_fits, conn_fits, summed_of, concluded_of}

-- the connection credit, the counts of the peer's two halves, the initial credits of the three that receive
abbrev pub limits : ℕ → ℕ → ℕ → ℕ → ℕ → ℕ → Limits
limits credit two_way one_way peers ours single = record { credit = credit; counts = two_way ∷ one_way ∷ []; initial = peers ∷ ours ∷ single ∷ [] }

-- a connection with counts 4 and 4, stream credits 16, connection credit 40, so many streams of each half open, a next number of the last space, and a mark
abbrev pub bench : ℕ → ℕ → ℕ → ℕ → ℕ → Mark → Conn
bench open0 open1 open2 open3 next mark = record { limits = limits 40 4 4 16 16 16; opened = open0 ∷ open1 ∷ open2 ∷ open3 ∷ []; total = 0; next = 0 ∷ 0 ∷ next ∷ []; mark = mark; role = Server }

-- a connection all of whose numbers differ, so that none can stand for another: counts 3 and 5, stream credits 16, 17 and 18, connection credit 40, next numbers 7, 8 and 9
abbrev pub held : ℕ → ℕ → ℕ → ℕ → ℕ → Mark → Conn
held open0 open1 open2 open3 total mark = record { limits = limits 40 3 5 16 17 18; opened = open0 ∷ open1 ∷ open2 ∷ open3 ∷ []; total = total; next = 7 ∷ 8 ∷ 9 ∷ []; mark = mark; role = Server }

-- one of them: of types 0 to 3, 1, 2, 3 and 4 streams are open, and the total is 20
abbrev pub before : Conn
before = held 1 2 3 4 20 Open

abbrev pub entry : ℕ → ℕ → ℕ → Entry
entry credit end size = record { credit = credit; end = end; size = size }

-- an entry whose final size is not known
abbrev pub growing : ℕ → ℕ → Entry
growing credit end = entry credit end (2 ^ 64 - 1)

-- the answers to some frames, each on the connection as it is and an entry with credit 16
abbrev pub heard : Conn → List View → List ℕ
heard c l = map (λ v. number_of (verdict_of c (fresh 16) v)) l

-- the answers to some local calls, on an entry
abbrev pub called : Conn → Entry → List Call → List ℕ
called c e l = map (λ k. number_of (replied_of c e k).called.answer) l

pub record Borders : Type 0 where
  -- which frame asks what: each that names a stream or acknowledges, the two that close, and one that asks nothing
  pub views : map (view_of Server ZeroRtt) (StopSending 8 1 ∷ MaxStreamData 8 1 ∷ StreamDataBlocked 8 1 ∷ ResetStream 8 1 5 ∷ Stream 8 2 true 0 3 ∷ ConnectionClose 1 0 0 0 ∷ ApplicationClose 1 0 0 ∷ MaxData 1 ∷ [])
      ≡ ForSender 8 ∷ ForSender 8 ∷ Blocks 8 ∷ Ends 8 5 true ∷ Ends 8 5 true ∷ Closes ∷ Closes ∷ Nothing ∷ []
  -- "Three spaces: Initial, Handshake, and one for 0-RTT with 1-RTT"
  pub spaces : map (λ kind. view_of Server kind (Ack 7 0 0 0 0)) (Initial' ∷ Handshake' ∷ ZeroRtt ∷ OneRtt ∷ []) ≡ Acks Initial 7 ∷ Acks Handshake 7 ∷ Acks Application 7 ∷ Acks Application 7 ∷ []
  pub spaces_ecn : map (λ kind. view_of Server kind (AckEcn 7 0 0 0 0 1 2 3)) (Initial' ∷ Handshake' ∷ ZeroRtt ∷ OneRtt ∷ []) ≡ Acks Initial 7 ∷ Acks Handshake 7 ∷ Acks Application 7 ∷ Acks Application 7 ∷ []
  -- "STREAM_DATA_BLOCKED: rules 1 and 2": types 0 and 2 by their counts; type 1 by what we opened; type 3 never
  pub blocked : heard (bench 0 1 0 1 0 Open) (Blocks 12 ∷ Blocks 16 ∷ Blocks 14 ∷ Blocks 18 ∷ Blocks 1 ∷ Blocks 5 ∷ Blocks 3 ∷ []) ≡ 0 ∷ 4 ∷ 0 ∷ 4 ∷ 0 ∷ 5 ∷ 5 ∷ []
  -- "STOP_SENDING and MAX_STREAM_DATA: type 2 is 5, type 1 or 3 not opened by us is 5, then rule 2 for type 0"
  pub sending : heard (bench 0 1 0 1 0 Open) (ForSender 12 ∷ ForSender 16 ∷ ForSender 2 ∷ ForSender 18 ∷ ForSender 1 ∷ ForSender 5 ∷ ForSender 3 ∷ ForSender 7 ∷ []) ≡ 0 ∷ 4 ∷ 5 ∷ 5 ∷ 0 ∷ 5 ∷ 0 ∷ 5 ∷ []
  -- "It opens all lower ordinals of the type"; "These open too"; and a lower stream closes none
  pub opens_ends : opened_of (conn_heard (bench 0 0 0 0 0 Open) (fresh 16) (Ends 12 0 false)) 0 ≡ 4
  pub opens_blocks : opened_of (conn_heard (bench 0 0 0 0 0 Open) (fresh 16) (Blocks 14)) 2 ≡ 4
  pub opens_sends : opened_of (conn_heard (bench 0 0 0 0 0 Open) (fresh 16) (ForSender 8)) 0 ≡ 3
  pub closes_none : opened_of (conn_heard (bench 4 0 0 0 0 Open) (fresh 16) (Ends 0 0 false)) 0 ≡ 4
  -- "An ACK of a number not yet handed out in its space is 10"
  pub acknowledged : heard (bench 0 0 0 0 1 Open) (Acks Application 0 ∷ Acks Application 1 ∷ Acks Initial 0 ∷ Acks Handshake 0 ∷ []) ≡ 0 ∷ 10 ∷ 10 ∷ 10 ∷ []
  -- 103 above the ceiling, 102 not above the present value: the connection credit ..
  pub credit : called (bench 0 0 0 0 0 Open) (fresh 16) (RaiseCredit 40 ∷ RaiseCredit 41 ∷ RaiseCredit (2 ^ 62 - 1) ∷ RaiseCredit (2 ^ 62) ∷ []) ≡ 102 ∷ 0 ∷ 0 ∷ 103 ∷ []
  -- .. "a count of type 0 or 2" ..
  pub count : called (bench 0 0 0 0 0 Open) (fresh 16) (RaiseCount 0 4 ∷ RaiseCount 0 5 ∷ RaiseCount 2 64 ∷ RaiseCount 2 65 ∷ RaiseCount 1 5 ∷ RaiseCount 3 5 ∷ []) ≡ 102 ∷ 0 ∷ 0 ∷ 103 ∷ 104 ∷ 104 ∷ []
  -- .. "a stream's credit": open streams with a receive half alone
  pub stream : called (bench 1 1 1 1 0 Open) (fresh 16) (RaiseStream 0 16 ∷ RaiseStream 0 17 ∷ RaiseStream 1 (2 ^ 62 - 1) ∷ RaiseStream 2 (2 ^ 62) ∷ RaiseStream 4 17 ∷ RaiseStream 3 17 ∷ []) ≡ 102 ∷ 0 ∷ 0 ∷ 103 ∷ 104 ∷ 104 ∷ []
  -- "Order: 101, 104, 105, 103, 102"
  pub known_size : called (bench 1 0 0 0 0 Open) (entry 16 5 5) (RaiseStream 0 17 ∷ RaiseStream 0 (2 ^ 62) ∷ RaiseStream 0 16 ∷ RaiseStream 4 16 ∷ []) ≡ 105 ∷ 105 ∷ 105 ∷ 104 ∷ []
  pub closed : called (bench 1 0 0 0 0 ByPeer) (entry 16 5 5) (RaiseStream 0 17 ∷ RaiseStream 4 17 ∷ RaiseCount 1 5 ∷ RaiseCredit (2 ^ 62) ∷ OpenNext 0 ∷ []) ≡ 101 ∷ 101 ∷ 101 ∷ 101 ∷ 101 ∷ []
  -- "open the next type 1 or 3 stream", 64 streams a type
  pub next : called (bench 0 63 0 64 0 Open) (fresh 16) (OpenNext 0 ∷ OpenNext 1 ∷ OpenNext 2 ∷ OpenNext 3 ∷ []) ≡ 104 ∷ 0 ∷ 104 ∷ 103 ∷ []
  -- "a call hands out the next number of a space, from 0; after 2^62-1 it is 103"
  pub last_number : map (λ space. number_of (handed_out_of (bench 0 0 0 0 (2 ^ 62 - 1) Open) space).answer) (Application ∷ Initial ∷ []) ≡ 0 ∷ 0 ∷ []
  pub no_number : number_of (handed_out_of (bench 0 0 0 0 (2 ^ 62) Open) Application).answer ≡ 103
  -- opening: "64 streams a type, credit 2^62-1"
  pub opened_most : (opening_of Server (limits (2 ^ 62 - 1) 64 64 (2 ^ 62 - 1) (2 ^ 62 - 1) (2 ^ 62 - 1))).conn ≡ opened_conn Server (limits (2 ^ 62 - 1) 64 64 (2 ^ 62 - 1) (2 ^ 62 - 1) (2 ^ 62 - 1)) Open
  pub opened_above : map (λ l. number_of (opening_of Server l).answer) (limits 0 64 64 0 0 0 ∷ limits (2 ^ 62) 64 64 0 0 0 ∷ limits 0 65 64 0 0 0 ∷ limits 0 64 65 0 0 0 ∷ limits 0 64 64 (2 ^ 62) 0 0 ∷ limits 0 64 64 0 (2 ^ 62) 0 ∷ limits 0 64 64 0 0 (2 ^ 62) ∷ []) ≡ 0 ∷ 103 ∷ 103 ∷ 103 ∷ 103 ∷ 103 ∷ 103 ∷ []
  -- 120: "an end is above its credit"
  pub end_fits : map (entry_fits (bench 1 0 0 0 0 Open) 0) (entry 16 16 (2 ^ 64 - 1) ∷ entry 16 17 (2 ^ 64 - 1) ∷ []) ≡ true ∷ false ∷ []
  -- "a known final size differs from the end"
  pub size_fits : map (entry_fits (bench 1 0 0 0 0 Open) 0) (entry 16 5 5 ∷ entry 16 5 4 ∷ entry 16 5 6 ∷ []) ≡ true ∷ false ∷ false ∷ []
  -- "an unopened entry is not as opening set it": entry 0 is open here, entry 1 is not
  pub unopened : map (entry_fits (bench 1 0 0 0 0 Open) 1) (fresh 16 ∷ fresh 17 ∷ entry 16 1 (2 ^ 64 - 1) ∷ entry 16 0 0 ∷ []) ≡ true ∷ false ∷ false ∷ false ∷ []
  -- "a limit is above its ceiling"
  pub limit_fits : map (entry_fits (bench 1 0 0 0 0 Open) 0) (fresh (2 ^ 62 - 1) ∷ fresh (2 ^ 62) ∷ []) ≡ true ∷ false ∷ []
  -- "more is open than the count allows"
  pub open_fits : map conn_fits (bench 4 64 4 64 0 Open ∷ bench 5 0 0 0 0 Open ∷ bench 0 65 0 0 0 Open ∷ bench 0 0 5 0 0 Open ∷ bench 0 0 0 65 0 Open ∷ []) ≡ true ∷ false ∷ false ∷ false ∷ false ∷ []
  -- "the total .. is above the connection credit": the running sum stops there
  pub sum_fits : map (summed_of 40 1 16 0 (entry 16 16 (2 ^ 64 - 1))) (Some 24 ∷ Some 25 ∷ None ∷ []) ≡ Some 40 ∷ None ∷ None ∷ []
  -- "the total is not the sum of the ends"
  pub total_fits : map (concluded_of (bench 1 0 0 0 0 Open)) (Some 0 ∷ Some 1 ∷ None ∷ []) ≡ true ∷ false ∷ false ∷ []
