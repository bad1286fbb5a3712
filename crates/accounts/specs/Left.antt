-- What each frame leaves, whole: the answer, the connection in all its parts and the entry, on a connection all of whose numbers differ. docs/RULES.md, "Streams and credit": "Acceptance sets furthest end, total and, where given, final size. It opens all lower ordinals of the type", and "it changes nothing itself, the connection closes with its code and type".
use Rattle.std.specs.Prelude.{ℕ, ◌≡◌, true, false}
use Rattle.kinds.specs.declared.Role.TheVariants.{Server}
use Rattle.answers.specs.declared.Answer.{Answer}
use Rattle.answers.specs.declared.Answer.TheVariants.{Accepted, FlowControl, StreamLimit, StreamState, FinalSize, ProtocolViolation}
use Rattle.kinds.specs.declared.Kind.TheVariants.{OneRtt}
use Rattle.frames.specs.declared.Frame.TheVariants.{ResetStream, Stream}
use Rattle.streams.specs.declared.Conn.{Conn}
use Rattle.streams.specs.declared.Mark.TheVariants.{Open, Code, ByPeer}
use Rattle.kinds.specs.declared.Space.TheVariants.{Initial, Handshake, Application}
use Rattle.entries.specs.declared.Entry.{Entry}
use Rattle.rules.specs.declared.View.{View}
use Rattle.rules.specs.declared.View.TheVariants.{Ends, Blocks, ForSender, Acks, Closes, Nothing}
use Rattle.views.specs.View.{view_of}
use Rattle.verdicts.specs.declared.Judged.{Judged}
use Rattle.verdicts.specs.Verdict.{conn_heard, entry_heard, judged_of}
use Rattle.accounts.specs.Borders.{held, before, entry, growing}

-- a frame of type 10 on the connection before, and an entry with credit 16 and furthest end 6
abbrev pub judged : View → Judged
judged v = judged_of before (growing 16 6) 10 v

-- the same where the final size 6 is known
abbrev pub judged_ended : View → Judged
judged_ended v = judged_of before (entry 16 6 6) 10 v

abbrev pub accepted : Conn → Entry → Judged
accepted c e = record { answer = Accepted; conn = c; entry = e }

-- refused: of the connection the mark alone has changed, to the code and the type of the frame
abbrev pub refused : Answer → ℕ → Entry → Judged
refused answer ty e = record { answer = answer; conn = held 1 2 3 4 20 (Code answer ty); entry = e }

pub record Left : Type 0 where
  -- STREAM with growth, on the lowest stream, on one that it opens with all lower ones, on the last of its type ..
  pub grows : judged (Ends 0 10 false) ≡ accepted (held 1 2 3 4 24 Open) (growing 16 10)
  pub grows_opening : judged (Ends 8 10 false) ≡ accepted (held 3 2 3 4 24 Open) (growing 16 10)
  pub grows_ours : judged (Ends 5 7 false) ≡ accepted (held 1 2 3 4 21 Open) (growing 16 7)
  pub grows_one_way : judged (Ends 18 16 false) ≡ accepted (held 1 2 5 4 30 Open) (growing 16 16)
  -- .. and on a lower one than is open: none is closed
  pub grows_below : judged (Ends 2 8 false) ≡ accepted (held 1 2 3 4 22 Open) (growing 16 8)
  -- an end at the furthest one or below it leaves entry and total, and opens
  pub at_furthest : judged (Ends 0 6 false) ≡ accepted before (growing 16 6)
  pub below_furthest : judged (Ends 4 5 false) ≡ accepted (held 2 2 3 4 20 Open) (growing 16 6)
  pub at_zero : judged (Ends 0 0 false) ≡ accepted before (growing 16 6)
  -- "and, where given, final size": FIN with growth and without
  pub final : judged (Ends 0 9 true) ≡ accepted (held 1 2 3 4 23 Open) (entry 16 9 9)
  pub final_at_furthest : judged (Ends 0 6 true) ≡ accepted before (entry 16 6 6)
  -- it stays known, with FIN again or an end below it
  pub final_again : judged_ended (Ends 0 6 true) ≡ accepted before (entry 16 6 6)
  pub below_final : judged_ended (Ends 0 3 false) ≡ accepted before (entry 16 6 6)
  -- the frames themselves: STREAM by offset plus length, RESET_STREAM by its final size
  pub stream : judged (view_of Server OneRtt (Stream 4 5 false 2 3)) ≡ accepted (held 2 2 3 4 22 Open) (growing 16 8)
  pub stream_final : judged (view_of Server OneRtt (Stream 4 5 true 2 3)) ≡ accepted (held 2 2 3 4 22 Open) (entry 16 8 8)
  pub reset : judged (view_of Server OneRtt (ResetStream 4 99 9)) ≡ accepted (held 2 2 3 4 23 Open) (entry 16 9 9)
  pub reset_again : judged_ended (view_of Server OneRtt (ResetStream 0 98 6)) ≡ accepted before (entry 16 6 6)
  -- STREAM_DATA_BLOCKED, STOP_SENDING and MAX_STREAM_DATA: "These open too", and leave entry and total
  pub blocks : judged (Blocks 8) ≡ accepted (held 3 2 3 4 20 Open) (growing 16 6)
  pub blocks_one_way : judged (Blocks 18) ≡ accepted (held 1 2 5 4 20 Open) (growing 16 6)
  pub blocks_ours : judged (Blocks 1) ≡ accepted before (growing 16 6)
  pub sends : judged (ForSender 4) ≡ accepted (held 2 2 3 4 20 Open) (growing 16 6)
  pub sends_ours : judged (ForSender 5) ≡ accepted before (growing 16 6)
  pub sends_ours_alone : judged (ForSender 3) ≡ accepted before (growing 16 6)
  -- an acknowledgement leaves all
  pub acknowledges : judged (Acks Initial 6) ≡ accepted before (growing 16 6)
  pub acknowledges_handshake : judged (Acks Handshake 7) ≡ accepted before (growing 16 6)
  pub acknowledges_data : judged (Acks Application 8) ≡ accepted before (growing 16 6)
  -- "CONNECTION_CLOSE is accepted, [..] and closes "by peer""
  pub closes : judged Closes ≡ accepted (held 1 2 3 4 20 ByPeer) (growing 16 6)
  -- all others ask nothing
  pub asks_nothing : judged Nothing ≡ accepted before (growing 16 6)
  -- what is left when accepted, asked without the answer
  pub conn_heard_law : conn_heard before (growing 16 6) (Ends 8 10 true) ≡ held 3 2 3 4 24 Open
  pub entry_heard_law : entry_heard (growing 16 6) (Ends 8 10 true) ≡ entry 16 10 10
  -- .. whatever the mark
  pub conn_heard_closed : conn_heard (held 1 2 3 4 20 ByPeer) (growing 16 6) (Ends 8 10 true) ≡ held 3 2 3 4 24 ByPeer
  -- refused by each rule: "closed with code and type"; nothing is opened, counted or set
  pub refused_state : judged_of before (growing 16 6) 8 (Ends 3 10 true) ≡ refused StreamState 8 (growing 16 6)
  pub refused_limit : judged_of before (growing 16 6) 9 (Ends 12 10 true) ≡ refused StreamLimit 9 (growing 16 6)
  pub refused_size : judged_of before (growing 16 6) 15 (Ends 8 5 true) ≡ refused FinalSize 15 (growing 16 6)
  pub refused_size_known : judged_of before (entry 16 6 6) 14 (Ends 8 7 false) ≡ refused FinalSize 14 (entry 16 6 6)
  pub refused_credit : judged_of before (growing 16 6) 10 (Ends 8 17 false) ≡ refused FlowControl 10 (growing 16 6)
  pub refused_total : judged_of before (growing 30 6) 10 (Ends 8 27 false) ≡ refused FlowControl 10 (growing 30 6)
  pub refused_reset : judged_of before (growing 16 6) 4 (view_of Server OneRtt (ResetStream 8 1 17)) ≡ refused FlowControl 4 (growing 16 6)
  pub refused_blocked : judged_of before (growing 16 6) 21 (Blocks 12) ≡ refused StreamLimit 21 (growing 16 6)
  pub refused_blocked_ours : judged_of before (growing 16 6) 21 (Blocks 7) ≡ refused StreamState 21 (growing 16 6)
  pub refused_sends : judged_of before (growing 16 6) 5 (ForSender 2) ≡ refused StreamState 5 (growing 16 6)
  pub refused_sends_limit : judged_of before (growing 16 6) 17 (ForSender 12) ≡ refused StreamLimit 17 (growing 16 6)
  pub refused_acknowledges : judged_of before (growing 16 6) 2 (Acks Application 9) ≡ refused ProtocolViolation 2 (growing 16 6)
  pub refused_acknowledges_counts : judged_of before (growing 16 6) 3 (Acks Initial 7) ≡ refused ProtocolViolation 3 (growing 16 6)
