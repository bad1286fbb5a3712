-- docs/RULES.md, "For a frame": "A call for one frame (120, 101, then as above) also hands the frame as read to the caller": what is shown, with the answer and the connection after it. The frame wherever its fields could be read, also if a rule then refused it; else its type where it could be read; else nothing.
use Rattle.std.specs.Prelude.{ℕ, ◌-◌, ◌^◌, ◌≡◌, false, List, [], ◌∷◌, map, replicate}
use Rattle.answers.specs.declared.Answer.{Answer}
use Rattle.answers.specs.declared.Answer.TheVariants.{Accepted, FlowControl, StreamLimit, StreamState, FinalSize, FrameEncoding, ProtocolViolation, Closed, DoesNotFit}
use Rattle.kinds.specs.declared.Kind.{Kind}
use Rattle.kinds.specs.declared.Kind.TheVariants.{Initial, Handshake, ZeroRtt, OneRtt}
use Rattle.frames.specs.declared.Frame.TheVariants.{Padding, Ping, Ack, ResetStream, StopSending, Stream, NewConnectionId, RetireConnectionId, ConnectionClose}
use Rattle.streams.specs.declared.Mark.TheVariants.{Open, Code, ByPeer}
use Rattle.steps.specs.declared.Shown.{Shown}
use Rattle.steps.specs.declared.Shown.TheVariants.{Nothing, Typed, Whole}
use Rattle.steps.specs.declared.TookFrame.{TookFrame}
use Rattle.single.specs.Single.{took_frame_of}
use Rattle.accounts.specs.History.{State}
use Rattle.demands.specs.Hosts.{acted}
use Rattle.demands.specs.Hosts.Act.{TakeFrame}
use Rattle.hosts.specs.Order.{marked, live, unfit}
use Rattle.hosts.specs.Stops.{three, heard, identity}

-- the frame at a place of some bytes of a packet of this kind
abbrev pub took : State → List ℕ → ℕ → Kind → TookFrame
took h s at kind = took_frame_of h.conn h.table s at kind

-- one 1-RTT frame on the open host
abbrev pub alone : List ℕ → TookFrame
alone s = took live s 0 OneRtt

abbrev pub told : Answer → Shown → State → TookFrame
told answer shown host = record { answer = answer; shown = shown; conn = host.conn }

-- refused: the connection closes with the code and this type
abbrev pub refused_with : Answer → ℕ → Shown → TookFrame
refused_with answer ty shown = told answer shown (marked (Code answer ty))

pub record Showing : Type 0 where
  -- accepted: the frame, its type, and the place after it
  pub stream : alone three ≡ told Accepted (Whole (Stream 4 0 false 3 3) 0x0a 6) (heard Open)
  pub stream_left : acted live (TakeFrame three 0 OneRtt) ≡ heard Open
  pub inside : map (λ (at : ℕ). took live (0x1f ∷ 0x00 ∷ 0x01 ∷ 0x40 ∷ []) at Initial) (1 ∷ 2 ∷ []) ≡ told Accepted (Whole Padding 0x00 2) live ∷ told Accepted (Whole Ping 0x01 3) live ∷ []
  pub close : alone (0x1c ∷ 3 ∷ 0x1f ∷ 0 ∷ 0x40 ∷ []) ≡ told Accepted (Whole (ConnectionClose 3 0x1f 4 0) 0x1c 4) (marked ByPeer)
  pub ack : map (λ (kind : Kind). took live (0x02 ∷ 0 ∷ 7 ∷ 0 ∷ 0 ∷ []) 0 kind) (Initial ∷ Handshake ∷ OneRtt ∷ []) ≡ replicate 3 (told Accepted (Whole (Ack 0 7 0 0 5) 0x02 5) live)
  pub retire : alone (0x19 ∷ 5 ∷ []) ≡ told Accepted (Whole (RetireConnectionId 5) 0x19 2) live
  pub identity_early : took live identity 0 ZeroRtt ≡ told Accepted (Whole (NewConnectionId 3 0 4 1 5) 0x18 21) live
  -- refused by a state rule: rules 4, 2, 1 and 3, and an ACK of a number not yet handed out
  pub credit : alone (0x0e ∷ 4 ∷ 15 ∷ 2 ∷ 0x61 ∷ 0x61 ∷ []) ≡ refused_with FlowControl 0x0e (Whole (Stream 4 15 false 4 2) 0x0e 6)
  pub count : alone (0x0a ∷ 16 ∷ 0 ∷ []) ≡ refused_with StreamLimit 0x0a (Whole (Stream 16 0 false 3 0) 0x0a 3)
  pub state : alone (0x05 ∷ 2 ∷ 9 ∷ []) ≡ refused_with StreamState 0x05 (Whole (StopSending 2 9) 0x05 3)
  pub size : alone (0x04 ∷ 0 ∷ 9 ∷ 4 ∷ []) ≡ refused_with FinalSize 0x04 (Whole (ResetStream 0 9 4) 0x04 4)
  pub not_handed_out : alone (0x02 ∷ 1 ∷ 7 ∷ 0 ∷ 0 ∷ []) ≡ refused_with ProtocolViolation 0x02 (Whole (Ack 1 7 0 0 5) 0x02 5)
  -- "type readable (7), shortest (10), known (7), admitted in this packet kind and role (10), fields (7)": the type alone
  pub field : alone (0x0a ∷ 4 ∷ 2 ∷ 0x61 ∷ []) ≡ refused_with FrameEncoding 0x0a (Typed 0x0a)
  pub padded : alone (0x40 ∷ 0x21 ∷ []) ≡ refused_with ProtocolViolation 0x21 (Typed 0x21)
  pub unknown : map alone ((0x1f ∷ []) ∷ (0x40 ∷ 0x40 ∷ []) ∷ []) ≡ refused_with FrameEncoding 0x1f (Typed 0x1f) ∷ refused_with FrameEncoding 0x40 (Typed 0x40) ∷ []
  pub not_admitted : map (λ (s : List ℕ). took live s 0 ZeroRtt) ((0x1e ∷ []) ∷ (0x07 ∷ []) ∷ (0x02 ∷ []) ∷ []) ≡ refused_with ProtocolViolation 0x1e (Typed 0x1e) ∷ refused_with ProtocolViolation 0x07 (Typed 0x07) ∷ refused_with ProtocolViolation 0x02 (Typed 0x02) ∷ []
  pub retire_early : map (λ (s : List ℕ). took live s 0 ZeroRtt) ((0x19 ∷ 5 ∷ []) ∷ (0x19 ∷ 0x41 ∷ []) ∷ (0x19 ∷ []) ∷ []) ≡ replicate 3 (refused_with ProtocolViolation 0x19 (Typed 0x19))
  -- nothing: a type that cannot be read, and a place outside of the bytes
  pub unreadable : map alone ((0x40 ∷ []) ∷ (0xff ∷ replicate 6 0) ∷ [] ∷ []) ≡ replicate 3 (refused_with FrameEncoding 0 Nothing)
  pub outside : map (λ (at : ℕ). took live (0x01 ∷ []) at OneRtt) (1 ∷ 2 ∷ (2 ^ 64 - 1) ∷ []) ≡ replicate 3 (refused_with FrameEncoding 0 Nothing)
  -- .. a closed connection, and one that does not fit
  pub closed : took (marked ByPeer) three 0 OneRtt ≡ told Closed Nothing (marked ByPeer)
  pub does_not_fit : map (λ (h : State). took h three 0 OneRtt) (unfit Open ∷ unfit ByPeer ∷ []) ≡ told DoesNotFit Nothing (unfit Open) ∷ told DoesNotFit Nothing (unfit ByPeer) ∷ []
