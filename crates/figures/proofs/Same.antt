-- A frame that is taken apart (`parts_of`) and put together again is itself, places and all, so that no field is lost or exchanged on the way: case by case, and a STREAM by its four types.
-- Assumes nothing.
use mathlib.Core.Path.{◌≡◌, refl}
use mathlib.Core.Bool.{Bool, true, false}
use Prim.Native.Nat.{ℕ}
use lib.Dec.{ltb}
use Rattle.answers.proofs.Said.{one_value}
use Rattle.frames.specs.Fields.{frame_of}
use Rattle.frames.specs.declared.Frame.{Frame}
use Rattle.frames.specs.declared.Frame.TheVariants.{Padding, Ping, Ack, AckEcn, ResetStream, StopSending, Crypto, NewToken, Stream, MaxData, MaxStreamData, MaxStreams, DataBlocked, StreamDataBlocked, StreamsBlocked, NewConnectionId, RetireConnectionId, PathChallenge, PathResponse, ConnectionClose, ApplicationClose, HandshakeDone}
use Rattle.contents.specs.Parts.{stream_type, way_type, parts_of}

stream : (id offset : ℕ) (fin : Bool) (at len : ℕ) (b : Bool) → ltb 0 offset ≡ b → frame_of (parts_of (Stream id offset fin at len)) ≡ Stream id offset fin at len
unfolding frame_of stream_type
stream id offset true at len true e = rw e refl
stream id offset false at len true e = rw e refl
stream id offset true at len false e = rw e refl
stream id offset false at len false e = rw e refl

pub same : (f : Frame) → frame_of (parts_of f) ≡ f
unfolding frame_of way_type
same Padding = refl
same Ping = refl
same (Ack a b c d at) = refl
same (AckEcn a b c d at x y z) = refl
same (ResetStream a b c) = refl
same (StopSending a b) = refl
same (Crypto a at len) = refl
same (NewToken at len) = refl
same (Stream id offset fin at len) = stream id offset fin at len (ltb 0 offset) refl
same (MaxData a) = refl
same (MaxStreamData a b) = refl
same (MaxStreams false a) = refl
same (MaxStreams true a) = refl
same (DataBlocked a) = refl
same (StreamDataBlocked a b) = refl
same (StreamsBlocked false a) = refl
same (StreamsBlocked true a) = refl
same (NewConnectionId a b at len token) = refl
same (RetireConnectionId a) = refl
same (PathChallenge at) = refl
same (PathResponse at) = refl
same (ConnectionClose a b at len) = refl
same (ApplicationClose a at len) = refl
same HandshakeDone = refl

-- so that two frames with the same parts are one
pub one_frame : (f g : Frame) → parts_of f ≡ parts_of g → f ≡ g
one_frame = one_value parts_of frame_of same
