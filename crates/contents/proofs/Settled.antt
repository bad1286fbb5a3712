-- A frame's parts are those that its layout has, and moving its bytes elsewhere is all that reading them again can change: a line for each frame.
-- Assumes nothing.
use mathlib.Core.Path.{◌≡◌, refl}
use mathlib.Core.Bool.{Bool, true, false}
use Prim.Native.Nat.{ℕ}
use native.Mathlib.Omega.{arith}
use borrow.Author.Tests.{ltb-false}
use lib.Dec.{ltb}
use Rattle.layouts.specs.Layout.{layouts, layout_of, known}
use Rattle.frames.specs.Fields.{frame_of}
use Rattle.fields.specs.declared.Parts.{Parts}
use Rattle.frames.specs.declared.Frame.{Frame}
use Rattle.frames.specs.declared.Frame.TheVariants.{Padding, Ping, Ack, AckEcn, ResetStream, StopSending, Crypto, NewToken, Stream, MaxData, MaxStreamData, MaxStreams, DataBlocked, StreamDataBlocked, StreamsBlocked, NewConnectionId, RetireConnectionId, PathChallenge, PathResponse, ConnectionClose, ApplicationClose, HandshakeDone}
use Rattle.contents.specs.Parts.{stream_type, way_type, holding_parts, parts_of}
use Rattle.contents.specs.Again.{again, moved, ended}

-- the parts that a reader finds are the same but for the places of bytes; the bytes are never left to end with the packet; put together and taken apart again they are the same; and the type is one of section 19
abbrev pub Settled : Parts → Type 0
Settled p =
    ((at token : ℕ) → again p at token ≡ moved p at token)
    × (ended (layout_of p.ty).tail ≡ true)
    × ((at token : ℕ) → parts_of (frame_of (moved p at token)) ≡ moved p at token)
    × (known p.ty ≡ true)

-- with an offset of 0 there is no OFF, and the number that is not there reads as 0
stream : (id offset : ℕ) (fin : Bool) (at len : ℕ) (b : Bool) → ltb 0 offset ≡ b → Settled (holding_parts (stream_type offset fin) id offset at len)
unfolding layouts layout_of known frame_of stream_type
stream id offset false at len true e = rw e (λ at token. refl, refl, λ at token. rw e, refl)
stream id offset true at len true e = rw e (λ at token. refl, refl, λ at token. rw e, refl)
stream id offset false at len false e = let z : offset ≡ 0 = omega (arith, ltb-false 0 offset e) in rw z (λ at token. refl, refl, λ at token. refl, refl)
stream id offset true at len false e = let z : offset ≡ 0 = omega (arith, ltb-false 0 offset e) in rw z (λ at token. refl, refl, λ at token. refl, refl)

pub settled : (f : Frame) → Settled (parts_of f)
unfolding layouts layout_of known frame_of way_type
settled Padding = (λ at token. refl, refl, λ at token. refl, refl)
settled Ping = (λ at token. refl, refl, λ at token. refl, refl)
settled (Ack a b c d at) = (λ at token. refl, refl, λ at token. refl, refl)
settled (AckEcn a b c d at x y z) = (λ at token. refl, refl, λ at token. refl, refl)
settled (ResetStream a b c) = (λ at token. refl, refl, λ at token. refl, refl)
settled (StopSending a b) = (λ at token. refl, refl, λ at token. refl, refl)
settled (Crypto a at len) = (λ at token. refl, refl, λ at token. refl, refl)
settled (NewToken at len) = (λ at token. refl, refl, λ at token. refl, refl)
settled (Stream id offset fin at len) = stream id offset fin at len (ltb 0 offset) refl
settled (MaxData a) = (λ at token. refl, refl, λ at token. refl, refl)
settled (MaxStreamData a b) = (λ at token. refl, refl, λ at token. refl, refl)
settled (MaxStreams false a) = (λ at token. refl, refl, λ at token. refl, refl)
settled (MaxStreams true a) = (λ at token. refl, refl, λ at token. refl, refl)
settled (DataBlocked a) = (λ at token. refl, refl, λ at token. refl, refl)
settled (StreamDataBlocked a b) = (λ at token. refl, refl, λ at token. refl, refl)
settled (StreamsBlocked false a) = (λ at token. refl, refl, λ at token. refl, refl)
settled (StreamsBlocked true a) = (λ at token. refl, refl, λ at token. refl, refl)
settled (NewConnectionId a b at len token) = (λ at token. refl, refl, λ at token. refl, refl)
settled (RetireConnectionId a) = (λ at token. refl, refl, λ at token. refl, refl)
settled (PathChallenge at) = (λ at token. refl, refl, λ at token. refl, refl)
settled (PathResponse at) = (λ at token. refl, refl, λ at token. refl, refl)
settled (ConnectionClose a b at len) = (λ at token. refl, refl, λ at token. refl, refl)
settled (ApplicationClose a at len) = (λ at token. refl, refl, λ at token. refl, refl)
settled HandshakeDone = (λ at token. refl, refl, λ at token. refl, refl)
