-- A frame of a known type: its fields put together, and 7 where they cannot be read or have a fault.
use Rattle.std.specs.Prelude.{ℕ, ◌/◌, ◌%◌, true, false, List, eqb, Result, Ok, Err}
use Rattle.answers.specs.Choice.{◌⇒◌∣◌}
use Rattle.answers.specs.declared.Answer.{Answer}
use Rattle.answers.specs.declared.Answer.TheVariants.{FrameEncoding}
use Rattle.fields.specs.Heads.{refusal}
use Rattle.fields.specs.Parts.{parts_at, with_fields}
use Rattle.fields.specs.declared.Parts.{Parts}
use Rattle.frames.specs.declared.Frame.{Frame}
use Rattle.frames.specs.declared.Frame.TheVariants.{Padding, Ping, Ack, AckEcn, ResetStream, StopSending, Crypto, NewToken, Stream, MaxData, MaxStreamData, MaxStreams, DataBlocked, StreamDataBlocked, StreamsBlocked, NewConnectionId, RetireConnectionId, PathChallenge, PathResponse, ConnectionClose, ApplicationClose, HandshakeDone}
use Rattle.frames.specs.declared.Reading.{Reading}
use Rattle.fields.specs.declared.Refusal.{Refusal}

-- a frame that was read, its type and the place after it; or why there is none
abbrev pub read_as : Frame → ℕ → ℕ → Result Reading Refusal
read_as frame ty next = Ok (record { frame = frame; ty = ty; next = next })

abbrev pub refused_as : Answer → ℕ → Result Reading Refusal
refused_as answer ty = Err (refusal answer ty)

-- the frame of a type, with the names that its figure gives to the numbers
unfoldable pub frame_of : Parts → Frame
frame_of p =
    eqb (p.ty / 8) 1 ⇒ Stream p.a p.b (eqb (p.ty % 2) 1) p.at p.len
    ∣ eqb p.ty 0x00 ⇒ Padding
    ∣ eqb p.ty 0x01 ⇒ Ping
    ∣ eqb p.ty 0x02 ⇒ Ack p.a p.b p.c p.d p.at
    ∣ eqb p.ty 0x03 ⇒ AckEcn p.a p.b p.c p.d p.at p.x p.y p.z
    ∣ eqb p.ty 0x04 ⇒ ResetStream p.a p.b p.c
    ∣ eqb p.ty 0x05 ⇒ StopSending p.a p.b
    ∣ eqb p.ty 0x06 ⇒ Crypto p.a p.at p.len
    ∣ eqb p.ty 0x07 ⇒ NewToken p.at p.len
    ∣ eqb p.ty 0x10 ⇒ MaxData p.a
    ∣ eqb p.ty 0x11 ⇒ MaxStreamData p.a p.b
    ∣ eqb p.ty 0x12 ⇒ MaxStreams false p.a
    ∣ eqb p.ty 0x13 ⇒ MaxStreams true p.a
    ∣ eqb p.ty 0x14 ⇒ DataBlocked p.a
    ∣ eqb p.ty 0x15 ⇒ StreamDataBlocked p.a p.b
    ∣ eqb p.ty 0x16 ⇒ StreamsBlocked false p.a
    ∣ eqb p.ty 0x17 ⇒ StreamsBlocked true p.a
    ∣ eqb p.ty 0x18 ⇒ NewConnectionId p.a p.b p.at p.len p.token
    ∣ eqb p.ty 0x19 ⇒ RetireConnectionId p.a
    ∣ eqb p.ty 0x1a ⇒ PathChallenge p.at
    ∣ eqb p.ty 0x1b ⇒ PathResponse p.at
    ∣ eqb p.ty 0x1c ⇒ ConnectionClose p.a p.b p.at p.len
    ∣ eqb p.ty 0x1d ⇒ ApplicationClose p.a p.at p.len
    ∣ HandshakeDone

-- the fields at a place, put together
unfoldable pub fields_at : List ℕ → ℕ → ℕ → Result Reading Refusal
fields_at s at ty = with_fields (parts_at s at ty) (refused_as FrameEncoding ty) (λ p next. read_as (frame_of p) ty next)
