-- A frame taken apart, the inverse of `frame_of`: the type under which it is written, and its numbers and places where its layout has them.
use Rattle.std.specs.Prelude.{ℕ, Bool, ltb}
use Rattle.answers.specs.Choice.{◌⇒◌∣◌}
use Rattle.fields.specs.declared.Parts.{Parts}
use Rattle.frames.specs.declared.Frame.{Frame}
use Rattle.frames.specs.declared.Frame.TheVariants.{Padding, Ping, Ack, AckEcn, ResetStream, StopSending, Crypto, NewToken, Stream, MaxData, MaxStreamData, MaxStreams, DataBlocked, StreamDataBlocked, StreamsBlocked, NewConnectionId, RetireConnectionId, PathChallenge, PathResponse, ConnectionClose, ApplicationClose, HandshakeDone}

-- STREAM is written with LEN (0x02) set, OFF (0x04) exactly when the offset is not 0, and FIN (0x01) as the frame says
unfoldable pub stream_type : ℕ → Bool → ℕ
stream_type offset fin =
    ltb 0 offset ⇒ (fin ⇒ 0x0f ∣ 0x0e)
    ∣ (fin ⇒ 0x0b ∣ 0x0a)

-- of two types the one for one-way streams, or the one for two-way streams
unfoldable pub way_type : Bool → ℕ → ℕ → ℕ
way_type uni one two = uni ⇒ one ∣ two

-- of numbers alone
abbrev pub plain_parts : ℕ → ℕ → ℕ → ℕ → Parts
plain_parts ty a b c = record { ty = ty; a = a; b = b; c = c; d = 0; at = 0; len = 0; token = 0; x = 0; y = 0; z = 0 }

-- of at most two numbers and bytes
abbrev pub holding_parts : ℕ → ℕ → ℕ → ℕ → ℕ → Parts
holding_parts ty a b at len = record { ty = ty; a = a; b = b; c = 0; d = 0; at = at; len = len; token = 0; x = 0; y = 0; z = 0 }

abbrev pub parts_of : Frame → Parts
parts_of Padding = plain_parts 0x00 0 0 0
parts_of Ping = plain_parts 0x01 0 0 0
parts_of (Ack largest delay count first at) = record { ty = 0x02; a = largest; b = delay; c = count; d = first; at = at; len = 0; token = 0; x = 0; y = 0; z = 0 }
parts_of (AckEcn largest delay count first at ect0 ect1 ce) = record { ty = 0x03; a = largest; b = delay; c = count; d = first; at = at; len = 0; token = 0; x = ect0; y = ect1; z = ce }
parts_of (ResetStream id code size) = plain_parts 0x04 id code size
parts_of (StopSending id code) = plain_parts 0x05 id code 0
parts_of (Crypto offset at len) = holding_parts 0x06 offset 0 at len
parts_of (NewToken at len) = holding_parts 0x07 0 0 at len
parts_of (Stream id offset fin at len) = holding_parts (stream_type offset fin) id offset at len
parts_of (MaxData maximum) = plain_parts 0x10 maximum 0 0
parts_of (MaxStreamData id maximum) = plain_parts 0x11 id maximum 0
parts_of (MaxStreams uni maximum) = plain_parts (way_type uni 0x13 0x12) maximum 0 0
parts_of (DataBlocked maximum) = plain_parts 0x14 maximum 0 0
parts_of (StreamDataBlocked id maximum) = plain_parts 0x15 id maximum 0
parts_of (StreamsBlocked uni maximum) = plain_parts (way_type uni 0x17 0x16) maximum 0 0
parts_of (NewConnectionId sequence retire at len token) = record { ty = 0x18; a = sequence; b = retire; c = 0; d = 0; at = at; len = len; token = token; x = 0; y = 0; z = 0 }
parts_of (RetireConnectionId sequence) = plain_parts 0x19 sequence 0 0
parts_of (PathChallenge at) = holding_parts 0x1a 0 0 at 8
parts_of (PathResponse at) = holding_parts 0x1b 0 0 at 8
parts_of (ConnectionClose code ty at len) = holding_parts 0x1c code ty at len
parts_of (ApplicationClose code at len) = holding_parts 0x1d code 0 at len
parts_of HandshakeDone = plain_parts 0x1e 0 0 0
