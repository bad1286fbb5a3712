-- The figures of RFC 9000, section 19, one frame of each type from its bytes: every field with a value of its own, some in two bytes, and the place after the frame. They hold the table of layouts and the names of the fields to the standard.
use Rattle.std.specs.Prelude.{ℕ, ◌≡◌, true, false, List, [], ◌∷◌, ◌++◌, map, replicate, Some, None, Result}
use Rattle.layouts.specs.Layout.{layout, layout_of}
use Rattle.layouts.specs.Body.{body_at}
use Rattle.layouts.specs.declared.Tail.TheVariants as Tail'
use Rattle.fields.specs.Parts.{parts_at}
use Rattle.fields.specs.declared.Parts.{Parts}
use Rattle.ranges.specs.declared.Walk.{Walk}
use Rattle.ranges.specs.Walk.{first_of, step_of, goes_on}
use Rattle.frames.specs.declared.Frame.TheVariants.{Padding, Ping, Ack, AckEcn, ResetStream, StopSending, Crypto, NewToken, Stream, MaxData, MaxStreamData, MaxStreams, DataBlocked, StreamDataBlocked, StreamsBlocked, NewConnectionId, RetireConnectionId, PathChallenge, PathResponse, ConnectionClose, ApplicationClose, HandshakeDone}
use Rattle.frames.specs.declared.Reading.{Reading}
use Rattle.frames.specs.Reading.{any_frame_at}
use Rattle.frames.specs.Fields.{read_as}
use Rattle.fields.specs.declared.Refusal.{Refusal}

-- a frame at the beginning, whatever packet carries it
abbrev pub read : List ℕ → Result Reading Refusal
read s = any_frame_at s 0

-- an ACK of two ranges beside its first
abbrev pub acknowledged : List ℕ
acknowledged = 0x02 ∷ 0x41 ∷ 0x2c ∷ 5 ∷ 2 ∷ 4 ∷ 1 ∷ 3 ∷ 0 ∷ 0x40 ∷ 0x41 ∷ 0x99 ∷ []

-- a walk down its ranges: the smallest number so far, the place of the next range, and how many are left
abbrev pub walk : ℕ → ℕ → ℕ → Walk
walk low at left = record { low = low; at = at; left = left }

-- the parts of a frame: its type, four numbers, the place and length of its bytes, the place of its token, three numbers after them
abbrev pub parts : ℕ → ℕ → ℕ → ℕ → ℕ → ℕ → ℕ → ℕ → ℕ → ℕ → ℕ → Parts
parts ty a b c d at len token x y z = record { ty = ty; a = a; b = b; c = c; d = d; at = at; len = len; token = token; x = x; y = y; z = z }

-- 41 2c reads 300, 40 41 reads 65; 99 is a byte after the frame
pub record Figures : Type 0 where
  -- 19.1 and 19.2
  pub padding : read (0x00 ∷ 0x99 ∷ []) ≡ read_as Padding 0x00 1
  pub ping : read (0x01 ∷ 0x99 ∷ []) ≡ read_as Ping 0x01 1
  -- 19.3: Largest Acknowledged 300, ACK Delay 5, ACK Range Count 2, First ACK Range 4; two ranges; with ECN Counts 7, 8 and 65
  pub ack : read acknowledged ≡ read_as (Ack 300 5 2 4 6) 0x02 11
  -- .. its runs are 300 to 296, 293 to 290 (a gap of 1) and 288 to 223 (a gap of 0): 19.3.1, "largest = previous_smallest - gap - 2"
  pub runs : first_of 300 4 2 6 ∷ map (step_of acknowledged) (walk 296 6 2 ∷ walk 290 8 1 ∷ walk 223 11 0 ∷ []) ≡ goes_on 300 296 (walk 296 6 2) ∷ goes_on 293 290 (walk 290 8 1) ∷ goes_on 288 223 (walk 223 11 0) ∷ None ∷ []
  -- .. the first run down to number 0, and no run below it; a range down to 0, one below it, one of which a number is missing or cut short; none is left, though what follows would read as one
  pub first_run : map (λ (len : ℕ). first_of 5 len 3 9) (0 ∷ 5 ∷ 6 ∷ []) ≡ goes_on 5 5 (walk 5 9 3) ∷ goes_on 5 0 (walk 0 9 3) ∷ None ∷ []
  pub next_run : map (λ (s : List ℕ). step_of s (walk 5 1 2)) ((9 ∷ 1 ∷ 2 ∷ []) ∷ (9 ∷ 1 ∷ 3 ∷ []) ∷ (9 ∷ 4 ∷ 0 ∷ []) ∷ (9 ∷ 1 ∷ []) ∷ (9 ∷ []) ∷ (9 ∷ 1 ∷ 0x40 ∷ []) ∷ []) ≡ goes_on 2 0 (walk 0 3 1) ∷ None ∷ None ∷ None ∷ None ∷ None ∷ []
  pub no_run : step_of (9 ∷ 1 ∷ 2 ∷ []) (walk 5 1 0) ≡ None
  pub ack_ecn : read (0x03 ∷ 0x41 ∷ 0x2c ∷ 5 ∷ 1 ∷ 4 ∷ 3 ∷ 6 ∷ 7 ∷ 8 ∷ 0x40 ∷ 0x41 ∷ 0x99 ∷ []) ≡ read_as (AckEcn 300 5 1 4 6 7 8 65) 0x03 12
  -- 19.4: Stream ID 4, Application Protocol Error Code 300, Final Size 9
  pub reset_stream : read (0x04 ∷ 4 ∷ 0x41 ∷ 0x2c ∷ 9 ∷ 0x99 ∷ []) ≡ read_as (ResetStream 4 300 9) 0x04 5
  -- 19.5: Stream ID 8, Application Protocol Error Code 300
  pub stop_sending : read (0x05 ∷ 8 ∷ 0x41 ∷ 0x2c ∷ 0x99 ∷ []) ≡ read_as (StopSending 8 300) 0x05 4
  -- 19.6: Offset 300, Length 3, Crypto Data
  pub crypto : read (0x06 ∷ 0x41 ∷ 0x2c ∷ 3 ∷ 1 ∷ 2 ∷ 3 ∷ 0x99 ∷ []) ≡ read_as (Crypto 300 4 3) 0x06 7
  -- 19.7: Token Length 2, Token
  pub new_token : read (0x07 ∷ 2 ∷ 1 ∷ 2 ∷ 0x99 ∷ []) ≡ read_as (NewToken 2 2) 0x07 4
  -- 19.8: Stream ID; Offset if bit 0x04 is set; Length if bit 0x02 is set, else all the rest; bit 0x01 is FIN
  pub stream_08 : read (0x08 ∷ 4 ∷ 1 ∷ 2 ∷ 3 ∷ []) ≡ read_as (Stream 4 0 false 2 3) 0x08 5
  pub stream_09 : read (0x09 ∷ 0x41 ∷ 0x2c ∷ 1 ∷ 2 ∷ []) ≡ read_as (Stream 300 0 true 3 2) 0x09 5
  pub stream_0a : read (0x0a ∷ 6 ∷ 2 ∷ 1 ∷ 2 ∷ 0x99 ∷ []) ≡ read_as (Stream 6 0 false 3 2) 0x0a 5
  pub stream_0b : read (0x0b ∷ 7 ∷ 0x40 ∷ 1 ∷ 1 ∷ 0x99 ∷ []) ≡ read_as (Stream 7 0 true 4 1) 0x0b 5
  pub stream_0c : read (0x0c ∷ 8 ∷ 0x41 ∷ 0x2c ∷ 1 ∷ 2 ∷ []) ≡ read_as (Stream 8 300 false 4 2) 0x0c 6
  pub stream_0d : read (0x0d ∷ 9 ∷ 5 ∷ 1 ∷ []) ≡ read_as (Stream 9 5 true 3 1) 0x0d 4
  pub stream_0e : read (0x0e ∷ 10 ∷ 0x41 ∷ 0x2c ∷ 1 ∷ 1 ∷ 0x99 ∷ []) ≡ read_as (Stream 10 300 false 5 1) 0x0e 6
  pub stream_0f : read (0x0f ∷ 11 ∷ 6 ∷ 2 ∷ 1 ∷ 2 ∷ 0x99 ∷ []) ≡ read_as (Stream 11 6 true 4 2) 0x0f 6
  -- 19.9: Maximum Data 300
  pub max_data : read (0x10 ∷ 0x41 ∷ 0x2c ∷ 0x99 ∷ []) ≡ read_as (MaxData 300) 0x10 3
  -- 19.10: Stream ID 4, Maximum Stream Data 300
  pub max_stream_data : read (0x11 ∷ 4 ∷ 0x41 ∷ 0x2c ∷ 0x99 ∷ []) ≡ read_as (MaxStreamData 4 300) 0x11 4
  -- 19.11: 0x12 for two-way streams, 0x13 for one-way streams; Maximum Streams
  pub max_streams_12 : read (0x12 ∷ 0x41 ∷ 0x2c ∷ 0x99 ∷ []) ≡ read_as (MaxStreams false 300) 0x12 3
  pub max_streams_13 : read (0x13 ∷ 7 ∷ 0x99 ∷ []) ≡ read_as (MaxStreams true 7) 0x13 2
  -- 19.12: Maximum Data 9
  pub data_blocked : read (0x14 ∷ 9 ∷ 0x99 ∷ []) ≡ read_as (DataBlocked 9) 0x14 2
  -- 19.13: Stream ID 8, Maximum Stream Data 300
  pub stream_data_blocked : read (0x15 ∷ 8 ∷ 0x41 ∷ 0x2c ∷ 0x99 ∷ []) ≡ read_as (StreamDataBlocked 8 300) 0x15 4
  -- 19.14: 0x16 for two-way streams, 0x17 for one-way streams; Maximum Streams
  pub streams_blocked_16 : read (0x16 ∷ 10 ∷ 0x99 ∷ []) ≡ read_as (StreamsBlocked false 10) 0x16 2
  pub streams_blocked_17 : read (0x17 ∷ 0x41 ∷ 0x2c ∷ 0x99 ∷ []) ≡ read_as (StreamsBlocked true 300) 0x17 3
  -- 19.15: Sequence Number 300, Retire Prior To 7, Length 3 (a plain byte), Connection ID, Stateless Reset Token of 16 bytes
  pub new_connection_id : read (0x18 ∷ 0x41 ∷ 0x2c ∷ 7 ∷ 3 ∷ 1 ∷ 2 ∷ 3 ∷ (replicate 16 0x51 ++ (0x99 ∷ []))) ≡ read_as (NewConnectionId 300 7 5 3 8) 0x18 24
  -- 19.16: Sequence Number 300
  pub retire_connection_id : read (0x19 ∷ 0x41 ∷ 0x2c ∷ 0x99 ∷ []) ≡ read_as (RetireConnectionId 300) 0x19 3
  -- 19.17 and 19.18: Data of 8 bytes
  pub path_challenge : read (0x1a ∷ 1 ∷ 2 ∷ 3 ∷ 4 ∷ 5 ∷ 6 ∷ 7 ∷ 8 ∷ 0x99 ∷ []) ≡ read_as (PathChallenge 1) 0x1a 9
  pub path_response : read (0x1b ∷ 1 ∷ 2 ∷ 3 ∷ 4 ∷ 5 ∷ 6 ∷ 7 ∷ 8 ∷ 0x99 ∷ []) ≡ read_as (PathResponse 1) 0x1b 9
  -- 19.19: Error Code 5, Frame Type 300, Reason Phrase Length 2, Reason Phrase; 0x1d has no Frame Type
  pub connection_close : read (0x1c ∷ 5 ∷ 0x41 ∷ 0x2c ∷ 2 ∷ 1 ∷ 2 ∷ 0x99 ∷ []) ≡ read_as (ConnectionClose 5 300 5 2) 0x1c 7
  pub application_close : read (0x1d ∷ 0x41 ∷ 0x2c ∷ 3 ∷ 1 ∷ 2 ∷ 3 ∷ 0x99 ∷ []) ≡ read_as (ApplicationClose 300 4 3) 0x1d 7
  -- 19.20
  pub handshake_done : read (0x1e ∷ 0x99 ∷ []) ≡ read_as HandshakeDone 0x1e 1
  -- "Longer forms are read everywhere except in a frame's type": a number in two, four and eight bytes; and a frame that does not stand at the beginning
  pub longer : read (0x04 ∷ 0x40 ∷ 4 ∷ 0x80 ∷ 0 ∷ 0 ∷ 5 ∷ 0xc0 ∷ 0 ∷ 0 ∷ 0 ∷ 0 ∷ 0 ∷ 0 ∷ 6 ∷ []) ≡ read_as (ResetStream 4 5 6) 0x04 15
  pub inside : any_frame_at (0x99 ∷ 0x98 ∷ 0x06 ∷ 0x41 ∷ 0x2c ∷ 3 ∷ 1 ∷ 2 ∷ 3 ∷ 0x99 ∷ []) 2 ≡ read_as (Crypto 300 6 3) 0x06 9
  -- the parts that a frame of each form has after its type: those that it does not have are 0
  pub apart : parts_at (5 ∷ 0x99 ∷ []) 0 0x10 ∷ parts_at (9 ∷ 0 ∷ 1 ∷ 2 ∷ 3 ∷ 2 ∷ 7 ∷ 8 ∷ 6 ∷ 0x99 ∷ []) 0 0x03 ∷ parts_at (4 ∷ 2 ∷ 1 ∷ 2 ∷ 0x99 ∷ []) 0 0x0a ∷ parts_at (4 ∷ 6 ∷ 1 ∷ 2 ∷ []) 0 0x0c ∷ parts_at (replicate 9 1) 0 0x1a ∷ parts_at (7 ∷ 5 ∷ 1 ∷ replicate 18 2) 0 0x18 ∷ []
      ≡ Some (parts 0x10 5 0 0 0 0 0 0 0 0 0, 1) ∷ Some (parts 0x03 9 0 1 2 4 0 0 7 8 6, 9) ∷ Some (parts 0x0a 4 0 0 0 2 2 0 0 0 0, 4) ∷ Some (parts 0x0c 4 6 0 0 2 2 0 0 0 0, 4)
      ∷ Some (parts 0x1a 0 0 0 0 0 8 0 0 0 0, 8) ∷ Some (parts 0x18 7 5 0 0 3 1 4 0 0 0, 20) ∷ []
  -- a place outside of the bytes: nothing stands there
  pub bodies_outside : map (λ tail. body_at (1 ∷ []) 2 tail 0 1 0) (Tail'.Counted ∷ Tail'.Remainder ∷ Tail'.Eight ∷ Tail'.Identity ∷ Tail'.Ranges ∷ []) ≡ replicate 5 None
  -- a type that is not one of section 19 has no fields
  pub no_layout : map layout_of (0x1f ∷ 0x20 ∷ []) ≡ layout 0 Tail'.Nothing 0 ∷ layout 0 Tail'.Nothing 0 ∷ []
