-- docs/RULES.md, "Writing": "Writers check 120, 112, 109, 108 where these apply", "Writing uses the shortest form": each pair of neighbours by an input that both would refuse, the output whole at exit, and one frame of each type written to its bytes.
use Rattle.std.specs.Prelude.{ℕ, ◌+◌, ◌-◌, ◌^◌, ◌≡◌, true, false, List, [], ◌∷◌, ◌++◌, map, replicate, Result, Ok, Err}
use Rattle.answers.specs.declared.Answer.TheVariants.{NoRoom, Unwritable, NothingToAcknowledge, DoesNotFit}
use Rattle.wire.specs.Writing.{Draft, Bytes, Never, writes}
use Rattle.row.specs.Row.{row_draft}
use Rattle.frames.specs.declared.Frame.{Frame}
use Rattle.frames.specs.declared.Frame.TheVariants.{Padding, Ping, Ack, AckEcn, ResetStream, StopSending, Crypto, NewToken, Stream, MaxData, MaxStreamData, MaxStreams, DataBlocked, StreamDataBlocked, StreamsBlocked, NewConnectionId, RetireConnectionId, PathChallenge, PathResponse, ConnectionClose, ApplicationClose, HandshakeDone}
use Rattle.contents.specs.Content.{contents}
use Rattle.sizes.specs.Spelled.{frame_draft}
use Rattle.records.specs.declared.Record.{Record}
use Rattle.records.specs.Marks.{none_of}
use Rattle.acks.specs.Ack.{ack_of, ack_draft}
use Rattle.answers.specs.declared.Answer.{Answer}

-- ---- acknowledgements

-- a record by its first two words and its top
abbrev pub record_by : ℕ → ℕ → ℕ → Record
record_by first second top = record { words = first ∷ second ∷ replicate 126 0; top = top }

-- 0, 1 and 3 are recorded
abbrev pub three : Record
three = record_by 11 0 4

-- an output of n bytes 7
abbrev pub sevens : ℕ → List ℕ
sevens n = replicate n 7

pub record AckWritten : Type 0 where
  -- "Recorded 0, 1, 3, delay 0: 02 03 00 01 00 00 01": before the place and past the end the output stays
  pub bytes : writes (ack_draft three 0) (sevens 11) 2 ≡ (Ok 9, 7 ∷ 7 ∷ 0x02 ∷ 0x03 ∷ 0x00 ∷ 0x01 ∷ 0x00 ∷ 0x00 ∷ 0x01 ∷ 7 ∷ 7 ∷ [])
  -- "with the delay the caller names"
  pub delayed : ack_draft three 300 ≡ Bytes (0x02 ∷ 0x03 ∷ 0x41 ∷ 0x2c ∷ 0x01 ∷ 0x00 ∷ 0x00 ∷ 0x01 ∷ [])
  -- "output shorter than what is to be written": it may be just as long
  pub room : writes (ack_draft three 0) (sevens 7) 0 ≡ (Ok 7, 0x02 ∷ 0x03 ∷ 0x00 ∷ 0x01 ∷ 0x00 ∷ 0x00 ∷ 0x01 ∷ [])
  pub no_room : writes (ack_draft three 0) (sevens 6) 0 ≡ (Err NoRoom, sevens 6)
  pub no_room_there : map (λ (at : ℕ). writes (ack_draft three 0) (sevens 7) at) (1 ∷ 8 ∷ (2 ^ 64 - 1) ∷ []) ≡ replicate 3 (Err NoRoom, sevens 7)
  -- 120 before 112, 112 before 109, 109 before 108: a stray mark where nothing is recorded, nothing recorded, and a delay above 2^62-1, into an output with no room
  pub unfit_first : writes (ack_draft (record_by 1 0 0) (2 ^ 62)) (7 ∷ []) 0 ≡ (Err DoesNotFit, 7 ∷ [])
  pub unfit : map (λ (R : Record). writes (ack_draft R 0) (7 ∷ []) 0) (record_by 1 0 2 ∷ record_by 1 0 (2 ^ 62 + 1) ∷ []) ≡ replicate 2 (Err DoesNotFit, 7 ∷ [])
  pub nothing_then : writes (ack_draft none_of (2 ^ 62)) (7 ∷ []) 0 ≡ (Err NothingToAcknowledge, 7 ∷ [])
  pub unwritable_then : writes (ack_draft three (2 ^ 62)) (7 ∷ []) 0 ≡ (Err Unwritable, 7 ∷ [])
  pub no_room_last : writes (ack_draft three (2 ^ 62 - 1)) (7 ∷ []) 0 ≡ (Err NoRoom, 7 ∷ [])
  -- "at most 32 runs, from the highest number down [..] lower runs left off only after the 32nd": the even numbers to 62 are 32 runs; with 64 there are 33, and 0 is left off
  pub runs_32 : ack_draft (record_by 0x5555555555555555 0 63) 0 ≡ Bytes (0x02 ∷ 62 ∷ 0 ∷ 31 ∷ 0 ∷ replicate 62 0)
  pub runs_33 : ack_draft (record_by 0x5555555555555555 1 65) 0 ≡ Bytes (0x02 ∷ 0x40 ∷ 0x40 ∷ 0 ∷ 31 ∷ 0 ∷ replicate 62 0)
  -- one run, down to number 0; one number; a gap of two and of three numbers
  pub runs : map (λ R. ack_of R 5) (record_by 7 0 3 ∷ record_by 4 0 3 ∷ record_by 25 0 5 ∷ record_by 17 0 5 ∷ []) ≡ (2 ∷ 2 ∷ 5 ∷ 0 ∷ 2 ∷ []) ∷ (2 ∷ 2 ∷ 5 ∷ 0 ∷ 0 ∷ []) ∷ (2 ∷ 4 ∷ 5 ∷ 1 ∷ 1 ∷ 1 ∷ 0 ∷ []) ∷ (2 ∷ 4 ∷ 5 ∷ 1 ∷ 0 ∷ 2 ∷ 0 ∷ []) ∷ []
  -- a run over two words: 62 to 65
  pub over_words : ack_of (record_by (2 ^ 63 + 2 ^ 62) 3 66) 0 ≡ 2 ∷ 65 ∷ 0 ∷ 0 ∷ 3 ∷ []

-- ---- rows of numbers and frames

-- a frame whose places refer to s, before any output is asked for
abbrev pub draft : List ℕ → Frame → Draft
draft s f = frame_draft (contents s f)

-- .. into an output, at a place
abbrev pub wrote : List ℕ → Frame → List ℕ → ℕ → Result ℕ Answer × List ℕ
wrote s f out at = writes (draft s f) out at

-- three bytes, and nine
abbrev pub abc : List ℕ
abc = 0x61 ∷ 0x62 ∷ 0x63 ∷ []

abbrev pub nine : List ℕ
nine = 9 ∷ 1 ∷ 2 ∷ 3 ∷ 4 ∷ 5 ∷ 6 ∷ 7 ∷ 8 ∷ []

-- an ID of three bytes and a token of sixteen
abbrev pub identity : List ℕ
identity = abc ++ replicate 16 0x51

pub record FramesWritten : Type 0 where
  -- "a value above 2^62-1" anywhere in a row is 109, before 108; then the room
  pub row_order : map (λ (vs : List ℕ). writes (row_draft vs) [] 0) ((2 ^ 62 ∷ []) ∷ (1 ∷ 2 ^ 62 ∷ []) ∷ (1 ∷ (2 ^ 62 - 1) ∷ []) ∷ []) ≡ (Err Unwritable, []) ∷ (Err Unwritable, []) ∷ (Err NoRoom, []) ∷ []
  pub row_bytes : writes (row_draft (1 ∷ 300 ∷ 63 ∷ [])) (sevens 6) 1 ≡ (Ok 5, 7 ∷ 1 ∷ 0x41 ∷ 0x2c ∷ 0x3f ∷ 7 ∷ [])
  pub row_room : map (λ (n : ℕ). writes (row_draft (1 ∷ 300 ∷ 63 ∷ [])) (sevens n) 1) (5 ∷ 4 ∷ []) ≡ (Ok 5, 7 ∷ 1 ∷ 0x41 ∷ 0x2c ∷ 0x3f ∷ []) ∷ (Err NoRoom, sevens 4) ∷ []
  -- "STREAM is written with LEN set, OFF exactly when the offset is not 0": offset 0 and above, FIN or not
  pub stream_0a : wrote abc (Stream 4 0 false 0 3) (sevens 8) 1 ≡ (Ok 7, 7 ∷ 0x0a ∷ 4 ∷ 3 ∷ 0x61 ∷ 0x62 ∷ 0x63 ∷ 7 ∷ [])
  pub stream_0b : wrote abc (Stream 300 0 true 1 2) (sevens 8) 1 ≡ (Ok 7, 7 ∷ 0x0b ∷ 0x41 ∷ 0x2c ∷ 2 ∷ 0x62 ∷ 0x63 ∷ 7 ∷ [])
  pub stream_0e : wrote abc (Stream 4 1 false 0 2) (sevens 8) 1 ≡ (Ok 7, 7 ∷ 0x0e ∷ 4 ∷ 1 ∷ 2 ∷ 0x61 ∷ 0x62 ∷ 7 ∷ [])
  pub stream_0f : wrote abc (Stream 4 300 true 2 1) (sevens 8) 1 ≡ (Ok 7, 7 ∷ 0x0f ∷ 4 ∷ 0x41 ∷ 0x2c ∷ 1 ∷ 0x63 ∷ 7 ∷ [])
  pub stream_empty : map (draft []) (Stream 4 0 false 0 0 ∷ Stream 4 5 true 0 0 ∷ []) ≡ Bytes (0x0a ∷ 4 ∷ 0 ∷ []) ∷ Bytes (0x0f ∷ 4 ∷ 5 ∷ 0 ∷ []) ∷ []
  -- one frame of each other type: those without bytes of their own ..
  pub plain : map (draft []) (Padding ∷ Ping ∷ HandshakeDone ∷ ResetStream 4 300 9 ∷ StopSending 8 300 ∷ RetireConnectionId 300 ∷ [])
      ≡ Bytes (0x00 ∷ []) ∷ Bytes (0x01 ∷ []) ∷ Bytes (0x1e ∷ []) ∷ Bytes (0x04 ∷ 4 ∷ 0x41 ∷ 0x2c ∷ 9 ∷ []) ∷ Bytes (0x05 ∷ 8 ∷ 0x41 ∷ 0x2c ∷ []) ∷ Bytes (0x19 ∷ 0x41 ∷ 0x2c ∷ []) ∷ []
  pub limits : map (draft []) (MaxData 300 ∷ MaxStreamData 4 300 ∷ MaxStreams false 300 ∷ MaxStreams true 7 ∷ [])
      ≡ Bytes (0x10 ∷ 0x41 ∷ 0x2c ∷ []) ∷ Bytes (0x11 ∷ 4 ∷ 0x41 ∷ 0x2c ∷ []) ∷ Bytes (0x12 ∷ 0x41 ∷ 0x2c ∷ []) ∷ Bytes (0x13 ∷ 7 ∷ []) ∷ []
  pub blocked : map (draft []) (DataBlocked 9 ∷ StreamDataBlocked 8 300 ∷ StreamsBlocked false 10 ∷ StreamsBlocked true 300 ∷ [])
      ≡ Bytes (0x14 ∷ 9 ∷ []) ∷ Bytes (0x15 ∷ 8 ∷ 0x41 ∷ 0x2c ∷ []) ∷ Bytes (0x16 ∷ 10 ∷ []) ∷ Bytes (0x17 ∷ 0x41 ∷ 0x2c ∷ []) ∷ []
  -- .. those with bytes ..
  pub counted : map (draft nine) (Crypto 300 1 3 ∷ NewToken 0 2 ∷ ConnectionClose 5 300 7 2 ∷ ApplicationClose 300 0 1 ∷ [])
      ≡ Bytes (0x06 ∷ 0x41 ∷ 0x2c ∷ 3 ∷ 1 ∷ 2 ∷ 3 ∷ []) ∷ Bytes (0x07 ∷ 2 ∷ 9 ∷ 1 ∷ []) ∷ Bytes (0x1c ∷ 5 ∷ 0x41 ∷ 0x2c ∷ 2 ∷ 7 ∷ 8 ∷ []) ∷ Bytes (0x1d ∷ 0x41 ∷ 0x2c ∷ 1 ∷ 9 ∷ []) ∷ []
  pub paths : map (draft nine) (PathChallenge 1 ∷ PathResponse 0 ∷ []) ≡ Bytes (0x1a ∷ 1 ∷ 2 ∷ 3 ∷ 4 ∷ 5 ∷ 6 ∷ 7 ∷ 8 ∷ []) ∷ Bytes (0x1b ∷ 9 ∷ 1 ∷ 2 ∷ 3 ∷ 4 ∷ 5 ∷ 6 ∷ 7 ∷ []) ∷ []
  pub new_connection_id : draft identity (NewConnectionId 300 7 0 3 3) ≡ Bytes (0x18 ∷ 0x41 ∷ 0x2c ∷ 7 ∷ 3 ∷ 0x61 ∷ 0x62 ∷ 0x63 ∷ replicate 16 0x51)
  -- .. and an ACK with its ranges, whose numbers are written anew in shortest form
  pub ack : draft (0x40 ∷ 1 ∷ 3 ∷ 0 ∷ 0x40 ∷ 0x41 ∷ []) (Ack 300 5 2 4 0) ≡ Bytes (0x02 ∷ 0x41 ∷ 0x2c ∷ 5 ∷ 2 ∷ 4 ∷ 1 ∷ 3 ∷ 0 ∷ 0x40 ∷ 0x41 ∷ [])
  pub ack_ecn : draft (9 ∷ 3 ∷ 6 ∷ []) (AckEcn 300 5 1 4 1 7 8 65) ≡ Bytes (0x03 ∷ 0x41 ∷ 0x2c ∷ 5 ∷ 1 ∷ 4 ∷ 3 ∷ 6 ∷ 7 ∷ 8 ∷ 0x40 ∷ 0x41 ∷ [])

-- 109 for a frame
abbrev pub never : Draft
never = Never Unwritable

pub record FramesRefused : Type 0 where
  -- "a value above 2^62-1", in the first number of a frame and in a later one
  pub values : map (draft []) (MaxData (2 ^ 62 - 1) ∷ MaxData (2 ^ 62) ∷ ResetStream 4 0 (2 ^ 62) ∷ ResetStream 4 (2 ^ 62) 0 ∷ StopSending (2 ^ 62) 0 ∷ RetireConnectionId (2 ^ 64 - 1) ∷ []) ≡ Bytes (0x10 ∷ replicate 8 0xff) ∷ replicate 5 never
  pub counts : map (draft []) (Ack 0 (2 ^ 62) 0 0 0 ∷ AckEcn 0 0 0 0 0 (2 ^ 62) 0 0 ∷ AckEcn 0 0 0 0 0 0 (2 ^ 62) 0 ∷ AckEcn 0 0 0 0 0 0 0 (2 ^ 62) ∷ []) ≡ replicate 4 never
  -- "or a frame that the reader would refuse with 7": an end above 2^62-1 ..
  pub ends : map (draft abc) (Stream 4 (2 ^ 62 - 1) false 0 1 ∷ Stream 4 (2 ^ 62 - 2) false 0 1 ∷ Crypto (2 ^ 62 - 1) 0 1 ∷ Crypto (2 ^ 62 - 2) 0 1 ∷ [])
      ≡ never ∷ Bytes (0x0e ∷ 4 ∷ (replicate 7 0xff ++ (0xfe ∷ 1 ∷ 0x61 ∷ []))) ∷ never ∷ Bytes (0x06 ∷ (replicate 7 0xff ++ (0xfe ∷ 1 ∷ 0x61 ∷ []))) ∷ []
  -- .. more than 2^60 streams ..
  pub streams : map (draft []) (MaxStreams false (2 ^ 60 + 1) ∷ MaxStreams true (2 ^ 60 + 1) ∷ StreamsBlocked false (2 ^ 60 + 1) ∷ StreamsBlocked true (2 ^ 60 + 1) ∷ []) ≡ replicate 4 never
  pub most_streams : map (draft []) (MaxStreams false (2 ^ 60) ∷ StreamsBlocked true (2 ^ 60) ∷ []) ≡ Bytes (0x12 ∷ 0xd0 ∷ replicate 7 0) ∷ Bytes (0x17 ∷ 0xd0 ∷ replicate 7 0) ∷ []
  -- .. an ID's length outside 1 to 20, which is one byte; Retire Prior To above its sequence ..
  pub identities : map (λ (len : ℕ). draft (replicate 300 5) (NewConnectionId 3 3 0 len 0)) (0 ∷ 1 ∷ 20 ∷ 21 ∷ 257 ∷ []) ≡ never ∷ Bytes (0x18 ∷ 3 ∷ 3 ∷ 1 ∷ replicate 17 5) ∷ Bytes (0x18 ∷ 3 ∷ 3 ∷ 20 ∷ replicate 36 5) ∷ never ∷ never ∷ []
  pub retires : draft (replicate 17 5) (NewConnectionId 3 4 0 1 1) ≡ never
  -- .. an empty token; a run below number 0, and a range that is not there
  pub tokens : map (λ (len : ℕ). draft abc (NewToken 0 len)) (0 ∷ 1 ∷ []) ≡ never ∷ Bytes (0x07 ∷ 1 ∷ 0x61 ∷ []) ∷ []
  pub runs : map (draft (0 ∷ 3 ∷ [])) (Ack 5 0 0 5 0 ∷ Ack 5 0 0 6 0 ∷ Ack 5 0 1 0 0 ∷ Ack 4 0 1 0 0 ∷ Ack 9 0 2 0 0 ∷ []) ≡ Bytes (0x02 ∷ 5 ∷ 0 ∷ 0 ∷ 5 ∷ []) ∷ never ∷ Bytes (0x02 ∷ 5 ∷ 0 ∷ 1 ∷ 0 ∷ 0 ∷ 3 ∷ []) ∷ never ∷ never ∷ []
  -- bytes that are not in the slice
  pub outside : map (draft abc) (Crypto 0 0 3 ∷ Crypto 0 1 3 ∷ Stream 4 0 false 4 0 ∷ PathChallenge 0 ∷ []) ≡ Bytes (0x06 ∷ 0 ∷ 3 ∷ 0x61 ∷ 0x62 ∷ 0x63 ∷ []) ∷ never ∷ never ∷ never ∷ []
  -- 109 before 108; "output untouched" by both; an output may be just as long
  pub unwritable_first : map (λ (f : Frame). wrote abc f (7 ∷ []) 1) (NewToken 0 0 ∷ MaxData (2 ^ 62) ∷ Crypto 0 1 3 ∷ []) ≡ replicate 3 (Err Unwritable, 7 ∷ [])
  pub frame_room : map (λ (n : ℕ). wrote abc (NewToken 0 1) (sevens n) 1) (3 ∷ 4 ∷ 5 ∷ []) ≡ (Err NoRoom, sevens 3) ∷ (Ok 4, 7 ∷ 0x07 ∷ 1 ∷ 0x61 ∷ []) ∷ (Ok 4, 7 ∷ 0x07 ∷ 1 ∷ 0x61 ∷ 7 ∷ []) ∷ []
