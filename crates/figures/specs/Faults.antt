-- docs/RULES.md, "Fields that give 7", at their borders, each from both sides, and fields that are cut short, one of each form: beside each, its sentence.
use Rattle.std.specs.Prelude.{ℕ, ◌-◌, ◌^◌, ◌+◌, ◌≡◌, true, false, List, [], ◌∷◌, ◌++◌, map, replicate, None, Result}
use Rattle.answers.specs.declared.Answer.TheVariants.{FrameEncoding}
use Rattle.fields.specs.Said.{fields_say}
use Rattle.frames.specs.declared.Frame.TheVariants.{Ack, AckEcn, Crypto, NewToken, Stream, MaxStreams, StreamsBlocked, NewConnectionId}
use Rattle.frames.specs.declared.Reading.{Reading}
use Rattle.figures.specs.Figures.{read}
use Rattle.frames.specs.Fields.{read_as, refused_as}
use Rattle.fields.specs.declared.Refusal.{Refusal}

-- a frame of this type is refused with 7
abbrev pub wrong : ℕ → Result Reading Refusal
wrong ty = refused_as FrameEncoding ty

-- eight bytes of a number: 2^62-1, 2^62-2, 2^60, 2^60+1
abbrev pub most : List ℕ
most = replicate 8 0xff

abbrev pub next_to_most : List ℕ
next_to_most = replicate 7 0xff ++ (0xfe ∷ [])

abbrev pub many_streams : ℕ → List ℕ
many_streams more = 0xd0 ∷ (replicate 6 0 ++ (more ∷ []))

-- NEW_CONNECTION_ID with an ID length byte and so many bytes after it
abbrev pub identity : ℕ → ℕ → ℕ → ℕ → List ℕ
identity sequence retire len n = 0x18 ∷ sequence ∷ retire ∷ len ∷ replicate n 5

pub record Faults : Type 0 where
  -- "offset plus length above 2^62-1 in STREAM or CRYPTO": with a Length, to the end, and CRYPTO
  pub stream_end : map (λ rest. read (0x0e ∷ 4 ∷ rest)) ((most ++ (0 ∷ [])) ∷ (most ++ (1 ∷ 7 ∷ [])) ∷ (next_to_most ++ (1 ∷ 7 ∷ [])) ∷ (next_to_most ++ (2 ∷ 7 ∷ 7 ∷ [])) ∷ [])
      ≡ read_as (Stream 4 (2 ^ 62 - 1) false 11 0) 0x0e 11 ∷ wrong 0x0e ∷ read_as (Stream 4 (2 ^ 62 - 2) false 11 1) 0x0e 12 ∷ wrong 0x0e ∷ []
  pub stream_rest : map (λ rest. read (0x0d ∷ 4 ∷ rest)) (most ∷ (most ++ (7 ∷ [])) ∷ (next_to_most ++ (7 ∷ [])) ∷ (next_to_most ++ (7 ∷ 7 ∷ [])) ∷ [])
      ≡ read_as (Stream 4 (2 ^ 62 - 1) true 10 0) 0x0d 10 ∷ wrong 0x0d ∷ read_as (Stream 4 (2 ^ 62 - 2) true 10 1) 0x0d 11 ∷ wrong 0x0d ∷ []
  pub crypto_end : map (λ rest. read (0x06 ∷ rest)) ((most ++ (0 ∷ [])) ∷ (most ++ (1 ∷ 7 ∷ [])) ∷ (next_to_most ++ (1 ∷ 7 ∷ [])) ∷ (next_to_most ++ (2 ∷ 7 ∷ 7 ∷ [])) ∷ [])
      ≡ read_as (Crypto (2 ^ 62 - 1) 10 0) 0x06 10 ∷ wrong 0x06 ∷ read_as (Crypto (2 ^ 62 - 2) 10 1) 0x06 11 ∷ wrong 0x06 ∷ []
  -- "an ACK run below number 0": the first run, a gap alone, a length after a gap, and the second of two ranges
  pub first_run : map (λ rest. read (0x02 ∷ rest)) ((5 ∷ 0 ∷ 0 ∷ 5 ∷ []) ∷ (5 ∷ 0 ∷ 0 ∷ 6 ∷ []) ∷ []) ≡ read_as (Ack 5 0 0 5 5) 0x02 5 ∷ wrong 0x02 ∷ []
  pub gap : map (λ rest. read (0x02 ∷ rest)) ((2 ∷ 0 ∷ 1 ∷ 0 ∷ 0 ∷ 0 ∷ []) ∷ (2 ∷ 0 ∷ 1 ∷ 0 ∷ 1 ∷ 0 ∷ []) ∷ (1 ∷ 0 ∷ 1 ∷ 0 ∷ 0 ∷ 0 ∷ []) ∷ []) ≡ read_as (Ack 2 0 1 0 5) 0x02 7 ∷ wrong 0x02 ∷ wrong 0x02 ∷ []
  pub run : map (λ rest. read (0x02 ∷ rest)) ((9 ∷ 0 ∷ 1 ∷ 2 ∷ 3 ∷ 2 ∷ []) ∷ (9 ∷ 0 ∷ 1 ∷ 2 ∷ 3 ∷ 3 ∷ []) ∷ []) ≡ read_as (Ack 9 0 1 2 5) 0x02 7 ∷ wrong 0x02 ∷ []
  pub second_run : map (λ rest. read (0x02 ∷ rest)) ((9 ∷ 0 ∷ 2 ∷ 1 ∷ 0 ∷ 1 ∷ 1 ∷ 2 ∷ []) ∷ (9 ∷ 0 ∷ 2 ∷ 1 ∷ 0 ∷ 1 ∷ 1 ∷ 3 ∷ []) ∷ []) ≡ read_as (Ack 9 0 2 1 5) 0x02 9 ∷ wrong 0x02 ∷ []
  pub run_ecn : map (λ rest. read (0x03 ∷ rest)) ((9 ∷ 0 ∷ 1 ∷ 2 ∷ 3 ∷ 2 ∷ 1 ∷ 1 ∷ 1 ∷ []) ∷ (9 ∷ 0 ∷ 1 ∷ 2 ∷ 3 ∷ 3 ∷ 1 ∷ 1 ∷ 1 ∷ []) ∷ (9 ∷ 0 ∷ 0 ∷ 10 ∷ 1 ∷ 1 ∷ 1 ∷ []) ∷ []) ≡ read_as (AckEcn 9 0 1 2 5 1 1 1) 0x03 10 ∷ wrong 0x03 ∷ wrong 0x03 ∷ []
  -- "MAX_STREAMS or STREAMS_BLOCKED above 2^60"
  pub many_streams_law : map (λ ty. read (ty ∷ many_streams 0)) (0x12 ∷ 0x13 ∷ 0x16 ∷ 0x17 ∷ []) ≡ read_as (MaxStreams false (2 ^ 60)) 0x12 9 ∷ read_as (MaxStreams true (2 ^ 60)) 0x13 9 ∷ read_as (StreamsBlocked false (2 ^ 60)) 0x16 9 ∷ read_as (StreamsBlocked true (2 ^ 60)) 0x17 9 ∷ []
  pub too_many_law : map (λ ty. read (ty ∷ many_streams 1)) (0x12 ∷ 0x13 ∷ 0x16 ∷ 0x17 ∷ []) ≡ map wrong (0x12 ∷ 0x13 ∷ 0x16 ∷ 0x17 ∷ [])
  -- "NEW_CONNECTION_ID with ID length outside 1 to 20": 0, 1, 20, 21; the length is a plain byte, so 0x40 is 64 and 0x41 is 65, however many bytes there are, and not the first byte of the number 5 or 261
  pub id_length : map (λ n. read (identity 2 1 n (n + 16))) (0 ∷ 1 ∷ 20 ∷ 21 ∷ 0x40 ∷ 0x41 ∷ []) ≡ wrong 0x18 ∷ read_as (NewConnectionId 2 1 4 1 5) 0x18 21 ∷ read_as (NewConnectionId 2 1 4 20 24) 0x18 40 ∷ wrong 0x18 ∷ wrong 0x18 ∷ wrong 0x18 ∷ []
  pub id_plain : map (λ n. read (identity 2 1 n 300)) (0x40 ∷ 0x41 ∷ 255 ∷ []) ≡ wrong 0x18 ∷ wrong 0x18 ∷ wrong 0x18 ∷ []
  -- ".. or Retire Prior To above its sequence": below, equal, above
  pub retires : map (λ retire. read (identity 5 retire 1 17)) (4 ∷ 5 ∷ 6 ∷ []) ≡ read_as (NewConnectionId 5 4 4 1 5) 0x18 21 ∷ read_as (NewConnectionId 5 5 4 1 5) 0x18 21 ∷ wrong 0x18 ∷ []
  -- "an empty NEW_TOKEN token"
  pub empty_token : map read ((0x07 ∷ 0 ∷ []) ∷ (0x07 ∷ 0 ∷ 1 ∷ []) ∷ (0x07 ∷ 1 ∷ 1 ∷ []) ∷ []) ≡ wrong 0x07 ∷ wrong 0x07 ∷ read_as (NewToken 2 1) 0x07 3 ∷ []
  -- "A field that cannot be read ends the frame with 7". Numbers: not there, cut short, the last of them missing
  pub numbers_cut : map read ((0x10 ∷ []) ∷ (0x10 ∷ 0x41 ∷ []) ∷ (0x04 ∷ 4 ∷ 5 ∷ []) ∷ (0x04 ∷ 4 ∷ 5 ∷ 0x80 ∷ 0 ∷ 0 ∷ []) ∷ (0x08 ∷ []) ∷ (0x0c ∷ 4 ∷ []) ∷ (0x18 ∷ 2 ∷ []) ∷ (0x1c ∷ 5 ∷ []) ∷ [])
      ≡ wrong 0x10 ∷ wrong 0x10 ∷ wrong 0x04 ∷ wrong 0x04 ∷ wrong 0x08 ∷ wrong 0x0c ∷ wrong 0x18 ∷ wrong 0x1c ∷ []
  -- bytes after their length: no length, one byte less than it says
  pub bytes_cut : map read ((0x06 ∷ 0 ∷ []) ∷ (0x06 ∷ 0 ∷ 2 ∷ 1 ∷ []) ∷ (0x07 ∷ []) ∷ (0x07 ∷ 2 ∷ 1 ∷ []) ∷ (0x0a ∷ 4 ∷ []) ∷ (0x0a ∷ 4 ∷ 2 ∷ 1 ∷ []) ∷ (0x0f ∷ 4 ∷ 6 ∷ []) ∷ (0x0f ∷ 4 ∷ 6 ∷ 2 ∷ 1 ∷ []) ∷ (0x1c ∷ 5 ∷ 6 ∷ []) ∷ (0x1c ∷ 5 ∷ 6 ∷ 2 ∷ 1 ∷ []) ∷ (0x1d ∷ 5 ∷ []) ∷ (0x1d ∷ 5 ∷ 2 ∷ 1 ∷ []) ∷ [])
      ≡ wrong 0x06 ∷ wrong 0x06 ∷ wrong 0x07 ∷ wrong 0x07 ∷ wrong 0x0a ∷ wrong 0x0a ∷ wrong 0x0f ∷ wrong 0x0f ∷ wrong 0x1c ∷ wrong 0x1c ∷ wrong 0x1d ∷ wrong 0x1d ∷ []
  -- bytes to the end: there may be none
  pub rest_empty : map read ((0x08 ∷ 4 ∷ []) ∷ (0x0d ∷ 4 ∷ 6 ∷ []) ∷ []) ≡ read_as (Stream 4 0 false 2 0) 0x08 2 ∷ read_as (Stream 4 6 true 3 0) 0x0d 3 ∷ []
  -- PATH data of 7 bytes
  pub path_cut : map (λ ty. read (ty ∷ replicate 7 1)) (0x1a ∷ 0x1b ∷ []) ≡ wrong 0x1a ∷ wrong 0x1b ∷ []
  -- a connection ID: no length, a token of 15 bytes
  pub id_cut : map read ((0x18 ∷ 2 ∷ 1 ∷ []) ∷ identity 2 1 4 19 ∷ identity 2 1 4 20 ∷ []) ≡ wrong 0x18 ∷ wrong 0x18 ∷ read_as (NewConnectionId 2 1 4 4 8) 0x18 24 ∷ []
  -- ranges: no range where one is counted, a gap with no length, the second of two missing; ECN counts: none, and two of three
  pub ranges_cut : map read ((0x02 ∷ 9 ∷ 0 ∷ 1 ∷ 0 ∷ []) ∷ (0x02 ∷ 9 ∷ 0 ∷ 1 ∷ 0 ∷ 0 ∷ []) ∷ (0x02 ∷ 9 ∷ 0 ∷ 2 ∷ 0 ∷ 0 ∷ 0 ∷ []) ∷ (0x03 ∷ 9 ∷ 0 ∷ 0 ∷ 0 ∷ []) ∷ (0x03 ∷ 9 ∷ 0 ∷ 0 ∷ 0 ∷ 1 ∷ 1 ∷ []) ∷ (0x03 ∷ 9 ∷ 0 ∷ 1 ∷ 0 ∷ 0 ∷ 1 ∷ 1 ∷ []) ∷ [])
      ≡ wrong 0x02 ∷ wrong 0x02 ∷ wrong 0x02 ∷ wrong 0x03 ∷ wrong 0x03 ∷ wrong 0x03 ∷ []
  -- .. and 7 is what is said of fields that cannot be read or have a fault
  pub said : (fields_say None).number ≡ 7
