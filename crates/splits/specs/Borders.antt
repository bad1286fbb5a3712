-- docs/RULES.md, "Splitting a datagram", at its borders, each clause from both sides, on whole datagrams and with all that is handed back: they hold the definition to docs/RULES.md. Beside each, its sentence.
use Rattle.std.specs.Prelude.{ℕ, ◌≡◌, List, [], ◌∷◌, ◌++◌, map, replicate, Result, Ok, Err}
use Rattle.answers.specs.declared.Answer.TheVariants.{Done}
use Rattle.invariants.specs.Invariant.{part_of}
use Rattle.datagram.specs.declared.Kind.{Kind}
use Rattle.datagram.specs.declared.Kind.TheVariants.{Initial, ZeroRtt, Handshake, Retry, OneRtt, VersionNegotiation, OtherVersion}
use Rattle.datagram.specs.Header.{header_of}
use Rattle.datagram.specs.Split.{none, next_of}
use Rattle.answers.specs.declared.Answer.{Answer}
use Rattle.datagram.specs.declared.Header.{Header}

abbrev pub zeros : ℕ → List ℕ
zeros n = replicate n 0

-- a long header: the first byte, the version's four bytes, IDs of so many bytes, each after its length byte, and what follows them
abbrev pub long : ℕ → List ℕ → ℕ → ℕ → List ℕ → List ℕ
long first version destination source rest = first ∷ (version ++ (destination ∷ (replicate destination 0xd1 ++ (source ∷ (replicate source 0x51 ++ rest)))))

-- a version below 256
abbrev pub version : ℕ → List ℕ
version v = 0 ∷ 0 ∷ 0 ∷ v ∷ []

-- Version Negotiation with IDs of 3 and 2 bytes, and so many bytes of versions
abbrev pub negotiation : ℕ → List ℕ
negotiation n = long 0x80 (version 0) 3 2 (zeros n)

-- a packet of version 1 with IDs of 8 and 5 bytes
abbrev pub version_one : ℕ → List ℕ → List ℕ
version_one first rest = long first (version 1) 8 5 rest

-- .. and what is handed back of it: the token's place and length, the place of the number and the end
abbrev pub packet : Kind → ℕ → ℕ → ℕ → ℕ → Result Header Answer
packet kind token len number end = Ok (header_of kind 1 (part_of 6 8) (part_of 15 5) (part_of token len) number end)

pub record Borders : Type 0 where
  -- "An empty rest answers "done"."
  pub done : next_of [] ≡ Err Done
  -- "Top bit 1: long. Four version bytes, then destination and source connection IDs, each after a length byte": each of them cut short, or not there, is 110
  pub torn : map next_of ((0xc0 ∷ []) ∷ (0xc0 ∷ 0 ∷ 0 ∷ 0 ∷ []) ∷ (0xc0 ∷ version 2) ∷ (0xc0 ∷ (version 2 ++ (3 ∷ 1 ∷ 1 ∷ []))) ∷ (0xc0 ∷ (version 2 ++ (3 ∷ 1 ∷ 1 ∷ 1 ∷ []))) ∷ (0xc0 ∷ (version 2 ++ (3 ∷ 1 ∷ 1 ∷ 1 ∷ 2 ∷ 1 ∷ []))) ∷ (0xc0 ∷ (version 2 ++ (3 ∷ 1 ∷ 1 ∷ 1 ∷ 2 ∷ 1 ∷ 1 ∷ []))) ∷ [])
      ≡ none ∷ none ∷ none ∷ none ∷ none ∷ none ∷ Ok (header_of OtherVersion 2 (part_of 6 3) (part_of 10 2) (part_of 12 0) 12 12) ∷ []
  pub torn_zero : map next_of ((0x80 ∷ (version 0 ++ (3 ∷ 1 ∷ 1 ∷ []))) ∷ (0x80 ∷ (version 0 ++ (0 ∷ 9 ∷ 1 ∷ 1 ∷ 1 ∷ 1 ∷ []))) ∷ []) ≡ none ∷ none ∷ []
  pub torn_one : map next_of ((0xc0 ∷ (version 1 ++ (3 ∷ 1 ∷ 1 ∷ []))) ∷ (0xf0 ∷ (version 1 ++ (0 ∷ 20 ∷ zeros 19))) ∷ []) ≡ none ∷ none ∷ []
  -- "Version 0: Version Negotiation; [..] the remainder is one or more whole 4-byte versions, else 110": none, 4 and 8 bytes, 12, and all that are no whole ones between
  pub not_versions : map (λ n. next_of (negotiation n)) (0 ∷ 1 ∷ 2 ∷ 3 ∷ 5 ∷ 6 ∷ 7 ∷ 9 ∷ 10 ∷ 11 ∷ []) ≡ replicate 10 none
  pub versions : map (λ n. next_of (negotiation n)) (4 ∷ 8 ∷ 12 ∷ [])
      ≡ map (λ end. Ok (header_of VersionNegotiation 0 (part_of 6 3) (part_of 10 2) (part_of 12 0) 12 end)) (16 ∷ 20 ∷ 24 ∷ [])
  -- "ID lengths 0 to 255": 21 bytes; a length byte 0x40, which is 64 and no number on the wire; 255; and no bit but the top one is asked of the first byte
  pub long_ids : map next_of (long 0x80 (version 0) 0 0 (zeros 4) ∷ long 0xff (version 0) 21 21 (zeros 4) ∷ long 0x80 (version 0) 0x40 0x41 (zeros 4) ∷ long 0xc0 (version 0) 255 255 (zeros 4) ∷ [])
      ≡ Ok (header_of VersionNegotiation 0 (part_of 6 0) (part_of 7 0) (part_of 7 0) 7 11) ∷ Ok (header_of VersionNegotiation 0 (part_of 6 21) (part_of 28 21) (part_of 49 0) 49 53)
      ∷ Ok (header_of VersionNegotiation 0 (part_of 6 64) (part_of 71 65) (part_of 136 0) 136 140) ∷ Ok (header_of VersionNegotiation 0 (part_of 6 255) (part_of 262 255) (part_of 517 0) 517 521) ∷ []
  -- "Bits 0x30: 0 Initial, 1 0-RTT, 2 Handshake, 3 Retry", whatever the four bits below them
  pub types : map next_of (version_one 0xc0 (0 ∷ 20 ∷ zeros 20) ∷ version_one 0xd1 (20 ∷ zeros 20) ∷ version_one 0xee (20 ∷ zeros 20) ∷ version_one 0xff (zeros 16) ∷ [])
      ≡ packet Initial 21 0 22 42 ∷ packet ZeroRtt 20 0 21 41 ∷ packet Handshake 20 0 21 41 ∷ packet Retry 20 0 20 36 ∷ []
  -- "bit 0x40 must be set"
  pub fixed : map next_of (version_one 0x80 (0 ∷ 20 ∷ zeros 20) ∷ version_one 0x91 (20 ∷ zeros 20) ∷ version_one 0xae (20 ∷ zeros 20) ∷ version_one 0xbf (zeros 16) ∷ []) ≡ none ∷ none ∷ none ∷ none ∷ []
  -- "ID lengths are 0 to 20": the destination's and the source's, each 0, 20, 21
  pub ids : map next_of (long 0xe0 (version 1) 0 0 (20 ∷ zeros 20) ∷ long 0xe0 (version 1) 20 0 (20 ∷ zeros 20) ∷ long 0xe0 (version 1) 21 0 (20 ∷ zeros 20) ∷ long 0xe0 (version 1) 0 20 (20 ∷ zeros 20) ∷ long 0xe0 (version 1) 0 21 (20 ∷ zeros 20) ∷ long 0xe0 (version 1) 20 20 (20 ∷ zeros 20) ∷ [])
      ≡ Ok (header_of Handshake 1 (part_of 6 0) (part_of 7 0) (part_of 7 0) 8 28) ∷ Ok (header_of Handshake 1 (part_of 6 20) (part_of 27 0) (part_of 27 0) 28 48) ∷ none
      ∷ Ok (header_of Handshake 1 (part_of 6 0) (part_of 7 20) (part_of 27 0) 28 48) ∷ none ∷ Ok (header_of Handshake 1 (part_of 6 20) (part_of 27 20) (part_of 47 0) 48 68) ∷ []
  pub ids_retry : map next_of (long 0xf0 (version 1) 20 20 (zeros 16) ∷ long 0xf0 (version 1) 21 20 (zeros 16) ∷ long 0xf0 (version 1) 20 21 (zeros 16) ∷ long 0xf0 (version 1) 0x40 0 (zeros 16) ∷ [])
      ≡ Ok (header_of Retry 1 (part_of 6 20) (part_of 27 20) (part_of 47 0) 47 63) ∷ none ∷ none ∷ none ∷ []
  pub ids_initial : map next_of (long 0xc0 (version 1) 20 20 (0 ∷ 20 ∷ zeros 20) ∷ long 0xc0 (version 1) 21 20 (0 ∷ 20 ∷ zeros 20) ∷ long 0xc0 (version 1) 20 21 (0 ∷ 20 ∷ zeros 20) ∷ [])
      ≡ Ok (header_of Initial 1 (part_of 6 20) (part_of 27 20) (part_of 48 0) 49 69) ∷ none ∷ none ∷ []
  -- "Initial has a token after its length": none, 3 bytes, the same with its length in two bytes ("Longer forms are read everywhere except in a frame's type"); one that passes the end, one that leaves no Length, no length of it
  pub tokens : map (λ rest. next_of (version_one 0xc0 rest)) ((0 ∷ 20 ∷ zeros 20) ∷ (3 ∷ 1 ∷ 1 ∷ 1 ∷ 20 ∷ zeros 20) ∷ (0x40 ∷ 3 ∷ 1 ∷ 1 ∷ 1 ∷ 20 ∷ zeros 20) ∷ (0x40 ∷ 100 ∷ 20 ∷ zeros 20) ∷ (21 ∷ 20 ∷ zeros 20) ∷ [] ∷ (0x40 ∷ []) ∷ [])
      ≡ packet Initial 21 0 22 42 ∷ packet Initial 21 3 25 45 ∷ packet Initial 22 3 26 46 ∷ none ∷ none ∷ none ∷ none ∷ []
  -- "All but Retry have a Length that counts from the packet number; it must be at least 20 [..] and fit": 19, 20 with all its bytes, 20 with bytes after it, 21 with 20 bytes, 21 with 21; cut short
  pub lengths : map (λ rest. next_of (version_one 0xd0 rest)) ((19 ∷ zeros 19) ∷ (19 ∷ zeros 30) ∷ (20 ∷ zeros 20) ∷ (20 ∷ zeros 25) ∷ (21 ∷ zeros 20) ∷ (21 ∷ zeros 21) ∷ [] ∷ (0x40 ∷ []) ∷ [])
      ≡ none ∷ none ∷ packet ZeroRtt 20 0 21 41 ∷ packet ZeroRtt 20 0 21 41 ∷ none ∷ packet ZeroRtt 20 0 21 42 ∷ none ∷ none ∷ []
  pub lengths_initial : map (λ rest. next_of (version_one 0xc0 (1 ∷ 7 ∷ rest))) ((19 ∷ zeros 20) ∷ (20 ∷ zeros 20) ∷ (20 ∷ zeros 25) ∷ (21 ∷ zeros 20) ∷ []) ≡ none ∷ packet Initial 21 1 23 43 ∷ packet Initial 21 1 23 43 ∷ none ∷ []
  pub lengths_handshake : map (λ rest. next_of (version_one 0xe0 rest)) ((19 ∷ zeros 20) ∷ (20 ∷ zeros 20) ∷ (20 ∷ zeros 25) ∷ (21 ∷ zeros 20) ∷ []) ≡ none ∷ packet Handshake 20 0 21 41 ∷ packet Handshake 20 0 21 41 ∷ none ∷ []
  -- the same in two, four and eight bytes; 2^62-1 does not fit
  pub lengths_padded : map (λ rest. next_of (version_one 0xe0 rest)) ((0x40 ∷ 20 ∷ zeros 20) ∷ (0x40 ∷ 19 ∷ zeros 20) ∷ (0x80 ∷ 0 ∷ 0 ∷ 20 ∷ zeros 20) ∷ (0xc0 ∷ 0 ∷ 0 ∷ 0 ∷ 0 ∷ 0 ∷ 0 ∷ 20 ∷ zeros 20) ∷ (0xc0 ∷ 0 ∷ 0 ∷ 0 ∷ 0 ∷ 0 ∷ 0 ∷ 21 ∷ zeros 20) ∷ (replicate 8 0xff ++ zeros 20) ∷ [])
      ≡ packet Handshake 20 0 22 42 ∷ none ∷ packet Handshake 20 0 24 44 ∷ packet Handshake 20 0 28 48 ∷ none ∷ none ∷ []
  -- "Retry takes the rest, at least 16 bytes": 15, 16, 17
  pub retries : map (λ n. next_of (version_one 0xf0 (zeros n))) (0 ∷ 15 ∷ 16 ∷ 17 ∷ []) ≡ none ∷ none ∷ packet Retry 20 0 20 36 ∷ packet Retry 20 0 20 37 ∷ []
  -- "Other versions: IDs as for version 0; the rest belongs to that packet", also none; bit 0x40 clear; versions that are 1 in another of the four bytes
  pub others : map next_of (long 0x80 (version 2) 3 2 [] ∷ long 0xc0 (version 2) 3 2 (zeros 1) ∷ long 0xff (0x6b ∷ 0x33 ∷ 0x43 ∷ 0xcf ∷ []) 21 0x40 (zeros 5) ∷ long 0x80 (1 ∷ 0 ∷ 0 ∷ 0 ∷ []) 0 21 [] ∷ long 0x80 (version 255) 255 255 [] ∷ [])
      ≡ Ok (header_of OtherVersion 2 (part_of 6 3) (part_of 10 2) (part_of 12 0) 12 12) ∷ Ok (header_of OtherVersion 2 (part_of 6 3) (part_of 10 2) (part_of 12 0) 12 13)
      ∷ Ok (header_of OtherVersion 0x6b3343cf (part_of 6 21) (part_of 28 64) (part_of 92 0) 92 97) ∷ Ok (header_of OtherVersion 0x01000000 (part_of 6 0) (part_of 7 21) (part_of 28 0) 28 28)
      ∷ Ok (header_of OtherVersion 255 (part_of 6 255) (part_of 262 255) (part_of 517 0) 517 517) ∷ []
  -- "Top bit 0: short. Bit 0x40 set, 8-byte connection ID, then at least 20 bytes, to the end": 28 bytes in all, 29, 41; the other bits of the first byte are not looked at
  pub shorts : map next_of ((0x40 ∷ zeros 27) ∷ (0x40 ∷ zeros 28) ∷ (0x7f ∷ zeros 40) ∷ (0x00 ∷ zeros 28) ∷ (0x3f ∷ zeros 40) ∷ (0x40 ∷ []) ∷ [])
      ≡ none ∷ Ok (header_of OneRtt 1 (part_of 1 8) (part_of 9 0) (part_of 9 0) 9 29) ∷ Ok (header_of OneRtt 1 (part_of 1 8) (part_of 9 0) (part_of 9 0) 9 41) ∷ none ∷ none ∷ none ∷ []
