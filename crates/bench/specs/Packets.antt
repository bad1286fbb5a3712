-- The rules of a packet before its frames at their borders: they hold the definitions to docs/RULES.md. Beside each, its sentence.
use Rattle.std.specs.Prelude.{ℕ, ◌≡◌, true, false, List, [], ◌∷◌, map, Some, None}
use Rattle.kinds.specs.declared.Role.TheVariants.{Server}
use Rattle.answers.specs.Answers.{number_of}
use Rattle.kinds.specs.declared.Kind.TheVariants.{Initial, Handshake, ZeroRtt, OneRtt}
use Rattle.numbers.specs.declared.Size.TheVariants.{One, Two, Three, Four}
use Rattle.records.specs.declared.Record.{Record}
use Rattle.records.specs.Marks.{none_of}
use Rattle.records.specs.Ring.{taken_of}
use Rattle.streams.specs.declared.Mark.TheVariants.{Open}
use Rattle.opening.specs.Opening.{opened_conn}
use Rattle.streams.specs.Small.{small}
use Rattle.headers.specs.First.{header_of, size_in, reserved_of}
use Rattle.headers.specs.Said.{header_says}
use Rattle.packets.specs.Begin.{in_space_of}

-- the record that holds 5 alone
abbrev pub only5 : Record
only5 = (taken_of none_of 5).«record»

-- the answers to some 1-RTT packets before their frames, each a first byte and the bytes after it, where 5 was recorded
abbrev pub begun : List (ℕ × List ℕ) → List ℕ
begun l = map (λ p. number_of (in_space_of (opened_conn Server small Open) only5 OneRtt p.0 p.1).answer) l

pub record Packets : Type 0 where
  -- "the plain first byte (it tells the kind)": long with bits 0x30, short; Retry and bit 0x40 clear are none
  pub kinds : map header_of (0xc0 ∷ 0xd0 ∷ 0xe0 ∷ 0xf0 ∷ 0x80 ∷ 0x40 ∷ 0x7f ∷ 0x00 ∷ [])
      ≡ Some Initial ∷ Some ZeroRtt ∷ Some Handshake ∷ None ∷ None ∷ Some OneRtt ∷ Some OneRtt ∷ None ∷ []
  -- whatever the bits below them; and the answer's number: "Retry, bit 0x40 clear [..] 110"
  pub kinds_below : map header_of (0xcf ∷ 0xdf ∷ 0xef ∷ 0xff ∷ 0xbf ∷ 0x3f ∷ []) ≡ Some Initial ∷ Some ZeroRtt ∷ Some Handshake ∷ None ∷ None ∷ None ∷ []
  pub kinds_said : map (λ (first : ℕ). (header_says (header_of first)).number) (0x40 ∷ 0xc0 ∷ 0xf0 ∷ 0x80 ∷ 0x00 ∷ []) ≡ 0 ∷ 0 ∷ 110 ∷ 110 ∷ 110 ∷ []
  -- "The low two bits of the plain first byte, plus one, give the length of the number"
  pub sizes : map size_in (0x40 ∷ 0x41 ∷ 0x42 ∷ 0x43 ∷ 0xfc ∷ []) ≡ One ∷ Two ∷ Three ∷ Four ∷ One ∷ []
  -- "reserved bits not zero (0x0c long, 0x18 short)"; key phase and spin bit of a short header are free
  pub reserved : map reserved_of (0xc0 ∷ 0xc4 ∷ 0xc8 ∷ 0xf3 ∷ 0x40 ∷ 0x48 ∷ 0x50 ∷ 0x44 ∷ 0x60 ∷ []) ≡ false ∷ true ∷ true ∷ false ∷ false ∷ true ∷ true ∷ false ∷ false ∷ []
  -- "fewer bytes than the number's length 110; [..] 107; reserved bits not zero [..] code 10; no frames code 10; then the frames"
  pub order : begun ((0x41, 0 ∷ []) ∷ (0x40, 5 ∷ []) ∷ (0x58, 5 ∷ []) ∷ (0x58, 6 ∷ 1 ∷ []) ∷ (0x40, 6 ∷ []) ∷ (0x40, 6 ∷ 1 ∷ []) ∷ []) ≡ 110 ∷ 107 ∷ 107 ∷ 10 ∷ 10 ∷ 0 ∷ []
