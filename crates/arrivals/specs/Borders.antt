-- How far a truncated number may be trusted, computed from both sides of each border: 10,128 sent in one byte after 10,000 was acknowledged, and RFC 9000's own example of two bytes (A.2).
use Rattle.std.specs.Prelude.{ℕ, ◌+◌, ◌-◌, ◌/◌, ◌%◌, ◌^◌, ◌≡◌, true, List, [], ◌∷◌, map, replicate, set, pos, negsuc, Result, Ok}
use Rattle.kinds.specs.declared.Role.TheVariants.{Server}
use Rattle.answers.specs.Answers.{number_of}
use Rattle.kinds.specs.declared.Kind.TheVariants.{OneRtt}
use Rattle.numbers.specs.declared.Size.TheVariants.{One, Two}
use Rattle.numbers.specs.Numbers.{recovered_of, length_of}
use Rattle.records.specs.declared.Record.{Record}
use Rattle.streams.specs.declared.Conn.{Conn}
use Rattle.streams.specs.declared.Mark.TheVariants.{Open}
use Rattle.streams.specs.Small.{small}
use Rattle.spaces.specs.declared.Records.{Records}
use Rattle.packets.specs.Begin.{begin_of}
use Rattle.arrivals.specs.Trusted.{Receiver}
use Rattle.arrivals.specs.Carried.{Sent, carrying}
use Rattle.answers.specs.declared.Answer.{Answer}

-- what 0x90, the low byte of 10,128, stands for with E
abbrev pub by_byte : ℕ → Result ℕ Answer
by_byte E = recovered_of E One 0x90

-- a record that holds one number alone
abbrev pub only : ℕ → Record
only m = record { words = set (replicate 128 0) (m / 64 % 128) (2 ^ (m % 64)); top = m + 1 }

-- three records of that largest number
abbrev pub alike : ℕ → Records
alike m = record { initial = only m; handshake = only m; application = only m }

abbrev pub conn : Conn
conn = record { limits = small; opened = replicate 4 0; total = 0; next = replicate 3 0; mark = Open; role = Server }

-- a 1-RTT packet of that byte and a PING, where m is the largest number recorded: its answer and its number
abbrev pub packet : ℕ → List ℕ
packet m = let begun = begin_of conn (alike m) true 0x40 (0x90 ∷ 0x01 ∷ []) in number_of begun.answer ∷ begun.number ∷ []

pub record Borders : Type 0 where
  -- where a receiver may stand: from one above the acknowledged number on, and less than half of 256 above the number sent
  pub inside : Receiver 10128 (pos 10000) One 10001 × Receiver 10128 (pos 10000) One 10128 × Receiver 10128 (pos 10000) One 10129 × Receiver 10128 (pos 10000) One 10255
  pub outside : (Receiver 10128 (pos 10000) One 10000 → ⊥) × (Receiver 10128 (pos 10000) One 10256 → ⊥)
  pub from_none : Receiver 127 (negsuc 0) One 0
  -- the longest distance that goes in one byte, and the shortest that does not
  pub one_byte : map (λ (pn : ℕ). length_of pn (pos 10000)) (10128 ∷ 10129 ∷ []) ≡ Ok One ∷ Ok Two ∷ []
  -- "at least the acknowledged one and below the number sent": the largest is 10,000, or 10,127
  pub behind : map by_byte (10001 ∷ 10128 ∷ []) ≡ Ok 10128 ∷ Ok 10128 ∷ []
  -- below the acknowledged one the rule has one number to spare, and then misleads
  pub below_acked : map by_byte (10000 ∷ 9999 ∷ []) ≡ Ok 10128 ∷ Ok 9872 ∷ []
  -- "ahead, so long as its largest plus one exceeds the number by less than half": by 1, and by 127
  pub ahead : map by_byte (10129 ∷ 10255 ∷ []) ≡ Ok 10128 ∷ Ok 10128 ∷ []
  -- the border itself does not hold: ahead by 128 it is another number, so no larger bound could be given
  pub half_ahead : by_byte 10256 ≡ Ok 10384
  pub half_misleads : by_byte 10256 ≡ Ok 10128 → ⊥
  -- the same on bytes: at the border a host begins the packet with a number that was not sent
  pub packets : map packet (10000 ∷ 10127 ∷ 10254 ∷ 10255 ∷ []) ≡ (0 ∷ 10128 ∷ []) ∷ (0 ∷ 10128 ∷ []) ∷ (0 ∷ 10128 ∷ []) ∷ (0 ∷ 10384 ∷ []) ∷ []
  -- which are just the packets that are spoken of, in both positions
  pub carried : carrying 10128 0x40 (0x01 ∷ []) ≡ 0x90 ∷ 0x01 ∷ []
  pub met : Sent 10128 (pos 10000) (alike 10000) 0x40 OneRtt × Sent 10128 (pos 10000) (alike 10254) 0x40 OneRtt
  -- one that it holds already is answered 107 of that number
  pub packet_again : packet 10128 ≡ 107 ∷ 0 ∷ []
  -- nothing acknowledged, nothing recorded; and the last number of all, where it is recorded already
  pub first : (length_of 127 (negsuc 0) ≡ Ok One) × (recovered_of 0 One 127 ≡ Ok 127)
  pub last : (length_of (2 ^ 62 - 1) (pos (2 ^ 62 - 2)) ≡ Ok One) × (recovered_of (2 ^ 62) One 0xff ≡ Ok (2 ^ 62 - 1))
  -- RFC 9000, A.2: with 0xabe8b3 acknowledged, 0xac5c02 goes in two bytes
  pub two_bytes : length_of 0xac5c02 (pos 0xabe8b3) ≡ Ok Two
  pub two_behind : map (λ (E : ℕ). recovered_of E Two 0x5c02) (0xabe8b4 ∷ 0xac5c02 ∷ []) ≡ Ok 0xac5c02 ∷ Ok 0xac5c02 ∷ []
  pub two_ahead : map (λ (E : ℕ). recovered_of E Two 0x5c02) ((0xac5c02 + 2 ^ 15 - 1) ∷ (0xac5c02 + 2 ^ 15) ∷ []) ≡ Ok 0xac5c02 ∷ Ok 0xad5c02 ∷ []
