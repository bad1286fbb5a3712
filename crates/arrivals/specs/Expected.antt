-- docs/RULES.md, "Packet numbers": "with E one above the largest number recorded (0 if none)". Of every packet that passes the checks before its frames: its number is what its bytes stand for with this E of its own space's record.
use Rattle.std.specs.Prelude.{ℕ, ◌-◌, ◌<◌, ◌≡◌, Bool, true, false, List, length, Some, Ok}
use Rattle.answers.specs.declared.Answer.TheVariants.{Accepted}
use Rattle.wire.specs.Number.{big_endian}
use Rattle.numbers.specs.Numbers.{bytes_in, recovered_of}
use Rattle.headers.specs.First.{header_of, size_in}
use Rattle.records.specs.declared.Record.{Record}
use Rattle.records.specs.Marks.{recorded, test_of}
use Rattle.streams.specs.declared.Conn.{Conn}
use Rattle.kinds.specs.Kinds.{space_of}
use Rattle.spaces.specs.declared.Records.{Records}
use Rattle.spaces.specs.Spaces.{record_of}
use Rattle.packets.specs.declared.Begun.{Begun}
use Rattle.packets.specs.Begin.{begin_of}

-- E is "one above the largest number recorded (0 if none)"
pub record OneAbove (R : Record) (E : ℕ) : Type 0 where
  pub above_all : (m : ℕ) → recorded R m ≡ true → m < E
  pub is_recorded : 0 < E → recorded R (E - 1) ≡ true
  pub if_none : E ≡ 0 → (m : ℕ) → recorded R m ≡ false

-- how a packet begins that passes: the record is that of its space
pub record Numbered (rs : Records) (first : ℕ) (s : List ℕ) (begun : Begun) : Type 0 where
  -- "the plain first byte (it tells the kind)"
  pub kind : header_of first ≡ Some begun.kind
  -- "The low two bits of the plain first byte, plus one, give the length of the number": its bytes are there, and the frames stand behind them
  pub there : bytes_in (size_in first) < length s
  pub behind : begun.at ≡ bytes_in (size_in first)
  pub E : ℕ
  pub one_above : OneAbove (record_of rs (space_of begun.kind)) E
  pub number : recovered_of E (size_in first) (big_endian s 0 (bytes_in (size_in first))) ≡ Ok begun.number
  -- and it is neither below the record nor in it
  pub new : test_of (record_of rs (space_of begun.kind)) begun.number ≡ Accepted

abbrev pub Expected : Type 0
Expected = (c : Conn) (rs : Records) (fits : Bool) (first : ℕ) (s : List ℕ) → (begin_of c rs fits first s).answer ≡ Accepted → Numbered rs first s (begin_of c rs fits first s)
