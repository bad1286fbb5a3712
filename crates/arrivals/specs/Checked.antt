-- docs/RULES.md, "Taking a packet": "The order of checks", of every packet on a connection that is open and fits with its records: each check by what it looks at, whatever those after it would find; and a packet that passes them all goes on to its frames.
use Rattle.std.specs.Prelude.{ℕ, ◌≤◌, ◌<◌, ◌≡◌, true, false, List, length, Some, None, Result, Ok, Err}
use Rattle.answers.specs.Answers.{accepts}
use Rattle.answers.specs.declared.Answer.{Answer}
use Rattle.answers.specs.declared.Answer.TheVariants.{Accepted, ProtocolViolation}
use Rattle.answers.specs.declared.Answer.TheVariants as Answer'
use Rattle.wire.specs.Number.{big_endian}
use Rattle.kinds.specs.declared.Kind.{Kind}
use Rattle.numbers.specs.Numbers.{bytes_in, recovered_of}
use Rattle.headers.specs.First.{header_of, size_in, reserved_of}
use Rattle.records.specs.declared.Record.{Record}
use Rattle.records.specs.Marks.{test_of}
use Rattle.streams.specs.declared.Conn.{Conn}
use Rattle.streams.specs.Conn.{is_open}
use Rattle.kinds.specs.Kinds.{space_of}
use Rattle.spaces.specs.declared.Records.{Records}
use Rattle.spaces.specs.Spaces.{record_of, records_fit}
use Rattle.packets.specs.Begin.{begin_of}

-- the number that a packet's first bytes stand for, by the record of its space
abbrev pub numbered : Record → ℕ → List ℕ → Result ℕ Answer
numbered R first s = recovered_of R.top (size_in first) (big_endian s 0 (bytes_in (size_in first)))

-- a packet of a kind, by its first byte and the bytes after it
pub record OfKind (c : Conn) (rs : Records) (first : ℕ) (s : List ℕ) (kind : Kind) : Type 0 where
  -- "fewer bytes than the number's length 110"
  pub too_short : length s < bytes_in (size_in first) → (begin_of c rs true first s).answer ≡ Answer'.NoPacket
  -- "111"
  pub no_number : bytes_in (size_in first) ≤ length s → (answer : Answer) → numbered (record_of rs (space_of kind)) first s ≡ Err answer → (begin_of c rs true first s).answer ≡ answer
  -- "106; 107", whatever the reserved bits, and with frames or none
  pub not_new : bytes_in (size_in first) ≤ length s → (n : ℕ) → numbered (record_of rs (space_of kind)) first s ≡ Ok n → accepts (test_of (record_of rs (space_of kind)) n) ≡ false → (begin_of c rs true first s).answer ≡ test_of (record_of rs (space_of kind)) n
  -- "reserved bits not zero [..] code 10"
  pub reserved : bytes_in (size_in first) ≤ length s → (n : ℕ) → numbered (record_of rs (space_of kind)) first s ≡ Ok n → test_of (record_of rs (space_of kind)) n ≡ Accepted → reserved_of first ≡ true → (begin_of c rs true first s).answer ≡ ProtocolViolation
  -- "no frames code 10"
  pub no_frames : bytes_in (size_in first) ≡ length s → (n : ℕ) → numbered (record_of rs (space_of kind)) first s ≡ Ok n → test_of (record_of rs (space_of kind)) n ≡ Accepted → (begin_of c rs true first s).answer ≡ ProtocolViolation
  -- "then the frames": they stand behind the number, and nothing has changed
  pub goes_on : bytes_in (size_in first) < length s → (n : ℕ) → numbered (record_of rs (space_of kind)) first s ≡ Ok n → test_of (record_of rs (space_of kind)) n ≡ Accepted → reserved_of first ≡ false
      → begin_of c rs true first s ≡ record { answer = Accepted; conn = c; kind = kind; at = bytes_in (size_in first); number = n }

pub record Checked (c : Conn) (rs : Records) (first : ℕ) (s : List ℕ) : Type 0 where
  -- "Retry, bit 0x40 clear [..] 110"
  pub no_packet : header_of first ≡ None → (begin_of c rs true first s).answer ≡ Answer'.NoPacket
  pub of_kind : (kind : Kind) → header_of first ≡ Some kind → OfKind c rs first s kind

abbrev pub InOrder : Type 0
InOrder = (c : Conn) (rs : Records) (first : ℕ) (s : List ℕ) → is_open c.mark ≡ true → records_fit rs ≡ true → Checked c rs first s
