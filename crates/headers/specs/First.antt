-- What the plain first byte of a packet tells, RFC 9000 17.2 and 17.3; docs/RULES.md, "Taking a packet": "the plain first byte (it tells the kind)".
use Rattle.std.specs.Prelude.{ℕ, ◌/◌, ◌%◌, Bool, not, eqb, Option, Some, None}
use Rattle.answers.specs.Choice.{◌⇒◌∣◌}
use Rattle.kinds.specs.declared.Kind.TheVariants.{Initial, Handshake, ZeroRtt, OneRtt}
use Rattle.numbers.specs.declared.Size.{Size}
use Rattle.numbers.specs.declared.Size.TheVariants.{One, Two, Three, Four}
use Rattle.kinds.specs.declared.Kind.{Kind}

-- bit 0x40 is set; top bit 0 is the short header of 1-RTT; else bits 0x30: 0 Initial, 1 0-RTT, 2 Handshake, and 3, Retry, has no frames
unfoldable pub header_of : ℕ → Option Kind
header_of first =
    eqb (first / 0x40 % 2) 0 ⇒ None
    ∣ eqb (first / 0x80) 0 ⇒ Some OneRtt
    ∣ eqb (first / 0x10 % 4) 0 ⇒ Some Initial
    ∣ eqb (first / 0x10 % 4) 1 ⇒ Some ZeroRtt
    ∣ eqb (first / 0x10 % 4) 2 ⇒ Some Handshake
    ∣ None

-- "The low two bits of the plain first byte, plus one, give the length of the number"
unfoldable pub size_in : ℕ → Size
size_in first =
    eqb (first % 4) 0 ⇒ One
    ∣ eqb (first % 4) 1 ⇒ Two
    ∣ eqb (first % 4) 2 ⇒ Three
    ∣ Four

-- "reserved bits not zero (0x0c long, 0x18 short)"
unfoldable pub reserved_of : ℕ → Bool
reserved_of first =
    eqb (first / 0x80) 0 ⇒ not (eqb (first / 8 % 4) 0)
    ∣ not (eqb (first / 4 % 4) 0)
