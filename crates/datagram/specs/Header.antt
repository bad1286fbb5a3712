-- The parts of a header and the bits of its first byte.
use Rattle.std.specs.Prelude.{ℕ, ◌/◌, ◌%◌, ◌^◌, Bool, List, length, get_or, eqb}
use Rattle.invariants.specs.Invariant.{part_of, after}
use Rattle.invariants.specs.declared.Part.{Part}
use Rattle.datagram.specs.declared.Kind.{Kind}
use Rattle.datagram.specs.declared.Header.{Header}

-- whether the bit 2^k of a byte is set
abbrev pub bit : ℕ → ℕ → Bool
bit k b = eqb (b / 2 ^ k % 2) 1

abbrev pub first_of : List ℕ → ℕ
first_of s = get_or s 0 0

-- the type of a long header of version 1: bits 0x30 of its first byte
abbrev pub type_of : List ℕ → ℕ
type_of s = first_of s / 16 % 4

abbrev pub header_of : Kind → ℕ → Part → Part → Part → ℕ → ℕ → Header
header_of kind version destination source token number end =
    record { kind = kind; version = version; destination = destination; source = source; token = token; number = number; end = end }

-- a header after whose IDs all the rest belongs to the packet
abbrev pub whole_of : List ℕ → Kind → ℕ → Part → Part → Header
whole_of s kind version destination source =
    header_of kind version destination source (part_of (after source) 0) (after source) (length s)
