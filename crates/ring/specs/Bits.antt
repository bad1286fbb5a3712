-- A ring of 128 words, a bit for each of 8,192 numbers that follow one another (docs/RULES.md, "The record of a space").
use Rattle.std.specs.Prelude.{ℕ, zero, suc, ◌+◌, ◌/◌, ◌%◌, ◌^◌, Bool, true, false, ◌&&◌, List, get_or, ltb, leb, eqb}

-- a test as a bit
abbrev pub as_bit : Bool → ℕ
as_bit true = 1
as_bit false = 0

-- the bit i of a word
unfoldable pub bit : ℕ → ℕ → ℕ
bit w i = w / 2 ^ i % 2

-- the bit of the number m in a ring of 128 words
unfoldable pub bit_at : List ℕ → ℕ → ℕ
bit_at ws m = bit (get_or ws (m / 64 % 128) 0) (m % 64)

-- the bit of the number m says v: that it came, or that it is missing
abbrev pub alike : List ℕ → Bool → ℕ → Bool
alike ws v m = eqb (bit_at ws m) (as_bit v)

-- the number m is among the 8,192 numbers below T, and its bit is set
abbrev pub marked : List ℕ → ℕ → ℕ → Bool
marked ws T m = ltb m T && (leb T (m + 8192) && eqb (bit_at ws m) 1)

-- no slot is marked from p on, for k slots
unfoldable pub unmarked : List ℕ → ℕ → ℕ → Bool
unmarked ws p zero = true
unmarked ws p (suc k) = eqb (bit_at ws p) 0 && unmarked ws (suc p) k
