-- The fields that no frame may have, docs/RULES.md, "Fields that give 7"; an ACK's runs are judged where they are read.
use Rattle.std.specs.Prelude.{ℕ, ◌+◌, ◌-◌, ◌/◌, ◌^◌, Bool, true, false, ltb, eqb}
use Rattle.answers.specs.Choice.{◌⇒◌∣◌}

-- an end above 2^62-1
unfoldable pub above_of : ℕ → ℕ → Bool
above_of offset len = ltb (2 ^ 62 - 1) (offset + len)

-- more streams of a type than 2^60
unfoldable pub too_many : ℕ → Bool
too_many n = ltb (2 ^ 60) n

-- a connection ID with a length outside 1 to 20, or Retire Prior To above the sequence number
unfoldable pub misissued_of : ℕ → ℕ → ℕ → Bool
misissued_of sequence retire len =
    ltb len 1 ⇒ true
    ∣ ltb 20 len ⇒ true
    ∣ ltb sequence retire

-- by the type, its first two numbers and the length of its bytes
unfoldable pub fault_of : ℕ → ℕ → ℕ → ℕ → Bool
fault_of ty a b len =
    -- STREAM (0x08 to 0x0f) and CRYPTO: offset plus length above 2^62-1
    eqb (ty / 8) 1 ⇒ above_of b len
    ∣ eqb ty 0x06 ⇒ above_of a len
    -- an empty NEW_TOKEN token
    ∣ eqb ty 0x07 ⇒ eqb len 0
    -- MAX_STREAMS and STREAMS_BLOCKED above 2^60
    ∣ eqb ty 0x12 ⇒ too_many a
    ∣ eqb ty 0x13 ⇒ too_many a
    ∣ eqb ty 0x16 ⇒ too_many a
    ∣ eqb ty 0x17 ⇒ too_many a
    -- NEW_CONNECTION_ID
    ∣ eqb ty 0x18 ⇒ misissued_of a b len
    ∣ false
