-- How far a truncated number may be trusted (RFC 9000, 17.1, A.2, A.3; docs/RULES.md, "Packet numbers"). For the lecture, why twice the distance has to fit into 256^n: numbers that end in the same n bytes stand 256^n
-- apart and a receiver takes the one nearest to the number it expects, which lies above the acknowledged number and not above the one sent, so if these two are at most half of 256^n apart, no other number with the same
-- bytes is as near as the right one.
use Rattle.std.specs.Prelude.{ℕ, ◌+◌, ◌/◌, ◌%◌, ◌^◌, ◌≤◌, ◌<◌, ◌≡◌, ℤ, pos, negsuc, Ok}
use Rattle.numbers.specs.declared.Size.{Size}
use Rattle.numbers.specs.Numbers.{window_of, recovered_of, length_of}

-- one above the acknowledged number: 0 before any (-1), so that no difference is below 0
abbrev pub one_above : ℤ → ℕ
one_above (pos a) = a + 1
one_above (negsuc k) = 0

-- where a receiver stands that is sent pn, by E: one above the largest number that it has recorded, 0 if there is none
pub data Receiver (pn : ℕ) (acked : ℤ) (size : Size) (E : ℕ) : Type 0 where
  -- its largest number is at least the acknowledged one and below the number sent
  Behind : one_above acked ≤ E → E ≤ pn → Receiver pn acked size E
  -- or it is ahead: its largest plus one exceeds the number sent by less than half of 256^n
  Ahead : pn < E → E < pn + window_of size / 2 → Receiver pn acked size E

-- every such receiver recovers exactly the number from its low n bytes, where n is the length to send
abbrev pub Trusted : Type 0
Trusted = (pn : ℕ) (acked : ℤ) (size : Size) (E : ℕ) → length_of pn acked ≡ Ok size → Receiver pn acked size E → recovered_of E size (pn % window_of size) ≡ Ok pn

-- and no receiver that is ahead by half of 256^n itself: it takes the next number with these bytes, wherever that is a packet number
abbrev pub Misled : Type 0
Misled = (pn : ℕ) (size : Size) → pn + window_of size < 2 ^ 62 → recovered_of (pn + window_of size / 2) size (pn % window_of size) ≡ Ok (pn + window_of size)
