-- The bytes that a stream holds, docs/RULES.md, "Ordered bytes": the byte at the place p has the slot p % 4096 of the ring; it is held where p is from `read` up to `held` and its mark is set.
-- Whether a frame fits, and whether it contradicts what is held.
use Rattle.std.specs.Prelude.{ℕ, ◌+◌, ◌%◌, ◌^◌, Bool, false, not, ◌&&◌, List, length, get_or, ltb, leb, eqb}
use Rattle.answers.specs.Choice.{◌⇒◌∣◌}
use Rattle.places.specs.Places.{marked, within}
use Rattle.seams.specs.Seam.{some}

-- what is held at a place: nothing, or a byte
pub data Held : Type 0 where
  nothing : Held
  byte : ℕ → Held

-- what is held at the place p
unfoldable pub held_at : List ℕ → List ℕ → ℕ → ℕ → ℕ → Held
held_at ring marks read held p =
    within read held p && marked marks p ⇒ byte (get_or ring (p % 4096) 0)
    ∣ nothing

-- a byte b that comes for a place contradicts what is held there
abbrev pub contradicts : Held → ℕ → Bool
contradicts nothing b = false
contradicts (byte a) b = not (eqb a b)

-- some byte of the frame, len bytes of s from `from` on at the places from `offset` on, contradicts what is held
unfoldable pub clash_of : (ℕ → Held) → List ℕ → ℕ → ℕ → ℕ → Bool
clash_of h s from len offset = some len (λ k. contradicts (h (offset + k)) (get_or s (from + k) 0))

-- 4,096 bytes and 64 words, of which no place is held or comes above the ring, a frame that is in s, and a place to read from that a stream can have
unfoldable pub room_for : List ℕ → List ℕ → ℕ → ℕ → List ℕ → ℕ → ℕ → ℕ → Bool
room_for ring marks read held s from len offset =
    eqb (length ring) 4096 && (eqb (length marks) 64 && (leb held (read + 4096) && (leb (offset + len) (read + 4096) && (leb (from + len) (length s) && ltb read (2 ^ 62)))))

-- it fits, and contradicts what is held
unfoldable pub clashes_in : List ℕ → List ℕ → ℕ → ℕ → List ℕ → ℕ → ℕ → ℕ → Bool
clashes_in ring marks read held s from len offset = room_for ring marks read held s from len offset && clash_of (held_at ring marks read held) s from len offset
