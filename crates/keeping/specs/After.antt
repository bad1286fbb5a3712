-- The bytes and the marks after a frame was kept, docs/RULES.md, "Ordered bytes": those of its places that were not read yet, and no others.
use Rattle.std.specs.Prelude.{ℕ, ◌+◌, ◌-◌, ◌%◌, Bool, true, false, List, get_or}
use Rattle.answers.specs.Choice.{◌⇒◌∣◌}
use Rattle.places.specs.Places.{marked, within, marks_of}
use Rattle.seams.specs.Seam.{bytes_of}

-- the ring after a frame was kept: the frame's bytes at its places from `read` on, and the others as they were
unfoldable pub ring_after : List ℕ → ℕ → List ℕ → ℕ → ℕ → ℕ → List ℕ
ring_after ring read s from len offset = bytes_of read (λ p.
    within offset (offset + len) p ⇒ get_or s (from + (p - offset)) 0
    ∣ get_or ring (p % 4096) 0)

-- the marks after it: the frame's places are marked, those that it jumped over are not, and the others are as they were
unfoldable pub mark_after : List ℕ → ℕ → ℕ → ℕ → ℕ → Bool
mark_after marks held len offset p =
    within offset (offset + len) p ⇒ true
    ∣ within held offset p ⇒ false
    ∣ marked marks p

unfoldable pub marks_after : List ℕ → ℕ → ℕ → ℕ → ℕ → List ℕ
marks_after marks read held len offset = marks_of read (mark_after marks held len offset)
