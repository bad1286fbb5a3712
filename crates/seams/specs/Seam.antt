-- Bytes of a ring at places that follow one another, docs/RULES.md, "Ordered bytes": the byte of the place p has the slot p % 4096.
-- The ring after some were stored, whether some are the same, and some read.
use Rattle.std.specs.Prelude.{ℕ, zero, suc, ◌+◌, ◌-◌, ◌%◌, Bool, false, not, ◌&&◌, ◌||◌, List, length, get_or, leb, eqb}
use Rattle.std.proofs.lemmas.List.Edits.{sets}
use Rattle.answers.specs.Choice.{◌⇒◌∣◌}
use Rattle.ring.specs.Words.{list_of}
use Rattle.places.specs.Places.{within, place_of}

-- a ring of this size has 4,096 bytes, n places are not more, and as many other bytes as `others` have n from j on
unfoldable pub fit_of : ℕ → ℕ → ℕ → ℕ → Bool
fit_of size others j n = eqb size 4096 && (leb n 4096 && leb (j + n) others)

-- the ring with the byte b p at each of the 4,096 places p from `read` on
unfoldable pub bytes_of : ℕ → (ℕ → ℕ) → List ℕ
bytes_of read b = list_of 4096 (λ i. b (place_of read i))

-- the ring after n bytes of s, from j on, were stored at the places from `at` on
unfoldable pub stored_of : List ℕ → ℕ → List ℕ → ℕ → ℕ → List ℕ
stored_of ring at s j n =
    fit_of (length ring) (length s) j n ⇒ bytes_of at (λ p. within at (at + n) p ⇒ get_or s (j + (p - at)) 0 ∣ get_or ring (p % 4096) 0)
    ∣ ring

-- some number below n has the property f
unfoldable pub some : ℕ → (ℕ → Bool) → Bool
some zero f = false
some (suc n) f = f n || some n f

-- the bytes of the ring at the n places from `at` on are those of s from j on
unfoldable pub same_of : List ℕ → ℕ → List ℕ → ℕ → ℕ → Bool
same_of ring at s j n = fit_of (length ring) (length s) j n && not (some n (λ k. not (eqb (get_or ring ((at + k) % 4096) 0) (get_or s (j + k) 0))))

-- the bytes at the n places from `read` on
unfoldable pub read_of : List ℕ → ℕ → ℕ → List ℕ
read_of ring read n = list_of n (λ k. get_or ring ((read + k) % 4096) 0)

-- the output with them at its front
unfoldable pub taken_out : List ℕ → List ℕ → ℕ → ℕ → List ℕ
taken_out ring out read n =
    fit_of (length ring) (length out) 0 n ⇒ sets out 0 (read_of ring read n)
    ∣ out
