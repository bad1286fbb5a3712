-- Numbers in a row: their shortest forms one after the other; with one above 2^62-1 among them, 109.
use Rattle.std.specs.Prelude.{◌≡◌, ℕ, ◌+◌, ◌-◌, ◌^◌, Bool, true, not, ◌&&◌, List, [], ◌∷◌, ◌++◌, leb, Some}
use Rattle.answers.specs.Choice.{◌⇒◌∣◌}
use Rattle.answers.specs.declared.Answer.TheVariants.{Unwritable}
use Rattle.wire.specs.Number.{number_at, bytes_of, size_of}
use Rattle.wire.specs.Writing.{Draft, Bytes, Never}

-- none is above 2^62-1
unfoldable pub in_range : List ℕ → Bool
in_range [] = true
in_range (v ∷ vs) = leb v (2 ^ 62 - 1) && in_range vs

-- how many bytes they have
unfoldable pub size_all : List ℕ → ℕ
size_all [] = 0
size_all (v ∷ vs) = size_of v + size_all vs

-- their bytes
unfoldable pub bytes_all : List ℕ → List ℕ
bytes_all [] = []
bytes_all (v ∷ vs) = bytes_of v ++ bytes_all vs

-- a row of numbers, all of it or nothing
unfoldable pub row_draft : List ℕ → Draft
row_draft vs =
    not (in_range vs) ⇒ Never Unwritable
    ∣ Bytes (bytes_all vs)

-- the numbers of a list are read one after the other from a place on, up to n
abbrev pub ReadAs : List ℕ → ℕ → List ℕ → ℕ → Type 0
ReadAs s at [] n = at ≡ n
ReadAs s at (v ∷ vs) n = (next : ℕ) × (number_at s at ≡ Some (v, next)) × ReadAs s next vs n
