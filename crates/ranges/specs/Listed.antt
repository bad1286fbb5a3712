-- The ranges of an ACK frame as a list of numbers, Gap and ACK Range Length in turn: their contents, wherever and in whatever forms they stand.
use Rattle.std.specs.Prelude.{ℕ, zero, suc, ◌+◌, ◌-◌, Bool, true, false, ◌&&◌, List, [], ◌∷◌, leb}
use Rattle.wire.specs.Number.{number_at, with_number}

-- n numbers on the wire from a place on, or as many as are there
unfoldable pub listed : List ℕ → ℕ → ℕ → List ℕ
listed s at zero = []
listed s at (suc n) = with_number (number_at s at) [] (λ v next. v ∷ listed s next n)

-- whether a list is that of k ranges below a range whose smallest number is low, none of them below 0
unfoldable pub fits : ℕ → ℕ → List ℕ → Bool
fits low zero [] = true
fits low zero (v ∷ l) = false
fits low (suc k) [] = false
fits low (suc k) (gap ∷ []) = false
fits low (suc k) (gap ∷ len ∷ l) = leb (gap + 2 + len) low && fits (low - (gap + 2 + len)) k l
