-- A row of the listing: place, type, code and total in decimal, a blank (32) after each but the last, and a newline (10) after that. A type that could not be read is a dash (45).
use Rattle.std.specs.Prelude.{ℕ, List, [], ◌∷◌, ◌++◌, Option, Some, None}
use Rattle.text.specs.Decimal.{decimal_of}

-- a number and the byte after it
unfoldable pub field_of : ℕ → ℕ → List ℕ
field_of n behind = decimal_of n ++ (behind ∷ [])

-- a type
unfoldable pub type_text : Option ℕ → List ℕ
type_text (Some ty) = decimal_of ty
type_text None = 45 ∷ []

-- a type and the blank after it
unfoldable pub type_field : Option ℕ → List ℕ
type_field ty = type_text ty ++ (32 ∷ [])

unfoldable pub row_of : ℕ → Option ℕ → ℕ → ℕ → List ℕ
row_of place ty code total = decimal_of place ++ (32 ∷ type_text ty ++ (32 ∷ decimal_of code ++ (32 ∷ decimal_of total ++ (10 ∷ []))))

-- "closed ", before a code
unfoldable pub closed_text : List ℕ
closed_text = 99 ∷ 108 ∷ 111 ∷ 115 ∷ 101 ∷ 100 ∷ 32 ∷ []
