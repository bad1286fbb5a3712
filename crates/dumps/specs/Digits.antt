-- Hexadecimal digits, read in either case: the half of a byte that each stands for.
use Rattle.std.specs.Prelude.{ℕ, ◌-◌, Bool, ◌&&◌, leb, Option, Some, None}
use Rattle.std.specs.Option.{is_some}
use Rattle.answers.specs.Choice.{◌⇒◌∣◌}

-- the half that a character stands for: 0 to 9, A to F, a to f; none for any other
unfoldable pub half_of : ℕ → Option ℕ
half_of c =
    leb 48 c && leb c 57 ⇒ Some (c - 48)
    ∣ leb 65 c && leb c 70 ⇒ Some (c - 55)
    ∣ leb 97 c && leb c 102 ⇒ Some (c - 87)
    ∣ None

unfoldable pub is_half : ℕ → Bool
is_half c = is_some (half_of c)
