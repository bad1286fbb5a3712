-- How a row of the code's table is packed: three hexadecimal digits, numbers, tail and numbers after it. That the rows so read are the layouts of section 19 is tested once, in the proof of `table::find`.
use Rattle.std.specs.Prelude.{ℕ, ◌/◌, ◌%◌, eqb}
use Rattle.answers.specs.Choice.{◌⇒◌∣◌}
use Rattle.layouts.specs.Layout.{layout}
use Rattle.layouts.specs.declared.Tail.{Tail}
use Rattle.layouts.specs.declared.Tail.TheVariants.{Nothing, Counted, Remainder, Eight, Identity, Ranges}
use Rattle.layouts.specs.declared.Layout.{Layout}

-- the tail that a digit stands for
unfoldable pub tail_in : ℕ → Tail
tail_in digit =
    eqb digit 1 ⇒ Counted
    ∣ eqb digit 2 ⇒ Remainder
    ∣ eqb digit 3 ⇒ Eight
    ∣ eqb digit 4 ⇒ Identity
    ∣ eqb digit 5 ⇒ Ranges
    ∣ Nothing

unfoldable pub layout_in : ℕ → Layout
layout_in row = layout (row / 256) (tail_in (row / 16 % 16)) (row % 16)
