-- The check of a half's 64 entries in two parts: the opened ones one by one, and the rest together, which are unopened and must be as opening set them.
use Rattle.std.specs.Prelude.{ℕ, Bool, not, ltb, leb, Option, Some, None}
use Rattle.answers.specs.Choice.{◌⇒◌∣◌}
use Rattle.halves.specs.Stream.{most_streams}
use Rattle.entries.specs.Entry.{most_credit}

-- how many of the 64 are opened
unfoldable pub opened_in : ℕ → ℕ
opened_in opened =
    ltb most_streams opened ⇒ most_streams
    ∣ opened

-- the check of all 64, from that of the first n and from whether the rest are as opening set them: their ends add nothing, and their credit is the initial one
unfoldable pub rest_of : ℕ → ℕ → ℕ → Option ℕ → Bool → Option ℕ
rest_of credit n init (Some sum) same =
    leb most_streams n ⇒ Some sum
    ∣ not same ⇒ None
    ∣ ltb most_credit init ⇒ None
    ∣ ltb credit sum ⇒ None
    ∣ Some sum
rest_of credit n init None same = None
