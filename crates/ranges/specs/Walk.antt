-- The walk down the ranges of an ACK frame: the first from the frame's own fields, the others from the bytes.
use Rattle.std.specs.Prelude.{◌≡◌, ℕ, ◌+◌, ◌-◌, ◌≤◌, List, ltb, eqb, Option, Some, None}
use Rattle.answers.specs.Choice.{◌⇒◌∣◌}
use Rattle.ranges.specs.Ranges.{range_at, ranges_at, with_range}
use Rattle.ranges.specs.declared.Walk.{Walk}
use Rattle.ranges.specs.declared.Step.{Step}

-- a range, and the walk below it
abbrev pub goes_on : ℕ → ℕ → Walk → Option Step
goes_on high low rest = Some (record { high = high; low = low; rest = rest })

-- 19.3: the first range is from Largest Acknowledged - First ACK Range to Largest Acknowledged
unfoldable pub first_of : ℕ → ℕ → ℕ → ℕ → Option Step
first_of largest len count at =
    ltb largest len ⇒ None
    ∣ goes_on largest (largest - len) (record { low = largest - len; at = at; left = count })

-- the next range, and the end where none is left
unfoldable pub step_of : List ℕ → Walk → Option Step
step_of s w =
    eqb w.left 0 ⇒ None
    ∣ with_range (range_at s w.at w.low) None (λ high low next. goes_on high low (record { low = low; at = next; left = w.left - 1 }))

-- a walk whose ranges were all read, up to the place n
abbrev pub Readable : List ℕ → Walk → ℕ → Type 0
Readable s w n = ranges_at s w.left w.at w.low ≡ Some n

-- a step of such a walk: a range that leaves at least one number out below the range before, and a walk of the same kind below it with one range less
pub record Stepped (s : List ℕ) (w : Walk) (n high low : ℕ) (rest : Walk) : Type 0 where
  pub step : step_of s w ≡ goes_on high low rest
  pub apart : high + 2 ≤ w.low
  pub ordered : low ≤ high
  pub below : rest.low ≡ low
  pub fewer : rest.left + 1 ≡ w.left
  pub readable : Readable s rest n
