-- The further ranges of an ACK frame, RFC 9000 section 19.3.1: each is a Gap and an ACK Range Length, and none goes below number 0.
use Rattle.std.specs.Prelude.{ℕ, zero, suc, ◌+◌, ◌-◌, List, ltb, Option, Some, None}
use Rattle.answers.specs.Choice.{◌⇒◌∣◌}
use Rattle.wire.specs.Number.{number_at, with_number}
use Rattle.ranges.specs.declared.Range.{Range}

-- a range from its largest down to its smallest number, and the place after it
abbrev pub spans : ℕ → ℕ → ℕ → Option Range
spans high low next = Some (record { high = high; low = low; next = next })

-- below a range whose smallest number is low: largest = low - Gap - 2, smallest = largest - ACK Range Length, neither below 0
unfoldable pub below_of : ℕ → ℕ → ℕ → ℕ → Option Range
below_of low gap len next =
    ltb low (gap + 2 + len) ⇒ None
    ∣ spans (low - gap - 2) (low - gap - 2 - len) next

-- ACK Range { Gap (i), ACK Range Length (i) } at a place
unfoldable pub range_at : List ℕ → ℕ → ℕ → Option Range
range_at s at low =
    with_number (number_at s at) None (λ gap p.
    with_number (number_at s p) None (λ len next. below_of low gap len next))

-- goes on with a range, or with x where there is none
abbrev pub with_range : {X : Type 0} → Option Range → X → (ℕ → ℕ → ℕ → X) → X
with_range (Some r) x k = k r.high r.low r.next
with_range None x k = x

-- so many ranges from a place on, each below the one before
unfoldable pub ranges_at : List ℕ → ℕ → ℕ → ℕ → Option ℕ
ranges_at s zero at low = Some at
ranges_at s (suc k) at low = with_range (range_at s at low) None (λ high least next. ranges_at s k next least)

-- goes on with the place after all ranges, or with x where one is wrong
abbrev pub with_ranges : {X : Type 0} → Option ℕ → X → (ℕ → X) → X
with_ranges (Some next) x k = k next
with_ranges None x k = x
