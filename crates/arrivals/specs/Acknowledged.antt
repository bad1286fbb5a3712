-- Who has acknowledged a number may be trusted with truncated ones for good: its largest recorded number never falls, whatever comes after and whatever is lost.
use Rattle.std.specs.Prelude.{ℕ, ◌≤◌, ◌≡◌, true, List, ◌++◌, pos}
use Rattle.records.specs.Marks.{recorded}
use Rattle.windows.specs.History.{record_after}
use Rattle.arrivals.specs.Expected.{OneAbove}
use Rattle.arrivals.specs.Trusted.{one_above}

-- the numbers xs came to a record that was new, and then ys, the latest first: once the number a is recorded, the record is never behind it
abbrev pub Acknowledged : Type 0
Acknowledged = (xs ys : List ℕ) (a E : ℕ) → recorded (record_after xs) a ≡ true → OneAbove (record_after (ys ++ xs)) E → one_above (pos a) ≤ E
