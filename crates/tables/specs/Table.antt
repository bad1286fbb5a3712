-- The check of the lent table, entry after entry.
use Rattle.std.specs.Prelude.{ℕ, zero, suc, ◌+◌, Bool, true, ◌&&◌, List, Option}
use Rattle.entries.specs.declared.Entry.{Entry}
use Rattle.entries.specs.Entry.{entry_at}
use Rattle.limits.specs.Fits.{summed_of}
use Rattle.entries.specs.Fitting.{is_fresh}

-- the check of the first n entries from a place on, of a half of which so many are open and whose initial credit is init
unfoldable pub summed_to : List Entry → ℕ → ℕ → ℕ → ℕ → Option ℕ → ℕ → Option ℕ
summed_to t from credit opened init so_far zero = so_far
summed_to t from credit opened init so_far (suc n) = summed_of credit opened init n (entry_at t (from + n)) (summed_to t from credit opened init so_far n)

-- whether n entries from a place on are as opening sets them
unfoldable pub untouched_to : List Entry → ℕ → ℕ → ℕ → Bool
untouched_to t from init zero = true
untouched_to t from init (suc n) = untouched_to t from init n && is_fresh (entry_at t (from + n)) init
