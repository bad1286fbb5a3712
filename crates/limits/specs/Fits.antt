-- When a connection and its table fit (no 120), docs/RULES.md, "120 for the table": entry by entry, and the connection's own numbers.
use Rattle.std.specs.Prelude.{ℕ, zero, suc, ◌+◌, ◌/◌, ◌%◌, Bool, true, false, not, ◌&&◌, List, length, ltb, leb, eqb, Option, Some, None}
use Rattle.answers.specs.Choice.{◌⇒◌∣◌}
use Rattle.halves.specs.Stream.{most_streams, entries, half_of}
use Rattle.entries.specs.Entry.{entry_at}
use Rattle.entries.specs.Fitting.{entry_fits_as}
use Rattle.streams.specs.Conn.{opened_of, count_of, initial_of}
use Rattle.streams.specs.Conn.{limits_fit}
use Rattle.streams.specs.declared.Conn.{Conn}
use Rattle.entries.specs.declared.Entry.{Entry}
use Rattle.limits.specs.declared.fits.Part.{Part}

-- the entry at a place of the table, 64 to a half
abbrev pub entry_fits : Conn → ℕ → Entry → Bool
entry_fits c i e = entry_fits_as (opened_of c (i / most_streams)) (initial_of c.limits (i / most_streams)) (i % most_streams) e

-- no more is open than the count allows, or than the ceiling where we open them
unfoldable pub open_fit : Conn → Bool
open_fit c =
    leb (opened_of c 0) (count_of c 0)
    && (leb (opened_of c 1) most_streams
    && (leb (opened_of c 2) (count_of c 2)
    && leb (opened_of c 3) most_streams))

-- the connection's own numbers: the total is within its credit, no limit is above its ceiling, and no more is open than may be
unfoldable pub conn_fits : Conn → Bool
conn_fits c = leb c.total c.limits.credit && (limits_fit c.limits && open_fit c)

-- f 0 + .. + f (n - 1)
unfoldable pub sum_to : ℕ → (ℕ → ℕ) → ℕ
sum_to zero f = 0
sum_to (suc n) f = sum_to n f + f n

-- all of p 0, .., p (n - 1)
unfoldable pub all_to : ℕ → (ℕ → Bool) → Bool
all_to zero p = true
all_to (suc n) p = all_to n p && p n

-- no 120: 192 entries, each of which fits, a total that is the sum of the ends, and a connection that fits
unfoldable pub fits : Conn → List Entry → Bool
fits c t =
    eqb (length t) entries
    && (all_to entries (λ i. entry_fits c i (entry_at t i))
    && (eqb c.total (sum_to entries (λ i. (entry_at t i).end))
    && conn_fits c))

-- one step of the check over the table: the entry fits, and the running sum stays within the connection credit, so that it cannot wrap
unfoldable pub summed_of : ℕ → ℕ → ℕ → ℕ → Entry → Option ℕ → Option ℕ
summed_of credit opened init n e (Some sum) =
    not (entry_fits_as opened init n e) ⇒ None
    ∣ ltb credit (sum + e.end) ⇒ None
    ∣ Some (sum + e.end)
summed_of credit opened init n e None = None

-- the end of that check: the total is the sum, and the connection fits
unfoldable pub concluded_of : Conn → Option ℕ → Bool
concluded_of c (Some sum) = eqb c.total sum && conn_fits c
concluded_of c None = false

-- what the check of a half's entries asks of a connection
abbrev pub part_of : Conn → ℕ → Part
part_of c id = record { credit = c.limits.credit; opened = opened_of c (half_of id); initial = initial_of c.limits (half_of id) }
