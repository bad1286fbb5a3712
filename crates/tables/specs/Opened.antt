-- The lent table's entries as opening sets them.
use Rattle.std.specs.Prelude.{ℕ, zero, suc, ◌/◌, List, length, set}
use Rattle.entries.specs.declared.Entry.{Entry}
use Rattle.kinds.specs.declared.Role.{Role}
use Rattle.streams.specs.declared.Limits.{Limits}
use Rattle.halves.specs.Stream.{most_streams}
use Rattle.entries.specs.Entry.{fresh}
use Rattle.streams.specs.Conn.{initial_of}
use Rattle.opening.specs.Opening.{opening_when, entries_of}

-- the first n entries as opening sets them
unfoldable pub filled_to : ℕ → List Entry → Limits → List Entry
filled_to zero t limits = t
filled_to (suc n) t limits = set (filled_to n t limits) n (fresh (initial_of limits (n / most_streams)))

-- "Opening a connection sets every entry to its type's initial credit, end 0, no final size"; a refused opening sets none
unfoldable pub opened_table : Role → List Entry → Limits → List Entry
opened_table role t limits = filled_to (entries_of (opening_when role (length t) limits).answer) t limits
