-- Each row holds by computation.
-- Assumes nothing.
use mathlib.Core.Path.{refl}
use Rattle.streams.specs.Conn.{limits_fit}
use Rattle.opening.specs.Opening.{opening_of, opening_when, entries_of}
use Rattle.tables.specs.Opened.{filled_to, opened_table}
use Rattle.hosts.specs.Openings.{Openings}

pub openings : Openings
unfolding limits_fit opening_of opening_when entries_of filled_to opened_table
openings = record {
  opened_conn = refl;
  opened_entries = refl;
  unopened_answers = refl;
  unopened_conns = refl;
  unopened_tables = refl;
  not_192_conns = refl;
  not_192_tables = refl;
}
