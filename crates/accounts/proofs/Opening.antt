-- Opening's rows hold by computation.
-- Assumes nothing.
use mathlib.Core.Path.{refl}
use Rattle.streams.specs.Conn.{count_of, limits_fit}
use Rattle.opening.specs.Opening.{opening_of, opening_when, entries_of}
use Rattle.accounts.specs.History.{list_to, opened}
use Rattle.accounts.specs.Opening.{Opening}

pub opening : Opening
unfolding count_of limits_fit opening_of opening_when entries_of list_to opened
opening = record {
  credits = refl;
  counts = refl;
  counts_opened = refl;
  conn = refl;
  opens = refl;
  opens_nothing = refl;
  opens_most = refl;
  refuses = refl;
  table = refl;
  table_first = refl;
  sets = refl;
  set_entries = refl;
  set_length = refl;
  set_conn = refl;
}
