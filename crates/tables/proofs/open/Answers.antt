-- `tables::open` meets its contract: as many entries are set as the answer says, and none that the table does not have.
use mathlib.Core.Path.{◌∙◌}
use lib.ListN.{length}
use Rattle.tables.specs.Opened.{opened_table}
use Rattle.tables.proofs.Within.{entries_within}
use Rattle.tables.proofs.open.Goals as goal

pub fill-requires : goal.fill-requires
fill-requires c = rw (c.count-n.ensures, c.for_table-o.ensures) (entries_within c.args.role (length c.args.t.now) c.args.limits)

pub returns : goal.returns
unfolding opened_table
returns c = (c.for_table-o.ensures, c.fill.ensures ∙ rw (c.count-n.ensures, c.for_table-o.ensures))
