-- `tables::fits` meets its contract: the three halves are checked one after the other, and that is the definition.
use mathlib.Core.Path.{◌∙◌}
use borrow.Author.Tests.{ne_eqb}
use lib.ListN.{length}
use Rattle.tables.proofs.Tables.{whole_fits, short_unfit}
use Rattle.tables.proofs.fits.Goals as goal

pub returns-then-t-ne-ENTRIES : goal.returns-then-t-ne-ENTRIES
returns-then-t-ne-ENTRIES c = short_unfit _ _ (ne_eqb (length c.args.t.now) 192 c.if-t-ne-ENTRIES.true)

pub returns : goal.returns
returns c = c.conclude.ensures ∙ rw (c.part-third.ensures, c.part-second.ensures, c.part-first.ensures, c.part_of.ensures, c.part_of-2.ensures, c.part_of-3.ensures) (whole_fits _ _ c.if-t-ne-ENTRIES.false)
