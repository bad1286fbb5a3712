-- `entries::fits` meets its contract: an unopened entry fits where it is as opening set it; the other tests are those of the definition.
use mathlib.Core.Path.{sym, ◌∙◌}
use Rattle.entries.proofs.Fresh.{fresh_fits}
use Rattle.entries.proofs.fits.Goals as goal

pub returns-then-is_fresh : goal.returns-then-is_fresh
returns-then-is_fresh c = let a = c.args in sym (fresh_fits a.opened a.init a.ordinal a.e c.if-opened-ordinal.true (sym c.is_fresh.ensures ∙ c.if-is_fresh.true))
