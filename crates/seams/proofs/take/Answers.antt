-- `seams::take` meets its contract: a part up to the seam and one after it stand at the front of the output.
use Rattle.std.proofs.Common.{arith}
use mathlib.Core.Path.{sym, ◌∙◌}
use Rattle.seams.proofs.Fitting.{fit_told}
use Rattle.seams.proofs.Taking.{taken, taken_none, taken_out_law}
use Rattle.seams.proofs.take.Goals as goal

pub returns-then-not-fits : goal.returns-then-not-fits
returns-then-not-fits c = taken_none _ _ _ _ (sym c.fits.ensures ∙ c.if-not-fits.true)

pub copy-requires : goal.copy-requires
copy-requires c =
    let f = fit_told _ _ _ _ (sym c.fits.ensures ∙ c.if-not-fits.false) in
    let m = c.before_seam-first.ensures in
    (omega (arith, f.room, m), omega (arith, f.long, m))

pub copy-requires-2 : goal.copy-requires-2
copy-requires-2 c =
    let f = fit_told _ _ _ _ (sym c.fits.ensures ∙ c.if-not-fits.false) in
    let m = c.before_seam-first.ensures in
    (omega (arith, f.room, m, c.copy.ensures.long), omega (arith, f.long, f.few, m))

pub returns : goal.returns
returns c =
    let f = fit_told _ _ _ _ (sym c.fits.ensures ∙ c.if-not-fits.false) in
    taken _ _ _ _ _ _ _ f.few (omega (arith, f.room)) c.before_seam-first.ensures c.copy.ensures c.copy-2.ensures ∙ sym (taken_out_law _ _ _ _ f)
