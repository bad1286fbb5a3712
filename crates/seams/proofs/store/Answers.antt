-- `seams::store` meets its contract: a part up to the seam and one after it leave the one ring that has these bytes.
use Rattle.std.proofs.Common.{arith}
use mathlib.Core.Path.{sym, ◌∙◌}
use Rattle.seams.proofs.Fitting.{fit_told}
use Rattle.seams.proofs.Bytes.{store_parts}
use Rattle.seams.proofs.Stored.{stored_none, stored_is}
use Rattle.seams.proofs.store.Goals as goal

pub returns-then-not-fits : goal.returns-then-not-fits
returns-then-not-fits c = stored_none _ _ _ _ _ (sym c.fits.ensures ∙ c.if-not-fits.true)

pub copy-requires : goal.copy-requires
copy-requires c =
    let f = fit_told _ _ _ _ (sym c.fits.ensures ∙ c.if-not-fits.false) in
    let m = c.before_seam-first.ensures in
    (omega (arith, f.long, m), omega (arith, f.room, m))

pub overflow_add-j : goal.overflow_add-j
overflow_add-j c =
    let f = fit_told _ _ _ _ (sym c.fits.ensures ∙ c.if-not-fits.false) in
    omega (arith, f.room, c.before_seam-first.ensures)

pub copy-requires-2 : goal.copy-requires-2
copy-requires-2 c =
    let f = fit_told _ _ _ _ (sym c.fits.ensures ∙ c.if-not-fits.false) in
    let m = c.before_seam-first.ensures in
    (omega (arith, f.long, f.few, m, c.copy.ensures.long), omega (arith, f.room, m))

pub returns : goal.returns
returns c =
    let f = fit_told _ _ _ _ (sym c.fits.ensures ∙ c.if-not-fits.false) in
    let m = c.before_seam-first.ensures in
    stored_is _ _ _ _ _ f _
    (store_parts _ _ _ _ _ _ _ _ f.long f.few (omega (arith, m)) (omega (arith, m)) (λ h. omega (arith, m)) c.copy.ensures c.copy-2.ensures)
