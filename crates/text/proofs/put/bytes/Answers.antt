-- `put::bytes` meets its contract: the test for room is the definition's, and the copy puts the text in the place of as many bytes.
use mathlib.Core.Path.{sym, ◌∙◌}
use borrow.Author.Tests.{leb-true, leb-false}
use Rattle.wire.proofs.Writing.{no_room, all_written}
use Rattle.text.proofs.Steps.{copied}
use Rattle.text.proofs.put.bytes.Goals as goal

pub returns-then-not-fits : goal.returns-then-not-fits
returns-then-not-fits c =
    let a = c.args in
    sym (no_room a.out.now a.at a.text.now (leb-false _ _ (sym c.fits.ensures ∙ c.if-not-fits.true)))

pub returns : goal.returns
returns c =
    let a = c.args in
    let h = leb-true _ _ (sym c.fits.ensures ∙ c.if-not-fits.false) in
    rw (c.copy_from_slice.ensures.after, copied a.out.now a.at a.text.now h) (sym (all_written a.out.now a.at a.text.now h))
