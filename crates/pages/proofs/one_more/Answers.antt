-- `pages::one_more` meets its contract: the frame is taken, and what writing its row answers decides, as in the definition.
use mathlib.Core.Path.{ap}
use Rattle.pages.specs.Pages.{with_row}
use Rattle.pages.proofs.Filling.{by_row}
use Rattle.pages.proofs.one_more.Goals as goal

pub returns-in_default : goal.returns-in_default
unfolding with_row
returns-in_default c =
    let a = c.args in
    by_row a.p _ a.out.now _ c.take_frame.ensures c.taken_row.ensures (ap (with_row a.p a.s.now c.take_frame.result) c.in_default.is)

pub returns : goal.returns
unfolding with_row
returns c =
    let a = c.args in
    rw c.after.ensures (by_row a.p _ a.out.now _ c.take_frame.ensures c.taken_row.ensures (ap (with_row a.p a.s.now c.take_frame.result) c.in-Ok.is))
