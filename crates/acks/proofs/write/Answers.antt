-- `acks::write` meets its contract: what is written is a row of the numbers of the frame, which are no more than there is room for.
use mathlib.Core.Path.{sym, ◌∙◌}
use native.Mathlib.Omega.{arith}
use borrow.Author.Tests.{ne_eqb}
use lib.Seq.{length-take-le}
use Rattle.records.proofs.Taking.{can_be}
use Rattle.answers.proofs.Outcome.{passes}
use Rattle.records.specs.Marks.{recorded}
use Rattle.acks.specs.Ack.{ack_of, ack_draft}
use Rattle.acks.proofs.write.Goals as goal

pub slice_bounds-write-end : goal.slice_bounds-write-end
slice_bounds-write-end c = let f = c.frame-count.ensures in sym (length-take-le _ _ (omega (arith, f.long, f.most)))

pub returns : goal.returns
unfolding ack_draft ack_of recorded
returns c =
    rw (can_be _ (passes _ (sym c.check_of.ensures ∙ c.in_ok-check_of.was)), ne_eqb _ _ c.if-seen-eq0.false)
    (rw c.frame-count.ensures.holds at c.write.ensures)
