-- `sizes::size` meets its contract: the bytes of a frame are as many as those of its pieces together, and too few to overflow; a layout has at most four numbers before and after its body.
use mathlib.Core.Path.{sym}
use lib.Seq.{length-take-le}
use Rattle.sizes.proofs.Bounds.{at_most_four}
use Rattle.sizes.proofs.size.Goals as goal

pub slice_bounds-size-end : goal.slice_bounds-size-end
slice_bounds-size-end c = sym (length-take-le _ _ (rw (c.from-n.ensures, c.find-l.ensures) (at_most_four c.args.p.ty).0))

pub slice_bounds-size-end-2 : goal.slice_bounds-size-end-2
slice_bounds-size-end-2 c = sym (length-take-le _ _ (rw (c.from-m.ensures, c.find-l.ensures) (at_most_four c.args.p.ty).1))
