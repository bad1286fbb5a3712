-- `bodies::back` meets its contract: a layout has at most four numbers after its body.
use mathlib.Core.Path.{sym}
use lib.Seq.{length-take-le}
use Rattle.sizes.proofs.Bounds.{at_most_four}
use Rattle.bodies.proofs.back.Goals as goal

pub slice_bounds-write-end : goal.slice_bounds-write-end
slice_bounds-write-end c = sym (length-take-le _ _ (rw (c.from-n.ensures, c.find-l.ensures) (at_most_four c.args.p.ty).1))
