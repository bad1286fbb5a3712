-- `bodies::front` meets its contract: a layout has at most four numbers before its body, so that with the type they are among the five.
use mathlib.Core.Path.{sym}
use native.Mathlib.Omega.{arith}
use lib.Seq.{length-take-le}
use Rattle.sizes.proofs.Bounds.{at_most_four}
use Rattle.bodies.proofs.front.Goals as goal

pub slice_bounds-write-end : goal.slice_bounds-write-end
slice_bounds-write-end c = sym (length-take-le _ _ (rw (c.from-n.ensures, c.find-l.ensures) (omega (arith, (at_most_four c.args.p.ty).0))))
