-- `sizes::pieces::listed_size` meets its contract: the total and the size of those from the place on are the size of all, which is no more than the slice.
use mathlib.Core.Path.{◌≡◌, sym, ◌∙◌}
use Prim.Native.Nat.{◌+◌, ◌-◌}
use native.Mathlib.Omega.{arith}
use Rattle.sizes.proofs.Listing.{size_more}
use Rattle.sizes.proofs.pieces.listed_size.Goals as goal

pub overflow_add-total : goal.overflow_add-total
overflow_add-total c =
    omega (arith, c.size-total.ensures, size_more _ _ (c.args.n - c.loop.counter) (omega arith) (sym c.read.ensures ∙ c.in-Some.is))

pub loop-preserved : goal.loop-preserved
loop-preserved c =
    let fewer : c.args.n - (c.loop.counter + 1) ≡ c.args.n - c.loop.counter - 1 = omega arith in
    let more = size_more _ _ (c.args.n - c.loop.counter) (omega arith) (sym c.read.ensures ∙ c.in-Some.is) in
    rw fewer (omega (arith, c.size-total.ensures, more))
