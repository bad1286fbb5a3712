-- `writing::pieces::put` meets its contract: each arm writes the bytes that the definition gives for its tail, for which there is room.
use Prim.Native.Nat.{◌+◌}
use native.Mathlib.Omega.{arith}
use borrow.Author.Tests.{leb-true}
use lib.ListN.{length}
use Rattle.sizes.proofs.Bodies.{within}
use Rattle.writing.proofs.pieces.put.Goals as goal

pub overflow_add-end : goal.overflow_add-end
overflow_add-end c = omega (arith, (within _ _ _ c.requires.0.inside).0)

pub slice_bounds-body-end : goal.slice_bounds-body-end
slice_bounds-body-end c = omega (arith, (within _ _ _ c.requires.0.inside).0)

pub overflow_add-stop : goal.overflow_add-stop
overflow_add-stop c =
    let a = c.args in
    let t = rw c.in-Identity.is at (within (length a.s.now) a.tail a.p c.requires.0.inside).1 in
    omega (arith, leb-true (a.p.token + 16) (length a.s.now) t)

pub slice_bounds-identity-end : goal.slice_bounds-identity-end
slice_bounds-identity-end c =
    let a = c.args in
    let t = rw c.in-Identity.is at (within (length a.s.now) a.tail a.p c.requires.0.inside).1 in
    omega (arith, leb-true (a.p.token + 16) (length a.s.now) t)
