-- `writing::pieces::put_listed` meets its contract: writing those from the place on is writing all, and each turn writes one, which is in range and for which there is room.
use mathlib.Core.Path.{◌≡◌, sym, ◌∙◌}
use Prim.Native.Nat.{◌+◌, ◌-◌}
use native.Mathlib.Omega.{arith}
use Rattle.writing.proofs.Listing.{never_refused, turn}
use Rattle.writing.proofs.pieces.put_listed.Goals as goal

pub returns-in_err-to : goal.returns-in_err-to
returns-in_err-to c =
    absurd (never_refused _ _ _ _ _ _ _ _ c.loop.invariant (omega arith) (sym c.read.ensures ∙ c.in-Some.is) c.write.ensures c.in_err-to.was)

pub loop-preserved : goal.loop-preserved
loop-preserved c =
    let fewer : c.args.n - (c.loop.counter + 1) ≡ c.args.n - c.loop.counter - 1 = omega arith in
    rw fewer (turn _ _ _ _ _ _ _ _ c.loop.invariant (omega arith) (sym c.read.ensures ∙ c.in-Some.is) c.write.ensures c.in_ok-to.was)
