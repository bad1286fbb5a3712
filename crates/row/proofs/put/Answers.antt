-- `row::put` meets its contract: writing those from the place on is writing all, and each turn writes one, for which there is room.
use Rattle.row.proofs.Steps.{never_refused, turn}
use Rattle.row.proofs.put.Goals as goal

pub returns-in_err-place : goal.returns-in_err-place
returns-in_err-place c =
    absurd (never_refused _ _ _ _ _ _ c.loop-n.invariant c.loop-n-test.true c.write.ensures c.in_err-place.was)

pub loop-n-preserved : goal.loop-n-preserved
loop-n-preserved c =
    turn _ _ _ _ _ _ c.loop-n.invariant c.loop-n-test.true c.write.ensures c.in_ok-place.was
