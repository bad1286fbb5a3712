-- `holding::hand` meets its contract: the run that is found is copied where there is room.
use Rattle.std.proofs.Common.{arith}
use Rattle.holding.proofs.Handing.{hand_full}
use Rattle.holding.proofs.hand.Goals as goal

pub returns-clause-out_after : goal.returns-clause-out_after
returns-clause-out_after c =
    let a = c.args in
    (hand_full a.ring.now a.marks.now a.reach.read a.reach.held a.out.now (omega arith) (omega arith) (omega (arith, c.saturating_sub.ensures)) _ c.run-n.ensures (omega arith) _ c.take.ensures).1
