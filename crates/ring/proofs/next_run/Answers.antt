-- `ring::next_run` meets its contract: the run lies between the end of the missing numbers and its own, and the searches tell both above the bottom.
use native.Mathlib.Omega.{arith}
use mathlib.Core.Path.{sym, ap, ◌∙◌}
use Prim.Native.Nat.{◌-◌}
use Rattle.ring.proofs.Runs.{found_none, found_run}
use Rattle.ring.proofs.next_run.Goals as goal
use Rattle.ring.specs.Runs.{span}

pub returns-then-high-bottom : goal.returns-then-high-bottom
returns-then-high-bottom c = sym (found_none _ _ _ _ _ _ c.saturating_sub-bottom.ensures c.min.ensures c.end_of-high.ensures c.if-high-bottom.true)

pub returns : goal.returns
returns c =
    ap (span (c.end_of-high.result - 1)) c.max.ensures
    ∙ sym (found_run _ _ _ _ _ _ c.saturating_sub-bottom.ensures c.min.ensures c.end_of-high.ensures (omega arith) _ c.end_of.ensures)
