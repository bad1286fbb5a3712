-- `tables::rest` meets its contract: the loop ends with all the entries of the rest looked at.
use native.Mathlib.Omega.{arith}
use mathlib.Core.Path.{◌≡◌, ◌∙◌}
use Prim.Native.Nat.{◌-◌}
use Rattle.tables.proofs.rest.Goals as goal

pub returns : goal.returns
returns c = let e : c.loop-n.n - c.args.ordinal ≡ 64 - c.args.ordinal = omega arith in c.loop-n.invariant ∙ rw e
