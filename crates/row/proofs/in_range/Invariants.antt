use mathlib.Core.Path.{◌≡◌}
use mathlib.Core.Bool.{◌&&◌}
use Prim.Native.Nat.{◌-◌, ◌^◌}
use lib.Dec.{leb}
use lib.ListN.{drop}
use Rattle.row.specs.Row.{in_range}
use Rattle.row.proofs.in_range.Given as goal

abbrev pub invariant-loop-n : goal.invariant-loop-n
invariant-loop-n l = in_range l.numbers ≡ (leb l.all (2 ^ 62 - 1) && in_range (drop l.n-index l.numbers))
