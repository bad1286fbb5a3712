use mathlib.Core.Path.{◌≡◌}
use mathlib.Core.List.{◌++◌}
use Prim.Native.Nat.{◌≤◌, ◌<◌, ◌^◌}
use lib.ListN.{length, drop}
use Rattle.text.specs.Decimal.{digits_of, decimal_of}
use Rattle.text.proofs.decimal.write.Given as goal

abbrev pub invariant-loop-higher : goal.invariant-loop-higher
invariant-loop-higher l = (length l.digits ≡ 20) × (l.i ≤ 19) × (l.higher < 10 ^ l.i) × (decimal_of l.n ≡ digits_of l.i l.higher ++ drop l.i l.digits)

abbrev pub decreases-loop-higher : goal.decreases-loop-higher
decreases-loop-higher l = l.higher
