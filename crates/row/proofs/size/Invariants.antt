use mathlib.Core.Path.{◌≡◌}
use Prim.Native.Nat.{◌≤◌, ◌+◌, ◌*◌}
use lib.ListN.{drop}
use Rattle.row.specs.Row.{size_all}
use Rattle.row.proofs.size.Given as goal

abbrev pub invariant-loop-n : goal.invariant-loop-n
invariant-loop-n l = (l.total ≤ 8 * l.n-index) × (l.total + size_all (drop l.n-index l.numbers) ≡ size_all l.numbers)
