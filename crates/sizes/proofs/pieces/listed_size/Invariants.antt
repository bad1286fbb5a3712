use mathlib.Core.Path.{◌≡◌}
use Prim.Native.Nat.{◌≤◌, ◌+◌, ◌-◌}
use lib.ListN.{length}
use Rattle.row.specs.Row.{size_all}
use Rattle.ranges.specs.Listed.{listed}
use Rattle.sizes.proofs.pieces.listed_size.Given as goal

abbrev pub invariant-loop : goal.invariant-loop
invariant-loop l = (l.total + size_all (listed l.s l.place (l.n - l.counter)) ≡ size_all (listed l.s l.from l.n)) × (size_all (listed l.s l.from l.n) ≤ length l.s)
