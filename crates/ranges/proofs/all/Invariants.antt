use mathlib.Core.Path.{◌≡◌}
use Prim.Native.Nat.{◌-◌}
use Rattle.ranges.specs.Ranges.{ranges_at}
use Rattle.ranges.proofs.all.Given as goal

abbrev pub invariant-loop : goal.invariant-loop
invariant-loop l = ranges_at l.s (l.count - l.counter) l.place l.least ≡ ranges_at l.s l.count l.at l.low
