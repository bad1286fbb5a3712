use Prim.Native.Nat.{◌-◌}
use Rattle.ranges.specs.Listed.{listed}
use Rattle.writing.proofs.Listing.{Left}
use Rattle.writing.proofs.pieces.put_listed.Given as goal

abbrev pub invariant-loop : goal.invariant-loop
invariant-loop l = Left l.initial.out l.at (listed l.s l.from l.n) l.s l.out l.place l.to (l.n - l.counter)
