use mathlib.Core.Path.{◌≡◌}
use Rattle.seams.specs.Parts.{Same}
use Rattle.seams.proofs.same.Given as goal

abbrev pub invariant-loop-k : goal.invariant-loop-k
invariant-loop-k l = (l.all ≡ 0 → Same l.a l.i l.b l.j l.k) × (Same l.a l.i l.b l.j l.k → l.all ≡ 0)
