use Rattle.row.proofs.Steps.{Left}
use Rattle.row.proofs.put.Given as goal

abbrev pub invariant-loop-n : goal.invariant-loop-n
invariant-loop-n l = Left l.initial.out l.at l.numbers l.out l.place l.n-index
