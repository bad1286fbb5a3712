-- The loop holds the check of the opened entries so far.
use Rattle.std.proofs.Common.{◌≡◌}
use Rattle.tables.specs.Table.{summed_to}
use Rattle.tables.proofs.part.Given as goal

abbrev pub invariant-loop-n : goal.invariant-loop-n
invariant-loop-n l = l.sum ≡ summed_to l.t l.from l.p.credit l.p.opened l.p.initial l.fn.before l.n
