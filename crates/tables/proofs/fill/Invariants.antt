-- The loop holds the table with the entries so far set.
use Rattle.std.proofs.Common.{◌≡◌}
use Rattle.tables.specs.Opened.{filled_to}
use Rattle.tables.proofs.fill.Given as goal

abbrev pub invariant-loop-i : goal.invariant-loop-i
invariant-loop-i l = l.t ≡ filled_to l.i l.initial.t l.limits
