-- The loop holds whether the entries so far are as opening sets them.
use Rattle.std.proofs.Common.{◌≡◌, ◌+◌, ◌-◌}
use Rattle.tables.specs.Table.{untouched_to}
use Rattle.tables.proofs.rest.Given as goal

abbrev pub invariant-loop-n : goal.invariant-loop-n
invariant-loop-n l = l.same ≡ untouched_to l.t (l.from + l.ordinal) l.initial' (l.n - l.ordinal)
