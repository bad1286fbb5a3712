-- `datagram::numbered` meets its contract: the place after the bytes that were counted is within the rest.
use mathlib.Core.Path.{sym, ◌∙◌}
use native.Mathlib.Omega.{arith}
use Rattle.invariants.proofs.Cases.{counted}
use Rattle.datagram.proofs.numbered.Goals as goal

pub overflow_add-result : goal.overflow_add-result
overflow_add-result c = omega (arith, (counted _ _ (sym c.bytes_after.ensures ∙ c.in_ok-counted.ensures.ok_part)).within)
