-- `invariants::read` meets its contract: the place after the first ID is within the rest.
use mathlib.Core.Path.{sym}
use native.Mathlib.Omega.{arith}
use Rattle.invariants.proofs.Cases.{counted}
use Rattle.invariants.proofs.read.Goals as goal

pub overflow_add-destination : goal.overflow_add-destination
overflow_add-destination c = omega (arith, (counted _ _ (sym c.in_ok-destination.ensures)).within)
