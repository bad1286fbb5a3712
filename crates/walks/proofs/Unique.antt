-- The contract of every public function is firm: it asks nothing, and is an equation of the answer and, where the table is lent, of the whole table at exit.
-- Assumes nothing.
use mathlib.Core.Path.{refl}
use seplogic.Ra.Ura.{Ura}
use base.Logic.{SProp}
use contract.Monad.{Fun}
use types.Logic.{Logic}
use prog.Memory.{Memory}
use prog.Routine.{Routine}
use Rattle.answers.specs.Firm.{FirmClauses}
use Rattle.answers.proofs.Firm.{clauses_equations}
use Rattle.walks.specs.contracts.walk as walking

module _ {M : Type 1} {𝓤 : Ura M} (𝓛 : Logic 𝓤) (mem : Memory → SProp 𝓤) (run : Routine → Fun 𝓤) where
  pub walk_firm : FirmClauses 𝓤 walking.ended (walking.clauses 𝓛 mem run)
  walk_firm = clauses_equations (λ κs a w. (tt, (w, (tt, (tt, (tt, tt)))))) refl
