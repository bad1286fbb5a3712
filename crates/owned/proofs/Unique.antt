-- The contract of every public function is firm: it asks nothing and is an equation of the answer, the table with it.
-- Assumes nothing.
use mathlib.Core.Path.{refl}
use seplogic.Ra.Ura.{Ura}
use base.Logic.{SProp}
use contract.Monad.{Fun}
use types.Logic.{Logic}
use prog.Memory.{Memory}
use prog.Routine.{Routine}
use Rattle.answers.specs.Firm.{FirmClauses}
use Rattle.answers.proofs.Firm.{clauses_equation}
use Rattle.owned.specs.contracts.open as opening
use Rattle.owned.specs.contracts.take_frame as take_frame

module _ {M : Type 1} {𝓤 : Ura M} (𝓛 : Logic 𝓤) (mem : Memory → SProp 𝓤) (run : Routine → Fun 𝓤) where
  pub open_firm : FirmClauses 𝓤 opening.ended (opening.clauses 𝓛 mem run)
  open_firm = clauses_equation refl

  pub take_frame_firm : FirmClauses 𝓤 take_frame.ended (take_frame.clauses 𝓛 mem run)
  take_frame_firm = clauses_equation refl
