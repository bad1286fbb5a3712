-- The contract of every public function is firm: it asks nothing, and is an equation of the answer and, where the table is changed, of the whole table at exit.
-- Assumes nothing.
use mathlib.Core.Path.{refl}
use seplogic.Ra.Ura.{Ura}
use base.Logic.{SProp}
use contract.Monad.{Fun}
use types.Logic.{Logic}
use prog.Memory.{Memory}
use prog.Routine.{Routine}
use Rattle.answers.specs.Firm.{FirmClauses}
use Rattle.answers.proofs.Firm.{clauses_equation, clauses_equations}
use Rattle.tables.specs.contracts.fits as fitting
use Rattle.tables.specs.contracts.open as opening

module _ {M : Type 1} {𝓤 : Ura M} (𝓛 : Logic 𝓤) (mem : Memory → SProp 𝓤) (run : Routine → Fun 𝓤) where
  pub fits_firm : FirmClauses 𝓤 fitting.ended (fitting.clauses 𝓛 mem run)
  fits_firm = clauses_equation refl

  pub open_firm : FirmClauses 𝓤 opening.ended (opening.clauses 𝓛 mem run)
  open_firm = clauses_equations (λ κs a w. (w, (tt, (tt, tt)))) refl
