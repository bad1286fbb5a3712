-- The contract of every public function is firm: it asks nothing and is an equation of the answer, the table with it.
-- Assumes nothing.
use mathlib.Core.Path.{refl}
use seplogic.Ra.Ura.{Ura}
use base.Logic.{SProp}
use contract.Monad.{Fun}
use types.Logic.{Logic}
use prog.Memory.{Memory}
use prog.Routine.{Routine}
use Rattle.answers.specs.Firm.{FirmClauses}
use Rattle.answers.proofs.Firm.{clauses_equation}
use Rattle.owned_calls.specs.contracts.take_packet as take_packet
use Rattle.owned_calls.specs.contracts.call as calling

module _ {M : Type 1} {𝓤 : Ura M} (𝓛 : Logic 𝓤) (mem : Memory → SProp 𝓤) (run : Routine → Fun 𝓤) where
  pub take_packet_firm : FirmClauses 𝓤 take_packet.ended (take_packet.clauses 𝓛 mem run)
  take_packet_firm = clauses_equation refl

  pub call_firm : FirmClauses 𝓤 calling.ended (calling.clauses 𝓛 mem run)
  call_firm = clauses_equation refl
