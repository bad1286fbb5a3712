-- The contract of every public function is firm: it asks nothing, and is an equation of the answer and, where the table is lent, of the whole table at exit.
-- Assumes nothing.
use mathlib.Core.Path.{refl}
use seplogic.Ra.Ura.{Ura}
use base.Logic.{SProp}
use contract.Monad.{Fun}
use types.Logic.{Logic}
use prog.Memory.{Memory}
use prog.Routine.{Routine}
use Rattle.answers.specs.Firm.{Firm, FirmClauses}
use Rattle.answers.proofs.Firm.{equation, clauses_equations}
use Rattle.local.specs.contracts.call as calling
use Rattle.local.proofs.hand_out.Kinds as hand_out
use Rattle.local.proofs.hand_out.Reads as hand_out_reads

pub hand_out_firm : Firm 0 hand_out.ps hand_out.r hand_out_reads.Asked hand_out_reads.Post
hand_out_firm = equation refl

module _ {M : Type 1} {𝓤 : Ura M} (𝓛 : Logic 𝓤) (mem : Memory → SProp 𝓤) (run : Routine → Fun 𝓤) where
  pub call_firm : FirmClauses 𝓤 calling.ended (calling.clauses 𝓛 mem run)
  call_firm = clauses_equations (λ κs a w. (tt, (w, (tt, tt)))) refl
