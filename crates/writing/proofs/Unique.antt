-- The contract of `write` is firm: it is one equation of the answer and the output.
-- Assumes nothing.
use mathlib.Core.Path.{refl}
use Rattle.answers.specs.Firm.{Firm}
use Rattle.answers.proofs.Firm.{outcome_equation}
use Rattle.writing.proofs.write.Kinds
use Rattle.writing.proofs.write.Reads

pub write_firm : Firm 2 Kinds.ps Kinds.r Reads.Asked Reads.Post
write_firm = outcome_equation (λ κs a w. (tt, (tt, (w, (tt, tt))))) refl
