-- The contract of `Answer::number` is firm: it is an equation.
-- Assumes nothing.
use mathlib.Core.Path.{refl}
use Rattle.answers.specs.Firm.{Firm}
use Rattle.answers.proofs.Firm.{equation}
use Rattle.answers.proofs.Answer.number.Kinds
use Rattle.answers.proofs.Answer.number.Reads

pub number_firm : Firm 0 Kinds.ps Kinds.r Reads.Asked Reads.Post
number_firm = equation refl
