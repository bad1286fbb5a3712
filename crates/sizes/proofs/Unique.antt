-- The contract of `measure` is firm: it asks nothing and is an equation of the answer.
-- Assumes nothing.
use mathlib.Core.Path.{refl}
use Rattle.answers.specs.Firm.{Firm}
use Rattle.answers.proofs.Firm.{equation}
use Rattle.sizes.proofs.measure.Kinds
use Rattle.sizes.proofs.measure.Reads

pub measure_firm : Firm 1 Kinds.ps Kinds.r Reads.Asked Reads.Post
measure_firm = equation refl
