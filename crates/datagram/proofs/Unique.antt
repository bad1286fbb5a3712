-- The contract of `split` is firm: it is an equation.
-- Assumes nothing.
use mathlib.Core.Path.{refl}
use Rattle.answers.specs.Firm.{Firm}
use Rattle.answers.proofs.Firm.{equation}
use Rattle.datagram.proofs.split.Kinds
use Rattle.datagram.proofs.split.Reads

pub split_firm : Firm 1 Kinds.ps Kinds.r Reads.Asked Reads.Post
split_firm = equation refl
