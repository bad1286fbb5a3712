-- The contract of the function that other crates can call is firm: it asks nothing and is an equation of the answer.
-- Assumes nothing.
use mathlib.Core.Path.{refl}
use Rattle.answers.specs.Firm.{Firm}
use Rattle.answers.proofs.Firm.{equation}
use Rattle.kinds.proofs.Space.of.Kinds as of
use Rattle.kinds.proofs.Space.of.Reads as of_reads

pub of_firm : Firm 0 of.ps of.r of_reads.Asked of_reads.Post
of_firm = equation refl
