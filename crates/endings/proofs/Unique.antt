-- The contract of every function that other crates can call is firm: it asks nothing and is an equation of the answer.
-- Assumes nothing.
use mathlib.Core.Path.{refl}
use Rattle.answers.specs.Firm.{Firm}
use Rattle.answers.proofs.Firm.{equation}
use Rattle.endings.proofs.finish.Kinds as finishing
use Rattle.endings.proofs.finish.Reads as finishing_reads

pub finish_firm : Firm 0 finishing.ps finishing.r finishing_reads.Asked finishing_reads.Post
finish_firm = equation refl
