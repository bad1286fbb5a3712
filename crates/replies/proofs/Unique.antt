-- The contract of the function that other crates can call is firm: it asks nothing and is an equation of the answer.
-- Assumes nothing.
use mathlib.Core.Path.{refl}
use Rattle.answers.specs.Firm.{Firm}
use Rattle.answers.proofs.Firm.{equation}
use Rattle.replies.proofs.judge.Kinds as judge
use Rattle.replies.proofs.judge.Reads as judge_reads

pub judge_firm : Firm 0 judge.ps judge.r judge_reads.Asked judge_reads.Post
judge_firm = equation refl
