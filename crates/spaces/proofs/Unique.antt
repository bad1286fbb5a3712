-- The contract of every function that other crates can call is firm: it asks nothing and is an equation of the answer.
-- Assumes nothing.
use mathlib.Core.Path.{refl}
use Rattle.answers.specs.Firm.{Firm}
use Rattle.answers.proofs.Firm.{equation}
use Rattle.spaces.proofs.fit.Kinds as fit
use Rattle.spaces.proofs.fit.Reads as fit_reads
use Rattle.spaces.proofs.recorded.Kinds as recorded
use Rattle.spaces.proofs.recorded.Reads as recorded_reads

pub fit_firm : Firm 1 fit.ps fit.r fit_reads.Asked fit_reads.Post
fit_firm = equation refl

pub recorded_firm : Firm 0 recorded.ps recorded.r recorded_reads.Asked recorded_reads.Post
recorded_firm = equation refl
