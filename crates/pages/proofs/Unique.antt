-- The contract of every function that other crates can call is firm: it asks nothing and is an equation of the answer, and of the output where there is one.
-- Assumes nothing.
use mathlib.Core.Path.{refl}
use Rattle.answers.specs.Firm.{Firm}
use Rattle.answers.proofs.Firm.{equation, outcome_equation}
use Rattle.pages.proofs.small.Kinds as small
use Rattle.pages.proofs.small.Reads as small_reads
use Rattle.pages.proofs.fill.Kinds as fill
use Rattle.pages.proofs.fill.Reads as fill_reads

pub small_firm : Firm 0 small.ps small.r small_reads.Asked small_reads.Post
small_firm = equation refl

pub fill_firm : Firm 2 fill.ps fill.r fill_reads.Asked fill_reads.Post
fill_firm = outcome_equation (λ κs a w. (tt, (tt, (w, tt)))) refl
