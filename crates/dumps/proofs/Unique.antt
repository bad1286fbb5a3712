-- The contract of the function that other crates can call is firm: it asks nothing and is an equation of the answer and the output.
-- Assumes nothing.
use mathlib.Core.Path.{refl}
use Rattle.answers.specs.Firm.{Firm}
use Rattle.answers.proofs.Firm.{equation, outcome_equation}
use Rattle.dumps.proofs.half.Kinds as half
use Rattle.dumps.proofs.half.Reads as half_reads
use Rattle.dumps.proofs.take.Kinds as take
use Rattle.dumps.proofs.take.Reads as take_reads

pub half_firm : Firm 0 half.ps half.r half_reads.Asked half_reads.Post
half_firm = equation refl

pub take_firm : Firm 2 take.ps take.r take_reads.Asked take_reads.Post
take_firm = outcome_equation (λ κs a w. (tt, (tt, (w, tt)))) refl
