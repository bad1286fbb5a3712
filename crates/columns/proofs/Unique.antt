-- The contracts of `row` and `closed` are firm: each asks nothing and is one equation of the answer and the output.
-- Assumes nothing.
use mathlib.Core.Path.{refl}
use Rattle.answers.specs.Firm.{Firm}
use Rattle.answers.proofs.Firm.{outcome_equation}
use Rattle.columns.proofs.row.Kinds as row
use Rattle.columns.proofs.row.Reads as row_reads
use Rattle.columns.proofs.closed.Kinds as closed
use Rattle.columns.proofs.closed.Reads as closed_reads

pub row_firm : Firm 1 row.ps row.r row_reads.Asked row_reads.Post
row_firm = outcome_equation (λ κs a w. (w, (tt, (tt, (tt, (tt, (tt, tt))))))) refl

pub closed_firm : Firm 1 closed.ps closed.r closed_reads.Asked closed_reads.Post
closed_firm = outcome_equation (λ κs a w. (w, (tt, (tt, tt)))) refl
