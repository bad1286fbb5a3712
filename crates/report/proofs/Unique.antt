-- The contract of every function that other crates can call is firm: it asks nothing and is an equation of the answer, and of the output where there is one.
-- Assumes nothing.
use mathlib.Core.Path.{refl}
use Rattle.answers.specs.Firm.{Firm}
use Rattle.answers.proofs.Firm.{equation, outcome_equation}
use Rattle.report.proofs.taken.too_long.Kinds as too_long
use Rattle.report.proofs.taken.too_long.Reads as too_long_reads
use Rattle.report.proofs.taken.heading.Kinds as heading
use Rattle.report.proofs.taken.heading.Reads as heading_reads
use Rattle.report.proofs.taken.taken_row.Kinds as taken_row
use Rattle.report.proofs.taken.taken_row.Reads as taken_row_reads
use Rattle.report.proofs.taken.after.Kinds as after
use Rattle.report.proofs.taken.after.Reads as after_reads
use Rattle.report.proofs.taken.last.Kinds as last
use Rattle.report.proofs.taken.last.Reads as last_reads
use Rattle.report.proofs.taken.ending.Kinds as ending
use Rattle.report.proofs.taken.ending.Reads as ending_reads

pub too_long_firm : Firm 0 too_long.ps too_long.r too_long_reads.Asked too_long_reads.Post
too_long_firm = equation refl

pub heading_firm : Firm 1 heading.ps heading.r heading_reads.Asked heading_reads.Post
heading_firm = outcome_equation (λ κs a w. (w, (tt, (tt, tt)))) refl

pub taken_row_firm : Firm 1 taken_row.ps taken_row.r taken_row_reads.Asked taken_row_reads.Post
taken_row_firm = outcome_equation (λ κs a w. (w, (tt, (tt, (tt, tt))))) refl

pub after_firm : Firm 0 after.ps after.r after_reads.Asked after_reads.Post
after_firm = equation refl

pub last_firm : Firm 0 last.ps last.r last_reads.Asked last_reads.Post
last_firm = equation refl

pub ending_firm : Firm 1 ending.ps ending.r ending_reads.Asked ending_reads.Post
ending_firm = outcome_equation (λ κs a w. (w, (tt, (tt, tt)))) refl
