-- The contract of every function that other crates can call is firm: it asks nothing and is an equation of the answer.
-- Assumes nothing.
use mathlib.Core.Path.{refl}
use Rattle.answers.specs.Firm.{Firm}
use Rattle.answers.proofs.Firm.{equation}
use Rattle.packets.proofs.checks.begin.Kinds as begin
use Rattle.packets.proofs.checks.begin.Reads as begin_reads

pub begin_firm : Firm 1 begin.ps begin.r begin_reads.Asked begin_reads.Post
begin_firm = equation refl
