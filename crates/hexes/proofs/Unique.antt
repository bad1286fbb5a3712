-- The contract of every function that other crates can call is firm: it asks nothing and is an equation of the answer, and of the output where there is one.
-- Assumes nothing.
use mathlib.Core.Path.{refl}
use Rattle.answers.specs.Firm.{Firm}
use Rattle.answers.proofs.Firm.{outcome_equation}
use Rattle.hexes.proofs.write.Kinds as write
use Rattle.hexes.proofs.write.Reads as write_reads
use Rattle.hexes.proofs.read.Kinds as read
use Rattle.hexes.proofs.read.Reads as read_reads

pub write_firm : Firm 2 write.ps write.r write_reads.Asked write_reads.Post
write_firm = outcome_equation (λ κs a w. (w, (tt, (tt, tt)))) refl

pub read_firm : Firm 2 read.ps read.r read_reads.Asked read_reads.Post
read_firm = outcome_equation (λ κs a w. (tt, (w, tt))) refl
