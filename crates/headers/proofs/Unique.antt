-- The contract of every function that other crates can call is firm: it asks nothing and is an equation of the answer.
-- Assumes nothing.
use mathlib.Core.Path.{refl}
use Rattle.answers.specs.Firm.{Firm}
use Rattle.answers.proofs.Firm.{equation}
use Rattle.headers.proofs.of_first.Kinds as of_first
use Rattle.headers.proofs.of_first.Reads as of_first_reads
use Rattle.headers.proofs.size.Kinds as size
use Rattle.headers.proofs.size.Reads as size_reads
use Rattle.headers.proofs.reserved.Kinds as reserved
use Rattle.headers.proofs.reserved.Reads as reserved_reads
use Rattle.headers.proofs.truncated.Kinds as truncated
use Rattle.headers.proofs.truncated.Reads as truncated_reads

pub of_first_firm : Firm 0 of_first.ps of_first.r of_first_reads.Asked of_first_reads.Post
of_first_firm = equation refl

pub size_firm : Firm 0 size.ps size.r size_reads.Asked size_reads.Post
size_firm = equation refl

pub reserved_firm : Firm 0 reserved.ps reserved.r reserved_reads.Asked reserved_reads.Post
reserved_firm = equation refl

pub truncated_firm : Firm 1 truncated.ps truncated.r truncated_reads.Asked truncated_reads.Post
truncated_firm = equation refl
