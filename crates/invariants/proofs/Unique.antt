-- The contracts of `bytes_after` and `read` are firm: each is an equation of the answer.
-- Assumes nothing.
use mathlib.Core.Path.{refl}
use Rattle.answers.specs.Firm.{Firm}
use Rattle.answers.proofs.Firm.{equation}
use Rattle.invariants.proofs.bytes_after.Kinds as bytes_after
use Rattle.invariants.proofs.bytes_after.Reads as bytes_after_reads
use Rattle.invariants.proofs.read.Kinds as read
use Rattle.invariants.proofs.read.Reads as reading

pub bytes_after_firm : Firm 1 bytes_after.ps bytes_after.r bytes_after_reads.Asked bytes_after_reads.Post
bytes_after_firm = equation refl

pub read_firm : Firm 1 read.ps read.r reading.Asked reading.Post
read_firm = equation refl
