-- The contracts of `heads::read`, `faults::fault` and `read` are firm: each is an equation of the answer.
-- Assumes nothing.
use mathlib.Core.Path.{refl}
use Rattle.answers.specs.Firm.{Firm}
use Rattle.answers.proofs.Firm.{equation}
use Rattle.fields.proofs.heads.read.Kinds as read
use Rattle.fields.proofs.heads.read.Reads as reading
use Rattle.fields.proofs.faults.fault.Kinds as fault
use Rattle.fields.proofs.faults.fault.Reads as judging
use Rattle.fields.proofs.read.Kinds as parts
use Rattle.fields.proofs.read.Reads as parts_reads

pub head_firm : Firm 1 read.ps read.r reading.Asked reading.Post
head_firm = equation refl

pub fault_firm : Firm 0 fault.ps fault.r judging.Asked judging.Post
fault_firm = equation refl

pub read_firm : Firm 1 parts.ps parts.r parts_reads.Asked parts_reads.Post
read_firm = equation refl
