-- The contracts of `apart` and `writable` are firm: each asks nothing and is an equation of the answer.
-- Assumes nothing.
use mathlib.Core.Path.{refl}
use Rattle.answers.specs.Firm.{Firm}
use Rattle.answers.proofs.Firm.{equation}
use Rattle.contents.proofs.split.apart.Kinds as apart
use Rattle.contents.proofs.split.apart.Reads as apart_reads
use Rattle.contents.proofs.checks.writable.Kinds as writable
use Rattle.contents.proofs.checks.writable.Reads as writable_reads

pub apart_firm : Firm 0 apart.ps apart.r apart_reads.Asked apart_reads.Post
apart_firm = equation refl

pub writable_firm : Firm 1 writable.ps writable.r writable_reads.Asked writable_reads.Post
writable_firm = equation refl
