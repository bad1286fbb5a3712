-- The contracts of `bit_at`, `is_clean`, `larger`, `smaller`, `next_run` and `without` are firm: each is an equation of the answer.
-- Assumes nothing.
use mathlib.Core.Path.{refl}
use Rattle.answers.specs.Firm.{Firm}
use Rattle.answers.proofs.Firm.{equation}
use Rattle.ring.proofs.bit_at.Kinds as bit_at
use Rattle.ring.proofs.bit_at.Reads as bit_at_reads
use Rattle.ring.proofs.is_clean.Kinds as is_clean
use Rattle.ring.proofs.is_clean.Reads as is_clean_reads
use Rattle.ring.proofs.larger.Kinds as larger
use Rattle.ring.proofs.larger.Reads as larger_reads
use Rattle.ring.proofs.smaller.Kinds as smaller
use Rattle.ring.proofs.smaller.Reads as smaller_reads
use Rattle.ring.proofs.next_run.Kinds as next_run
use Rattle.ring.proofs.next_run.Reads as next_run_reads
use Rattle.ring.proofs.without.Kinds as without
use Rattle.ring.proofs.without.Reads as without_reads

pub bit_at_firm : Firm 1 bit_at.ps bit_at.r bit_at_reads.Asked bit_at_reads.Post
bit_at_firm = equation refl

pub is_clean_firm : Firm 1 is_clean.ps is_clean.r is_clean_reads.Asked is_clean_reads.Post
is_clean_firm = equation refl

pub larger_firm : Firm 0 larger.ps larger.r larger_reads.Asked larger_reads.Post
larger_firm = equation refl

pub smaller_firm : Firm 0 smaller.ps smaller.r smaller_reads.Asked smaller_reads.Post
smaller_firm = equation refl

pub next_run_firm : Firm 1 next_run.ps next_run.r next_run_reads.Asked next_run_reads.Post
next_run_firm = equation refl

pub without_firm : Firm 0 without.ps without.r without_reads.Asked without_reads.Post
without_firm = equation refl
