-- The contract of every function that other crates can call is firm: it asks nothing and is an equation of the answer.
-- Assumes nothing.
use mathlib.Core.Path.{refl}
use Rattle.answers.specs.Firm.{Firm}
use Rattle.answers.proofs.Firm.{equation}
use Rattle.rules.proofs.ends.Kinds as ends
use Rattle.rules.proofs.ends.Reads as ends_reads
use Rattle.rules.proofs.blocked.Kinds as blocked
use Rattle.rules.proofs.blocked.Reads as blocked_reads
use Rattle.rules.proofs.for_sender.Kinds as for_sender
use Rattle.rules.proofs.for_sender.Reads as for_sender_reads
use Rattle.rules.proofs.growth.Kinds as growth
use Rattle.rules.proofs.growth.Reads as growth_reads

pub ends_firm : Firm 0 ends.ps ends.r ends_reads.Asked ends_reads.Post
ends_firm = equation refl

pub blocked_firm : Firm 0 blocked.ps blocked.r blocked_reads.Asked blocked_reads.Post
blocked_firm = equation refl

pub for_sender_firm : Firm 0 for_sender.ps for_sender.r for_sender_reads.Asked for_sender_reads.Post
for_sender_firm = equation refl

pub growth_firm : Firm 0 growth.ps growth.r growth_reads.Asked growth_reads.Post
growth_firm = equation refl
