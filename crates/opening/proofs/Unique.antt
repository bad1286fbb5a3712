-- The contract of every function that other crates can call is firm: it asks nothing and is an equation of the answer.
-- Assumes nothing.
use mathlib.Core.Path.{refl}
use Rattle.answers.specs.Firm.{Firm}
use Rattle.answers.proofs.Firm.{equation}
use Rattle.opening.proofs.Opened.open.Kinds as opens
use Rattle.opening.proofs.Opened.open.Reads as opens_reads
use Rattle.opening.proofs.Opened.refused.Kinds as refuses
use Rattle.opening.proofs.Opened.refused.Reads as refuses_reads
use Rattle.opening.proofs.for_table.Kinds as for_table
use Rattle.opening.proofs.for_table.Reads as for_table_reads
use Rattle.opening.proofs.count.Kinds as counts
use Rattle.opening.proofs.count.Reads as counts_reads
use Rattle.opening.proofs.entry.Kinds as enters
use Rattle.opening.proofs.entry.Reads as enters_reads
use Rattle.opening.proofs.room.Kinds as room
use Rattle.opening.proofs.room.Reads as room_reads

pub opens_firm : Firm 0 opens.ps opens.r opens_reads.Asked opens_reads.Post
opens_firm = equation refl

pub refuses_firm : Firm 0 refuses.ps refuses.r refuses_reads.Asked refuses_reads.Post
refuses_firm = equation refl

pub for_table_firm : Firm 0 for_table.ps for_table.r for_table_reads.Asked for_table_reads.Post
for_table_firm = equation refl

pub counts_firm : Firm 0 counts.ps counts.r counts_reads.Asked counts_reads.Post
counts_firm = equation refl

pub enters_firm : Firm 0 enters.ps enters.r enters_reads.Asked enters_reads.Post
enters_firm = equation refl

pub room_firm : Firm 0 room.ps room.r room_reads.Asked room_reads.Post
room_firm = equation refl
