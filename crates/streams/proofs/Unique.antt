-- The contract of every function that other crates can call is firm: it asks nothing and is an equation of the answer.
-- Assumes nothing.
use mathlib.Core.Path.{refl}
use Rattle.answers.specs.Firm.{Firm}
use Rattle.answers.proofs.Firm.{equation}
use Rattle.streams.proofs.Mark.is_open.Kinds as is_open
use Rattle.streams.proofs.Mark.is_open.Reads as is_open_reads
use Rattle.streams.proofs.Limits.fit.Kinds as fit
use Rattle.streams.proofs.Limits.fit.Reads as fit_reads
use Rattle.streams.proofs.Limits.initial_of.Kinds as initial_of
use Rattle.streams.proofs.Limits.initial_of.Reads as initial_of_reads
use Rattle.streams.proofs.Conn.opened_of.Kinds as opened_of
use Rattle.streams.proofs.Conn.opened_of.Reads as opened_of_reads
use Rattle.streams.proofs.Conn.count_of.Kinds as count_of
use Rattle.streams.proofs.Conn.count_of.Reads as count_of_reads
use Rattle.streams.proofs.Conn.next_of.Kinds as next_of
use Rattle.streams.proofs.Conn.next_of.Reads as next_of_reads
use Rattle.streams.proofs.Conn.marked.Kinds as marked
use Rattle.streams.proofs.Conn.marked.Reads as marked_reads
use Rattle.streams.proofs.Conn.open_to.Kinds as open_to_law
use Rattle.streams.proofs.Conn.open_to.Reads as open_to_reads
use Rattle.streams.proofs.Conn.hand_out.Kinds as hand_out
use Rattle.streams.proofs.Conn.hand_out.Reads as hand_out_reads
use Rattle.streams.proofs.larger.Kinds as larger
use Rattle.streams.proofs.larger.Reads as larger_reads

pub is_open_firm : Firm 0 is_open.ps is_open.r is_open_reads.Asked is_open_reads.Post
is_open_firm = equation refl

pub fit_firm : Firm 0 fit.ps fit.r fit_reads.Asked fit_reads.Post
fit_firm = equation refl

pub initial_of_firm : Firm 0 initial_of.ps initial_of.r initial_of_reads.Asked initial_of_reads.Post
initial_of_firm = equation refl

pub opened_of_firm : Firm 0 opened_of.ps opened_of.r opened_of_reads.Asked opened_of_reads.Post
opened_of_firm = equation refl

pub count_of_firm : Firm 0 count_of.ps count_of.r count_of_reads.Asked count_of_reads.Post
count_of_firm = equation refl

pub next_of_firm : Firm 0 next_of.ps next_of.r next_of_reads.Asked next_of_reads.Post
next_of_firm = equation refl

pub marked_firm : Firm 0 marked.ps marked.r marked_reads.Asked marked_reads.Post
marked_firm = equation refl

pub open_to_firm : Firm 0 open_to_law.ps open_to_law.r open_to_reads.Asked open_to_reads.Post
open_to_firm = equation refl

pub hand_out_firm : Firm 0 hand_out.ps hand_out.r hand_out_reads.Asked hand_out_reads.Post
hand_out_firm = equation refl

pub larger_firm : Firm 0 larger.ps larger.r larger_reads.Asked larger_reads.Post
larger_firm = equation refl
