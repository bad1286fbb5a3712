-- The contract of every function that other crates can call is firm: it asks nothing and is an equation of the answer.
-- Assumes nothing.
use mathlib.Core.Path.{refl}
use Rattle.answers.specs.Firm.{Firm}
use Rattle.answers.proofs.Firm.{equation}
use Rattle.steps.proofs.frame.request.Kinds as request
use Rattle.steps.proofs.frame.request.Reads as request_reads
use Rattle.steps.proofs.frame.decide.Kinds as decide
use Rattle.steps.proofs.frame.decide.Reads as decide_reads
use Rattle.steps.proofs.frame.past_padding.Kinds as past_padding
use Rattle.steps.proofs.frame.past_padding.Reads as past_padding_reads
use Rattle.steps.proofs.frame.show.Kinds as show
use Rattle.steps.proofs.frame.show.Reads as show_reads
use Rattle.steps.proofs.gates.gate.Kinds as gate
use Rattle.steps.proofs.gates.gate.Reads as gate_reads

pub request_firm : Firm 1 request.ps request.r request_reads.Asked request_reads.Post
request_firm = equation refl

pub decide_firm : Firm 0 decide.ps decide.r decide_reads.Asked decide_reads.Post
decide_firm = equation refl

pub past_padding_firm : Firm 1 past_padding.ps past_padding.r past_padding_reads.Asked past_padding_reads.Post
past_padding_firm = equation refl

pub show_firm : Firm 1 show.ps show.r show_reads.Asked show_reads.Post
show_firm = equation refl

pub gate_firm : Firm 0 gate.ps gate.r gate_reads.Asked gate_reads.Post
gate_firm = equation refl
