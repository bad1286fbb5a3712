-- The contract of every function that other crates can call is firm: it asks nothing and is an equation of the answer.
-- Assumes nothing.
use mathlib.Core.Path.{refl}
use Rattle.answers.specs.Firm.{Firm}
use Rattle.answers.proofs.Firm.{equation}
use Rattle.calls.proofs.place.Kinds as place
use Rattle.calls.proofs.place.Reads as place_reads
use Rattle.calls.proofs.seated.Kinds as seated
use Rattle.calls.proofs.seated.Reads as seated_reads
use Rattle.calls.proofs.reply.Kinds as reply
use Rattle.calls.proofs.reply.Reads as reply_reads

pub place_firm : Firm 0 place.ps place.r place_reads.Asked place_reads.Post
place_firm = equation refl

pub seated_firm : Firm 0 seated.ps seated.r seated_reads.Asked seated_reads.Post
seated_firm = equation refl

pub reply_firm : Firm 0 reply.ps reply.r reply_reads.Asked reply_reads.Post
reply_firm = equation refl
