-- The contract of every function that other crates can call is firm: it asks nothing and is an equation of the answer, and of the output where there is one.
-- Assumes nothing.
use mathlib.Core.Path.{refl}
use borrow.Table.Referent.{rt_f, f_int}
use mir.Syntax.{w8}
use Rattle.answers.specs.Firm.{Firm, FirmPart}
use Rattle.answers.proofs.Firm.{equation, outcome_equation, part_equation}
use Rattle.lines.proofs.words.count.Kinds as count
use Rattle.lines.proofs.words.count.Reads as count_reads
use Rattle.lines.proofs.words.word.Kinds as word
use Rattle.lines.proofs.words.word.Reads as word_reads
use Rattle.lines.proofs.words.with_sign.Kinds as with_sign
use Rattle.lines.proofs.words.with_sign.Reads as with_sign_reads
use Rattle.lines.proofs.words.bytes.Kinds as bytes
use Rattle.lines.proofs.words.bytes.Reads as bytes_reads
use Rattle.lines.proofs.gather.gather.Kinds as gather
use Rattle.lines.proofs.gather.gather.Reads as gather_reads

pub count_firm : Firm 1 count.ps count.r count_reads.Asked count_reads.Post
count_firm = equation refl

-- a word is the bytes that are handed back
pub word_firm : FirmPart 1 word.ps (rt_f (f_int w8)) 0 tt word_reads.Asked word_reads.Post
word_firm = part_equation refl

pub with_sign_firm : Firm 1 with_sign.ps with_sign.r with_sign_reads.Asked with_sign_reads.Post
with_sign_firm = equation refl

pub bytes_firm : Firm 2 bytes.ps bytes.r bytes_reads.Asked bytes_reads.Post
bytes_firm = outcome_equation (λ κs a w. (tt, (w, tt))) refl

pub gather_firm : Firm 2 gather.ps gather.r gather_reads.Asked gather_reads.Post
gather_firm = outcome_equation (λ κs a w. (w, (tt, (tt, tt)))) refl
