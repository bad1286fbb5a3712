-- The contract of every function that other crates can call is firm: it asks nothing and is an equation of the answer.
-- Assumes nothing.
use mathlib.Core.Path.{refl}
use Rattle.answers.specs.Firm.{Firm}
use Rattle.answers.proofs.Firm.{equation}
use Rattle.search.proofs.find.Kinds as find
use Rattle.search.proofs.find.Reads as find_reads
use Rattle.search.proofs.word_end.Kinds as word_end
use Rattle.search.proofs.word_end.Reads as word_end_reads
use Rattle.search.proofs.line_end.Kinds as line_end
use Rattle.search.proofs.line_end.Reads as line_end_reads
use Rattle.search.proofs.same.Kinds as same
use Rattle.search.proofs.same.Reads as same_Reads

pub find_firm : Firm 1 find.ps find.r find_reads.Asked find_reads.Post
find_firm = equation refl

pub word_end_firm : Firm 1 word_end.ps word_end.r word_end_reads.Asked word_end_reads.Post
word_end_firm = equation refl

pub line_end_firm : Firm 1 line_end.ps line_end.r line_end_reads.Asked line_end_reads.Post
line_end_firm = equation refl

pub same_firm : Firm 2 same.ps same.r same_Reads.Asked same_Reads.Post
same_firm = equation refl
