-- The contracts of `table::find`, `pieces::read_numbers` and `pieces::read_body` are firm: each is an equation of the answer.
-- Assumes nothing.
use mathlib.Core.Path.{refl}
use Rattle.answers.specs.Firm.{Firm}
use Rattle.answers.proofs.Firm.{equation}
use Rattle.layouts.proofs.table.find.Kinds as find
use Rattle.layouts.proofs.table.find.Reads as finding
use Rattle.layouts.proofs.pieces.read_numbers.Kinds as numbers
use Rattle.layouts.proofs.pieces.read_numbers.Reads as numbers_reads
use Rattle.layouts.proofs.pieces.read_body.Kinds as body
use Rattle.layouts.proofs.pieces.read_body.Reads as body_Reads

pub find_firm : Firm 0 find.ps find.r finding.Asked finding.Post
find_firm = equation refl

pub read_numbers_firm : Firm 1 numbers.ps numbers.r numbers_reads.Asked numbers_reads.Post
read_numbers_firm = equation refl

pub read_body_firm : Firm 1 body.ps body.r body_Reads.Asked body_Reads.Post
read_body_firm = equation refl
