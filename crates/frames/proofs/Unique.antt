-- The contracts of `read` and `read_any` are firm: each is an equation of the answer.
-- Assumes nothing.
use mathlib.Core.Path.{refl}
use Rattle.answers.specs.Firm.{Firm}
use Rattle.answers.proofs.Firm.{equation}
use Rattle.frames.proofs.read.Kinds as read
use Rattle.frames.proofs.read.Reads as reading
use Rattle.frames.proofs.read_any.Kinds as read_any
use Rattle.frames.proofs.read_any.Reads as reading_any

pub read_firm : Firm 1 read.ps read.r reading.Asked reading.Post
read_firm = equation refl

pub read_any_firm : Firm 1 read_any.ps read_any.r reading_any.Asked reading_any.Post
read_any_firm = equation refl
