-- The contract of the function that other crates can call is firm: it asks nothing and is an equation of the answer.
-- Assumes nothing.
use mathlib.Core.Path.{refl}
use Rattle.answers.specs.Firm.{Firm}
use Rattle.answers.proofs.Firm.{equation}
use Rattle.admission.proofs.admits.Kinds as admits
use Rattle.admission.proofs.admits.Reads as admitting

pub admits_firm : Firm 0 admits.ps admits.r admitting.Asked admitting.Post
admits_firm = equation refl
