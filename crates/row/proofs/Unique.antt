-- The contracts of `in_range`, `size` and `write` are firm: each is an equation of the answer, and `write`'s of the answer and the output.
-- Assumes nothing.
use mathlib.Core.Path.{refl}
use Rattle.answers.specs.Firm.{Firm}
use Rattle.answers.proofs.Firm.{equation, outcome_equation}
use Rattle.row.proofs.in_range.Kinds as in_range_law
use Rattle.row.proofs.in_range.Reads as ranging
use Rattle.row.proofs.size.Kinds as size
use Rattle.row.proofs.size.Reads as sizing
use Rattle.row.proofs.write.Kinds as write
use Rattle.row.proofs.write.Reads as writing

pub in_range_firm : Firm 1 in_range_law.ps in_range_law.r ranging.Asked ranging.Post
in_range_firm = equation refl

pub size_firm : Firm 1 size.ps size.r sizing.Asked sizing.Post
size_firm = equation refl

pub write_firm : Firm 2 write.ps write.r writing.Asked writing.Post
write_firm = outcome_equation (λ κs a w. (w, (tt, (tt, tt)))) refl
