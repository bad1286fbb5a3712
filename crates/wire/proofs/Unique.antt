-- The contracts of `read`, `size` and `write` are firm: each is an equation of the answer, and `write`'s of the answer and the output.
-- Assumes nothing.
use mathlib.Core.Path.{refl}
use Rattle.answers.specs.Firm.{Firm}
use Rattle.answers.proofs.Firm.{equation, outcome_equation}
use Rattle.wire.proofs.read.Kinds as read
use Rattle.wire.proofs.read.Reads as reading
use Rattle.wire.proofs.size.Kinds as size
use Rattle.wire.proofs.size.Reads as sizing
use Rattle.wire.proofs.write.Kinds as write
use Rattle.wire.proofs.write.Reads as writing

pub read_firm : Firm 1 read.ps read.r reading.Asked reading.Post
read_firm = equation refl

pub size_firm : Firm 0 size.ps size.r sizing.Asked sizing.Post
size_firm = equation refl

pub write_firm : Firm 1 write.ps write.r writing.Asked writing.Post
write_firm = outcome_equation (λ κs a w. (w, (tt, (tt, tt)))) refl
