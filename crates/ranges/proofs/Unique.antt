-- The contracts of `all`, `first` and `next` are firm: each is an equation of the answer.
-- Assumes nothing.
use mathlib.Core.Path.{refl}
use Rattle.answers.specs.Firm.{Firm}
use Rattle.answers.proofs.Firm.{equation}
use Rattle.ranges.proofs.all.Kinds as all
use Rattle.ranges.proofs.all.Reads as reading
use Rattle.ranges.proofs.first.Kinds as first
use Rattle.ranges.proofs.first.Reads as starting
use Rattle.ranges.proofs.next.Kinds as next
use Rattle.ranges.proofs.next.Reads as stepping

pub all_firm : Firm 1 all.ps all.r reading.Asked reading.Post
all_firm = equation refl

pub first_firm : Firm 0 first.ps first.r starting.Asked starting.Post
first_firm = equation refl

pub next_firm : Firm 1 next.ps next.r stepping.Asked stepping.Post
next_firm = equation refl
