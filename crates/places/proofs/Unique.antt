-- The contracts of `up`, `run` and `paint` are firm: each is an equation, of the answer or of the lent words.
-- Assumes nothing.
use mathlib.Core.Path.{refl, sym, ◌∙◌}
use Rattle.answers.specs.Firm.{Firm}
use Rattle.answers.proofs.Firm.{equation}
use Rattle.places.proofs.up.Kinds as up
use Rattle.places.proofs.up.Reads as going
use Rattle.places.proofs.run.Kinds as run
use Rattle.places.proofs.run.Reads as running
use Rattle.places.proofs.paint.Kinds as paint
use Rattle.places.proofs.paint.Reads as painting

pub up_firm : Firm 1 up.ps up.r going.Asked going.Post
up_firm = equation refl

pub run_firm : Firm 1 run.ps run.r running.Asked running.Post
run_firm = equation refl

pub paint_firm : Firm 1 paint.ps paint.r painting.Asked painting.Post
paint_firm = record {
  asks_nothing = λ κs a. tt;
  one_outcome = λ κs a x y ws vs p q. λ i. (tt, ((p ∙ sym q) i, (tt, (tt, (tt, tt)))));
}
