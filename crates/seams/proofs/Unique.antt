-- The contracts of `store`, `take` and `same_at` are firm: each is an equation, of the answer or of what was lent to be written.
-- Assumes nothing.
use mathlib.Core.Path.{refl, sym, ◌∙◌}
use Rattle.answers.specs.Firm.{Firm}
use Rattle.answers.proofs.Firm.{equation}
use Rattle.seams.proofs.store.Kinds as store
use Rattle.seams.proofs.store.Reads as storing
use Rattle.seams.proofs.take.Kinds as take
use Rattle.seams.proofs.take.Reads as taking
use Rattle.seams.proofs.same_at.Kinds as same_at
use Rattle.seams.proofs.same_at.Reads as comparing

pub store_firm : Firm 2 store.ps store.r storing.Asked storing.Post
store_firm = record {
  asks_nothing = λ κs a. tt;
  one_outcome = λ κs a x y ws vs p q. λ i. (tt, ((p ∙ sym q) i, (tt, (tt, (tt, (tt, tt))))));
}

pub take_firm : Firm 2 take.ps take.r taking.Asked taking.Post
take_firm = record {
  asks_nothing = λ κs a. tt;
  one_outcome = λ κs a x y ws vs p q. λ i. (tt, (tt, ((p ∙ sym q) i, (tt, (tt, tt)))));
}

pub same_at_firm : Firm 2 same_at.ps same_at.r comparing.Asked comparing.Post
same_at_firm = equation refl
