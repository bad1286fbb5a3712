-- The contracts of `offer` and `hand` are firm: each is equations of the answer and of every slice that was lent to be written.
-- Assumes nothing.
use mathlib.Core.Path.{sym, ◌∙◌}
use Rattle.answers.specs.Firm.{Firm}
use Rattle.holding.proofs.offer.Kinds as offer
use Rattle.holding.proofs.offer.Reads as offering
use Rattle.holding.proofs.hand.Kinds as hand
use Rattle.holding.proofs.hand.Reads as handing

pub offer_firm : Firm 3 offer.ps offer.r offering.Asked offering.Post
offer_firm = record {
  asks_nothing = λ κs a. tt;
  one_outcome = λ κs a x y ws vs p q. λ i.
      ((p.0 ∙ sym q.0) i, ((p.1.0 ∙ sym q.1.0) i, ((p.1.1 ∙ sym q.1.1) i, (tt, (tt, (tt, tt))))));
}

pub hand_firm : Firm 3 hand.ps hand.r handing.Asked handing.Post
hand_firm = record {
  asks_nothing = λ κs a. tt;
  one_outcome = λ κs a x y ws vs p q. λ i. ((p.0 ∙ sym q.0) i, (tt, (tt, (tt, ((p.1 ∙ sym q.1) i, tt)))));
}
