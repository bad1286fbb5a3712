-- The contract of `keep` is firm: it is equations of the answer and of both slices that were lent to be written.
-- Assumes nothing.
use mathlib.Core.Path.{sym, ◌∙◌}
use Rattle.answers.specs.Firm.{Firm}
use Rattle.keeping.proofs.keep.Kinds as keep
use Rattle.keeping.proofs.keep.Reads as keep_reads

pub keep_firm : Firm 3 keep.ps keep.r keep_reads.Asked keep_reads.Post
keep_firm = record {
  asks_nothing = λ κs a. tt;
  one_outcome = λ κs a x y ws vs p q. λ i.
      ((p.0 ∙ sym q.0) i, ((p.1.0 ∙ sym q.1.0) i, ((p.1.1 ∙ sym q.1.1) i, (tt, (tt, (tt, tt))))));
}
