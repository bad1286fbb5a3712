-- The contracts of `new`, `check`, `test`, `take`, `next_run`, `check_of`, `test_of` and `take_of` are firm: each is an equation of the answer, `take`'s of the record too, and `take_of`'s of the lent one.
-- Assumes nothing.
use mathlib.Core.Path.{refl, sym, ◌∙◌}
use Rattle.answers.specs.Firm.{Firm}
use Rattle.answers.proofs.Firm.{equation}
use Rattle.records.proofs.Record.new.Kinds as new
use Rattle.records.proofs.Record.new.Reads as making
use Rattle.records.proofs.Record.check.Kinds as check
use Rattle.records.proofs.Record.check.Reads as checking
use Rattle.records.proofs.Record.test.Kinds as test
use Rattle.records.proofs.Record.test.Reads as testing
use Rattle.records.proofs.Record.take.Kinds as take
use Rattle.records.proofs.Record.take.Reads as taking
use Rattle.records.proofs.Record.next_run.Kinds as next_run
use Rattle.records.proofs.Record.next_run.Reads as searching
use Rattle.records.proofs.check_of.Kinds as check_of
use Rattle.records.proofs.check_of.Reads as checking_of
use Rattle.records.proofs.test_of.Kinds as test_of
use Rattle.records.proofs.test_of.Reads as testing_of
use Rattle.records.proofs.take_of.Kinds as take_of
use Rattle.records.proofs.take_of.Reads as taking_of

pub new_firm : Firm 0 new.ps new.r making.Asked making.Post
new_firm = equation refl

pub check_firm : Firm 0 check.ps check.r checking.Asked checking.Post
check_firm = equation refl

pub test_firm : Firm 0 test.ps test.r testing.Asked testing.Post
test_firm = equation refl

pub take_firm : Firm 0 take.ps take.r taking.Asked taking.Post
take_firm = equation refl

pub next_run_firm : Firm 0 next_run.ps next_run.r searching.Asked searching.Post
next_run_firm = equation refl

pub check_of_firm : Firm 1 check_of.ps check_of.r checking_of.Asked checking_of.Post
check_of_firm = equation refl

pub test_of_firm : Firm 1 test_of.ps test_of.r testing_of.Asked testing_of.Post
test_of_firm = equation refl

pub take_of_firm : Firm 1 take_of.ps take_of.r taking_of.Asked taking_of.Post
take_of_firm = record {
  asks_nothing = λ κs a. tt;
  one_outcome = λ κs a x y ws vs p q. λ i. let e = (p ∙ sym q) i in (e.0, (e.1, (tt, tt)));
}
