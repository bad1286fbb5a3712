-- What an outcome says of the answer that it reads: it passes just where the answer accepts, and an error is the answer that refuses.
-- And what an outcome says loses nothing: two that say the same are one.
-- Assumes nothing.
use mathlib.Core.Path.{◌≡◌, refl, ap}
use mathlib.Core.Bool.{Bool, true, false}
use Rattle.std.specs.Prelude.{Result, Ok, Err}
use Rattle.answers.specs.Choice.{◌⇒◌∣◌}
use Rattle.answers.specs.Answers.{accepts}
use Rattle.answers.specs.Outcome.{outcome_of, outcome_says}
use Rattle.answers.specs.declared.Answer.{Answer}
use Rattle.answers.specs.declared.Answer.TheVariants.{Accepted}
use Rattle.answers.proofs.Accepts.{accepts_true}
use Rattle.answers.proofs.Distinct.{impossible}
use Rattle.answers.proofs.Numbers.{answer_of, again}
use Rattle.answers.proofs.Said.{one_value, found_by}

pub passes : (a : Answer) → outcome_of a ≡ Ok tt → a ≡ Accepted
passes a = go (accepts a) refl
  where
    go : (b : Bool) → accepts a ≡ b → ◌≡◌ {A = Result (Unit {0}) Answer} (b ⇒ Ok tt ∣ Err a) (Ok tt) → a ≡ Accepted
    go true p e = accepts_true a p
    go false p e = impossible cc

pub refuses_with : (a b : Answer) → outcome_of a ≡ Err b → (a ≡ b) × (accepts a ≡ false)
refuses_with a b = go (accepts a) refl
  where
    go : (t : Bool) → accepts a ≡ t → ◌≡◌ {A = Result (Unit {0}) Answer} (t ⇒ Ok tt ∣ Err a) (Err b) → (a ≡ b) × (accepts a ≡ false)
    go true p e = impossible cc
    go false p e = (cc, p)

found_again : (x : Result (Unit {0}) Answer) → found_by Ok (λ n. Err (answer_of n)) (outcome_says x) ≡ x
found_again (Ok told) = refl
found_again (Err answer) = ap Err (again answer)

pub one_outcome_said : (x y : Result (Unit {0}) Answer) → outcome_says x ≡ outcome_says y → x ≡ y
one_outcome_said = one_value outcome_says (found_by Ok (λ n. Err (answer_of n))) found_again
