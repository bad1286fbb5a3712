-- What a writer's answer says loses nothing: a place comes with acceptance alone, and a number is that of one answer.
-- Assumes nothing.
use mathlib.Core.Path.{◌≡◌, refl, ap}
use Rattle.answers.proofs.Numbers.{answer_of, again}
use Rattle.answers.proofs.Said.{one_value, found_by}
use Rattle.wire.specs.Said.{wrote_says}
use Rattle.std.specs.Prelude.{ℕ, Result, Ok, Err}
use Rattle.answers.specs.declared.Answer.{Answer}

found_again : (x : Result ℕ Answer) → found_by Ok (λ n. Err (answer_of n)) (wrote_says x) ≡ x
found_again (Ok next) = refl
found_again (Err answer) = ap Err (again answer)

pub one_wrote : (x y : Result ℕ Answer) → wrote_says x ≡ wrote_says y → x ≡ y
one_wrote = one_value wrote_says (found_by Ok (λ n. Err (answer_of n))) found_again
