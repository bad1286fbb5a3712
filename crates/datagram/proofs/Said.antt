-- What splitting says loses nothing: a header comes with a packet alone, and a number is that of one answer.
-- Assumes nothing.
use mathlib.Core.Path.{◌≡◌, refl, ap}
use Rattle.answers.proofs.Numbers.{answer_of, again}
use Rattle.answers.proofs.Said.{one_value, found_by}
use Rattle.datagram.specs.Said.{next_says}
use Rattle.std.specs.Prelude.{Result, Ok, Err}
use Rattle.answers.specs.declared.Answer.{Answer}
use Rattle.datagram.specs.declared.Header.{Header}

found_again : (x : Result Header Answer) → found_by Ok (λ n. Err (answer_of n)) (next_says x) ≡ x
found_again (Ok header) = refl
found_again (Err answer) = ap Err (again answer)

pub one_next : (x y : Result Header Answer) → next_says x ≡ next_says y → x ≡ y
one_next = one_value next_says (found_by Ok (λ n. Err (answer_of n))) found_again
