-- What is said of a recovered number and of a length loses nothing: a value comes with acceptance alone, a number is that of one answer, and a size is found by its bytes.
-- Assumes nothing.
use mathlib.Core.Path.{◌≡◌, refl, ap}
use Prim.Native.Nat.{ℕ}
use lib.Dec.{eqb}
use Rattle.answers.specs.Choice.{◌⇒◌∣◌}
use Rattle.answers.proofs.Numbers.{answer_of, again}
use Rattle.answers.proofs.Said.{one_value, found_by}
use Rattle.numbers.specs.Said.{recovered_says, length_says}
use Rattle.numbers.specs.declared.Size.{Size}
use Rattle.numbers.specs.declared.Size.TheVariants.{One, Two, Three, Four}
use Rattle.std.specs.Prelude.{Result, Ok, Err}
use Rattle.answers.specs.declared.Answer.{Answer}

recovered_again : (x : Result ℕ Answer) → found_by Ok (λ n. Err (answer_of n)) (recovered_says x) ≡ x
recovered_again (Ok number) = refl
recovered_again (Err answer) = ap Err (again answer)

pub one_recovered : (x y : Result ℕ Answer) → recovered_says x ≡ recovered_says y → x ≡ y
one_recovered = one_value recovered_says (found_by Ok (λ n. Err (answer_of n))) recovered_again

-- the size of so many bytes
abbrev size_of : ℕ → Size
size_of n =
    eqb n 1 ⇒ One
    ∣ eqb n 2 ⇒ Two
    ∣ eqb n 3 ⇒ Three
    ∣ Four

length_again : (x : Result Size Answer) → found_by (λ n. Ok (size_of n)) (λ n. Err (answer_of n)) (length_says x) ≡ x
length_again (Ok One) = refl
length_again (Ok Two) = refl
length_again (Ok Three) = refl
length_again (Ok Four) = refl
length_again (Err answer) = ap Err (again answer)

pub one_length : (x y : Result Size Answer) → length_says x ≡ length_says y → x ≡ y
one_length = one_value length_says (found_by (λ n. Ok (size_of n)) (λ n. Err (answer_of n))) length_again
