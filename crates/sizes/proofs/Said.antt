-- What is said of measuring a frame loses nothing: a size comes with acceptance alone.
-- Assumes nothing.
use mathlib.Core.Path.{◌≡◌, refl}
use Rattle.answers.proofs.Said.{one_value, found_by}
use Rattle.sizes.specs.Said.{measured_says}
use Rattle.std.specs.Prelude.{ℕ, Option, Some, None}

measured_again : (x : Option ℕ) → found_by Some (λ n. None) (measured_says x) ≡ x
measured_again (Some bytes) = refl
measured_again None = refl

pub one_measured : (x y : Option ℕ) → measured_says x ≡ measured_says y → x ≡ y
one_measured = one_value measured_says (found_by Some (λ n. None)) measured_again
