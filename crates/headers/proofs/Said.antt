-- What is said of a first byte loses nothing: a kind comes with acceptance alone.
-- Assumes nothing.
use mathlib.Core.Path.{◌≡◌, refl}
use Rattle.answers.proofs.Said.{one_value, found_by}
use Rattle.headers.specs.Said.{header_says}
use Rattle.std.specs.Prelude.{Option, Some, None}
use Rattle.kinds.specs.declared.Kind.{Kind}

header_again : (x : Option Kind) → found_by Some (λ n. None) (header_says x) ≡ x
header_again (Some kind) = refl
header_again None = refl

pub one_header : (x y : Option Kind) → header_says x ≡ header_says y → x ≡ y
one_header = one_value header_says (found_by Some (λ n. None)) header_again
