-- A word as a number with a sign, by its first character.
-- Assumes nothing.
use mathlib.Core.Path.{◌≡◌, refl}
use mathlib.Core.Bool.{true, false}
use mathlib.Core.Logic.{◌⊎◌, inl, inr}
use mathlib.Core.List.{List, [], ◌∷◌}
use Prim.Native.Nat.{ℕ, ◌-◌}
use native.Mathlib.Omega.{arith}
use borrow.Author.Tests.{eq-eqb, ne_eqb}
use lib.ListN.{length, get_or, take, drop}
use Rattle.text.specs.Decimal.{parsed_of}
use Rattle.lines.specs.Words.{as_signed, signed_of}
use Rattle.lines.proofs.Finding.{rest_of}

pub behind_dash : (w : List ℕ) → get_or w 0 0 ≡ 45 → signed_of w ≡ as_signed true (parsed_of (take (length w - 1) (drop 1 w)))
unfolding signed_of
behind_dash [] e = absurd (omega arith)
behind_dash (x ∷ w) e = rw (rest_of (x ∷ w) 1, eq-eqb _ _ e)

-- an empty word has no digits
pub no_dash : (w : List ℕ) → (length w ≡ 0) ⊎ (get_or w 0 0 ≡ 45 → ⊥) → signed_of w ≡ as_signed false (parsed_of w)
unfolding signed_of parsed_of as_signed
no_dash [] n = refl
no_dash (x ∷ w) (inl e) = absurd (omega arith)
no_dash (x ∷ w) (inr n) = rw (ne_eqb _ _ n)
