-- Numbers in range are each in range: the first and the others, and four of them.
-- Assumes nothing.
use mathlib.Core.Path.{◌≡◌}
use mathlib.Core.Bool.{true, and-eq-true_iff}
use mathlib.Core.List.{List, [], ◌∷◌}
use Prim.Native.Nat.{ℕ, ◌-◌, ◌^◌, ◌<◌}
use native.Mathlib.Omega.{arith}
use borrow.Author.Tests.{leb-true}
use lib.Dec.{leb}
use Rattle.row.specs.Row.{in_range}

-- the first of numbers in range, and the others
pub first_in_range : (v : ℕ) (vs : List ℕ) → in_range (v ∷ vs) ≡ true → (v < 2 ^ 62) × (in_range vs ≡ true)
unfolding in_range
first_in_range v vs e =
    let b = (and-eq-true_iff (leb v (2 ^ 62 - 1)) (in_range vs)).0 e in
    (omega (arith, leb-true v (2 ^ 62 - 1) b.0), b.1)

pub four_in_range : (a b c d : ℕ) → in_range (a ∷ b ∷ c ∷ d ∷ []) ≡ true → (a < 2 ^ 62) × (b < 2 ^ 62) × (c < 2 ^ 62) × (d < 2 ^ 62)
four_in_range a b c d e =
    let p = first_in_range a (b ∷ c ∷ d ∷ []) e in
    let q = first_in_range b (c ∷ d ∷ []) p.1 in
    let r = first_in_range c (d ∷ []) q.1 in
    let s = first_in_range d [] r.1 in
    (p.0, q.0, r.0, s.0)
