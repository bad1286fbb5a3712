-- Numbers that are read one after the other: the one at a place and the rest, and nothing from a place on where none can be read.
-- Assumes nothing.
use mathlib.Core.Path.{◌≡◌, refl, ◌∙◌, ap}
use mathlib.Core.List.{List, [], ◌∷◌}
use Prim.Native.Nat.{ℕ, zero, suc, ◌+◌, ◌-◌, ◌≤◌, ◌<◌}
use native.Mathlib.Omega.{arith}
use Rattle.wire.specs.Number.{number_at, size_of}
use Rattle.row.specs.Row.{size_all}
use Rattle.ranges.specs.Listed.{listed}
use Rattle.ranges.proofs.Listed.{listed_step}
use Rattle.std.specs.Prelude.{Some, None}

module _ (s : List ℕ) (at : ℕ) where
  pub listed_none : (n : ℕ) → n ≤ 0 → listed s at n ≡ []
  unfolding listed
  listed_none n h = let e : n ≡ 0 = omega arith in rw e

  pub listed_cut : (n : ℕ) → number_at s at ≡ None → listed s at n ≡ []
  unfolding listed
  listed_cut zero e = refl
  listed_cut (suc n) e = rw e

  module _ (n : ℕ) {v next : ℕ} (h : 0 < n) (e : number_at s at ≡ Some (v, next)) where
    pub listed_more : listed s at n ≡ v ∷ listed s next (n - 1)
    listed_more = let q : n ≡ n - 1 + 1 = omega arith in ap (listed s at) q ∙ listed_step s at (n - 1) e

    pub size_more : size_all (listed s at n) ≡ size_of v + size_all (listed s next (n - 1))
    unfolding size_all
    size_more = rw listed_more
