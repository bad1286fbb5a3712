-- Searching and comparing from a place on: what the character there decides, and the rest; and what the test of sameness tells.
-- Assumes nothing.
use mathlib.Core.Path.{◌≡◌, refl, ap}
use mathlib.Core.Bool.{true, false, ◌&&◌, and-eq-true_iff, and-false}
use mathlib.Core.List.{List, [], ◌∷◌}
use Prim.Native.Nat.{ℕ, zero, suc, ◌+◌, ◌≤◌, ◌<◌}
use native.Mathlib.Omega.{arith}
use borrow.Author.Tests.{eqb-true, eqb-false, eq-eqb, ne_eqb}
use lib.Dec.{eqb}
use lib.ListN.{length, get_or, drop}
use Rattle.answers.proofs.Choice.{holds}
use Rattle.answers.proofs.Distinct.{impossible}
use Rattle.search.specs.Words.{before, same_of}
use Rattle.text.proofs.Steps.{step}

module _ (s : List ℕ) (i : ℕ) (h : i < length s) (b : ℕ) where
  pub before_here : get_or s i 0 ≡ b → before b (drop i s) ≡ 0
  unfolding before
  before_here e = rw (step s i h, eq-eqb _ _ e)

  pub before_later : (get_or s i 0 ≡ b → ⊥) → before b (drop i s) ≡ suc (before b (drop (i + 1) s))
  unfolding before
  before_later n = rw (step s i h, ne_eqb _ _ n)

-- what is found is within the text and holds the byte unless it is the end, and nothing before it does
pub found : (b : ℕ) (l : List ℕ) → (before b l ≤ length l) × (before b l < length l → get_or l (before b l) 0 ≡ b) × ((j : ℕ) → j < before b l → get_or l j 0 ≡ b → ⊥)
unfolding before
found b [] = (omega arith, λ h. absurd (omega arith), λ j h. absurd (omega arith))
found b (x ∷ l) =
    holds (λ (k : ℕ). (k ≤ suc (length l)) × (k < suc (length l) → get_or (x ∷ l) k 0 ≡ b) × ((j : ℕ) → j < k → get_or (x ∷ l) j 0 ≡ b → ⊥)) (eqb x b) 0 (suc (before b l))
    (λ e. (omega arith, λ h. eqb-true x b e, λ j h. absurd (omega arith)))
    (λ e. let i = found b l in (omega arith, λ h. i.1 (omega arith), earlier (eqb-false x b e) i.2))
  where
    earlier : (x ≡ b → ⊥) → ((j : ℕ) → j < before b l → get_or l j 0 ≡ b → ⊥) → (j : ℕ) → j < suc (before b l) → get_or (x ∷ l) j 0 ≡ b → ⊥
    earlier n f zero h = n
    earlier n f (suc j) h = f j (omega arith)

-- sameness from a place on, by the two characters there
pub same_step : (s t : List ℕ) (i : ℕ) → i < length s → i < length t → same_of (drop i s) (drop i t) ≡ (eqb (get_or s i 0) (get_or t i 0) && same_of (drop (i + 1) s) (drop (i + 1) t))
unfolding same_of
same_step s t i h k = rw (step s i h, step t i k)

-- texts of different lengths are not the same
pub not_as_long : (s t : List ℕ) → (length s ≡ length t → ⊥) → same_of s t ≡ false
unfolding same_of
not_as_long [] [] n = absurd (n refl)
not_as_long [] (y ∷ t) n = refl
not_as_long (x ∷ s) [] n = refl
not_as_long (x ∷ s) (y ∷ t) n = rw (not_as_long s t (λ e. n (ap suc e))) (and-false (eqb x y))

-- the test tells sameness
pub told : (s t : List ℕ) → same_of s t ≡ true → s ≡ t
unfolding same_of
told [] [] e = refl
told [] (y ∷ t) e = impossible cc
told (x ∷ s) [] e = impossible cc
told (x ∷ s) (y ∷ t) e =
    let b = (and-eq-true_iff (eqb x y) (same_of s t)).0 e in
    rw (eqb-true x y b.0, told s t b.1)

pub itself : (s : List ℕ) → same_of s s ≡ true
unfolding same_of
itself [] = refl
itself (x ∷ s) = rw (eq-eqb x x refl) (itself s)
