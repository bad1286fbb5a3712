-- Sums over the numbers below n, and tests of all of them: the table's 192 entries are counted as the streams with an ID below 256.
-- Assumes nothing.
use Prim.Native.Nat.{ℕ, zero, suc, ◌+◌, ◌*◌, ◌/◌, ◌%◌, ◌≤◌, ◌<◌}
use mathlib.Core.Path.{◌≡◌, refl, ◌∙◌, ap}
use mathlib.Core.Bool.{Bool, true, and-eq-true_iff}
use native.Mathlib.Omega.{arith}
use native.Mathlib.Decide.{ℕ_discrete, le_ind}
use native.Mathlib.Nat.{add-suc}
use lib.Dec.{eqb}
use borrow.Author.Tests.{eq-eqb, ne_eqb}
use Rattle.answers.specs.Choice.{◌⇒◌∣◌}
use Rattle.halves.specs.Stream.{place_of}
use Rattle.limits.specs.Fits.{sum_to, all_to}
use Rattle.accounts.proofs.Tests.{place_is}

pub sum_same : (n : ℕ) (f g : ℕ → ℕ) → ((i : ℕ) → i < n → f i ≡ g i) → sum_to n f ≡ sum_to n g
unfolding sum_to
sum_same zero f g h = refl
sum_same (suc n) f g h = omega (arith, sum_same n f g (λ i l. h i (omega arith)), h n (omega arith))

pub sum_le : (n : ℕ) (f g : ℕ → ℕ) → ((i : ℕ) → i < n → f i ≤ g i) → sum_to n f ≤ sum_to n g
unfolding sum_to
sum_le zero f g h = omega arith
sum_le (suc n) f g h = omega (arith, sum_le n f g (λ i l. h i (omega arith)), h n (omega arith))

pub sum_zero : (n : ℕ) (f : ℕ → ℕ) → ((i : ℕ) → i < n → f i ≡ 0) → sum_to n f ≡ 0
unfolding sum_to
sum_zero zero f h = refl
sum_zero (suc n) f h = omega (arith, sum_zero n f (λ i l. h i (omega arith)), h n (omega arith))

-- two that differ at k alone
pub sum_at : (n k : ℕ) (f g : ℕ → ℕ) → k < n → ((i : ℕ) → i < n → (i ≡ k → ⊥) → f i ≡ g i) → sum_to n f + g k ≡ sum_to n g + f k
unfolding sum_to
sum_at zero k f g l h = absurd (omega arith)
sum_at (suc n) k f g l h = go (ℕ_discrete k n) (λ m. sum_at n k f g m (λ i m x. h i (omega arith) x))
  where
    go : Dec (k ≡ n) → (k < n → sum_to n f + g k ≡ sum_to n g + f k) → sum_to n f + f n + g k ≡ sum_to n g + g n + f k
    go (yes e) ih = omega (arith, sum_same n f g (λ i m. h i (omega arith) (omega arith)), ap f e, ap g e)
    go (no e) ih = omega (arith, ih (omega arith), h n (omega arith) (omega arith))

-- none counts from n on
pub sum_more : (n : ℕ) (f : ℕ → ℕ) → ((i : ℕ) → n ≤ i → f i ≡ 0) → (m : ℕ) → n ≤ m → sum_to m f ≡ sum_to n f
unfolding sum_to
sum_more n f h = le_ind (λ m. sum_to m f ≡ sum_to n f) refl (λ m l e. omega (arith, h m l))

pub sum_add : (n m : ℕ) (f : ℕ → ℕ) → sum_to (n + m) f ≡ sum_to n f + sum_to m (λ i. f (n + i))
unfolding sum_to
sum_add n zero f = let e : n + 0 ≡ n = omega arith in omega (arith, ap (λ (x : ℕ). sum_to x f) e)
sum_add n (suc m) f = ap (λ (x : ℕ). sum_to x f) (add-suc n m) ∙ omega (arith, sum_add n m f)

-- by fours
pub sum_fours : (n : ℕ) (f : ℕ → ℕ) → sum_to (4 * n) f ≡ sum_to n (λ i. f (4 * i)) + sum_to n (λ i. f (4 * i + 1)) + sum_to n (λ i. f (4 * i + 2)) + sum_to n (λ i. f (4 * i + 3))
unfolding sum_to
sum_fours zero f = refl
sum_fours (suc n) f =
    let e : 4 * suc n ≡ suc (suc (suc (suc (4 * n)))) = omega arith in
    let a : f (suc (4 * n)) ≡ f (4 * n + 1) = ap f (omega arith) in
    let b : f (suc (suc (4 * n))) ≡ f (4 * n + 2) = ap f (omega arith) in
    let d : f (suc (suc (suc (4 * n)))) ≡ f (4 * n + 3) = ap f (omega arith) in
    ap (λ (x : ℕ). sum_to x f) e ∙ omega (arith, sum_fours n f)

-- the sum over the 192 entries, as one over the streams with an ID below 256
pub sum_streams : (g : ℕ → ℕ) → sum_to 192 g ≡ sum_to 256 (λ id. eqb (id % 4) 3 ⇒ 0 ∣ g (place_of id))
sum_streams g =
    sum_add 64 128 g ∙ omega (
      arith,
      sum_add 64 64 (λ i. g (64 + i)),
      sum_fours 64 f,
      sum_same 64 (λ i. f (4 * i)) g (λ i l. at (4 * i) i (omega arith) (omega arith) (omega arith)),
      sum_same 64 (λ i. f (4 * i + 1)) (λ i. g (64 + i)) (λ i l. at (4 * i + 1) (64 + i) (omega arith) (omega arith) (omega arith)),
      sum_same 64 (λ i. f (4 * i + 2)) (λ i. g (64 + (64 + i))) (λ i l. at (4 * i + 2) (64 + (64 + i)) (omega arith) (omega arith) (omega arith)),
      sum_zero 64 (λ i. f (4 * i + 3)) (λ i l. none (4 * i + 3) (omega arith)),
    )
  where
    f : ℕ → ℕ
    f id = eqb (id % 4) 3 ⇒ 0 ∣ g (place_of id)

    at : (id i : ℕ) → id % 4 < 3 → id / 4 < 64 → 64 * (id % 4) + id / 4 ≡ i → f id ≡ g i
    at id i a b e = simp (ne_eqb (id % 4) 3 (omega arith)) (ap g (place_is id (a, b) ∙ e))

    none : (id : ℕ) → id % 4 ≡ 3 → f id ≡ 0
    none id h = simp (eq-eqb (id % 4) 3 h)

-- ---- a test of every number below n

pub all_at : (n : ℕ) (p : ℕ → Bool) → all_to n p ≡ true → (i : ℕ) → i < n → p i ≡ true
unfolding all_to
all_at zero p e i l = absurd (omega arith)
all_at (suc n) p e i l = go (ℕ_discrete i n) (all_at n p ((and-eq-true_iff (all_to n p) (p n)).0 e).0 i)
  where
    go : Dec (i ≡ n) → (i < n → p i ≡ true) → p i ≡ true
    go (yes s) ih = ap p s ∙ ((and-eq-true_iff (all_to n p) (p n)).0 e).1
    go (no s) ih = ih (omega arith)

pub all_of : (n : ℕ) (p : ℕ → Bool) → ((i : ℕ) → i < n → p i ≡ true) → all_to n p ≡ true
unfolding all_to
all_of zero p h = refl
all_of (suc n) p h = simp (all_of n p (λ i l. h i (omega arith)), h n (omega arith))
