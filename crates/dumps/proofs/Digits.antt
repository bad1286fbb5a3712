-- Hexadecimal digits: what each test tells of a half, by the tests in turn.
-- Assumes nothing.
use mathlib.Core.Path.{◌≡◌, refl}
use mathlib.Core.Bool.{true, false, false≢true, ◌&&◌, and-eq-true_iff}
use Prim.Native.Nat.{ℕ, ◌+◌, ◌-◌, ◌≤◌, ◌<◌}
use native.Mathlib.Omega.{arith}
use borrow.Author.Tests.{le-leb, lt-leb, leb-true}
use lib.Dec.{leb}
use Rattle.std.specs.Prelude.{Option, Some, None}
use Rattle.std.specs.Option.{is_some}
use Rattle.answers.proofs.Choice.{holds}
use Rattle.answers.proofs.Distinct.{impossible}
use Rattle.dumps.specs.Digits.{half_of, is_half}

-- by the tests in turn
module _ (c : ℕ) where
  pub half_figure : 48 ≤ c → c ≤ 57 → half_of c ≡ Some (c - 48)
  unfolding half_of
  half_figure l h = simp (le-leb 48 c l, le-leb c 57 h)

  pub half_upper : 65 ≤ c → c ≤ 70 → half_of c ≡ Some (c - 65 + 10)
  unfolding half_of
  half_upper l h =
      let e : c - 65 + 10 ≡ c - 55 = omega arith in
      rw e (simp (le-leb 48 c (omega arith), lt-leb c 57 (omega arith), le-leb 65 c l, le-leb c 70 h))

  pub half_lower : 97 ≤ c → c ≤ 102 → half_of c ≡ Some (c - 97 + 10)
  unfolding half_of
  half_lower l h =
      let e : c - 97 + 10 ≡ c - 87 = omega arith in
      rw e (simp (le-leb 48 c (omega arith), lt-leb c 57 (omega arith), le-leb 65 c (omega arith), lt-leb c 70 (omega arith), le-leb 97 c l, le-leb c 102 h))

  pub none_below : c < 48 → half_of c ≡ None
  unfolding half_of
  none_below h = simp (lt-leb 48 c h, lt-leb 65 c (omega arith), lt-leb 97 c (omega arith))

  pub none_first : 57 < c → c < 65 → half_of c ≡ None
  unfolding half_of
  none_first l h = simp (le-leb 48 c (omega arith), lt-leb c 57 l, lt-leb 65 c h, lt-leb 97 c (omega arith))

  pub none_second : 70 < c → c < 97 → half_of c ≡ None
  unfolding half_of
  none_second l h = simp (le-leb 48 c (omega arith), lt-leb c 57 (omega arith), le-leb 65 c (omega arith), lt-leb c 70 l, lt-leb 97 c h)

  pub none_above : 102 < c → half_of c ≡ None
  unfolding half_of
  none_above l = simp (le-leb 48 c (omega arith), lt-leb c 57 (omega arith), le-leb 65 c (omega arith), lt-leb c 70 (omega arith), le-leb 97 c (omega arith), lt-leb c 102 l)

  between : (a b : ℕ) → (leb a c && leb c b) ≡ true → (a ≤ c) × (c ≤ b)
  between a b e = let t = (and-eq-true_iff (leb a c) (leb c b)).0 e in (leb-true a c t.0, leb-true c b t.1)

  pub half_bound : {d : ℕ} → half_of c ≡ Some d → d < 16
  unfolding half_of
  half_bound {d} =
      holds (λ (h : Option ℕ). h ≡ Some d → d < 16) (leb 48 c && leb c 57) _ _ (λ e p. let q : c - 48 ≡ d = cc in omega (arith, between 48 57 e)) (λ e.
      holds (λ (h : Option ℕ). h ≡ Some d → d < 16) (leb 65 c && leb c 70) _ _ (λ f p. let q : c - 55 ≡ d = cc in omega (arith, between 65 70 f)) (λ f.
      holds (λ (h : Option ℕ). h ≡ Some d → d < 16) (leb 97 c && leb c 102) _ _ (λ g p. let q : c - 87 ≡ d = cc in omega (arith, between 97 102 g)) (λ g p. impossible cc)))

  pub a_half : is_half c ≡ true → (d : ℕ) × (half_of c ≡ Some d)
  unfolding is_half
  a_half =
      elim (half_of c) as (λ (o : Option ℕ). is_some o ≡ true → (d : ℕ) × (o ≡ Some d)) [
        | Some d ↦ λ e. (d, refl)
        | None ↦ λ e. absurd (false≢true e)
      ]

  pub is_half_law : {d : ℕ} → half_of c ≡ Some d → is_half c ≡ true
  unfolding is_half
  is_half_law e = rw e

  pub no_half : half_of c ≡ None → is_half c ≡ false
  unfolding is_half
  no_half e = rw e
