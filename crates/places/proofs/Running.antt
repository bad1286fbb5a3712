-- The longest run is what is meant by it, and a run that is stopped is the longest.
-- Assumes nothing.
use Prim.Native.Nat.{ℕ, zero, suc, ◌+◌, ◌≤◌, ◌<◌}
use mathlib.Core.Path.{◌≡◌, refl, ◌∙◌, ap}
use mathlib.Core.Bool.{Bool, true, false}
use native.Mathlib.Omega.{arith}
use native.Mathlib.Decide.{ℕ_discrete}
use Rattle.answers.specs.Choice.{◌⇒◌∣◌}
use Rattle.places.specs.Places.{run_of, Longest}

pub run_is : (f : ℕ → Bool) (n p r : ℕ) → r ≤ n → ((q : ℕ) → p ≤ q → q < p + r → f q ≡ true) → (r < n → f (p + r) ≡ false) → run_of f p n ≡ r
unfolding run_of
run_is f zero p r h all stop = omega arith
run_is f (suc n) p zero h all stop =
    let e : f p ≡ false = ap f (omega arith) ∙ stop (omega arith) in
    simp e
run_is f (suc n) p (suc r) h all stop =
    simp (all p (omega arith) (omega arith))
    (ap suc (run_is f n (suc p) r (omega arith) (λ q a b. all q (omega arith) (omega arith)) (λ l. ap f (omega arith) ∙ stop (omega arith))))

pub run_longest : (f : ℕ → Bool) (n p : ℕ) → Longest f p n (run_of f p n)
unfolding run_of
run_longest f zero p = record { fits = omega arith; all = λ q a b. absurd (omega arith); stop = λ h. absurd (omega arith) }
run_longest f (suc n) p = go (run_longest f n (suc p)) (f p) refl
  where
    go : Longest f (suc p) n (run_of f (suc p) n) → (b : Bool) → f p ≡ b → Longest f p (suc n) (b ⇒ suc (run_of f (suc p) n) ∣ 0)
    go l false e = record { fits = omega arith; all = λ q a b. absurd (omega arith); stop = λ h. ap f (omega arith) ∙ e }
    go l true e = record {
      fits = omega (arith, l.fits);
      all = λ q a b. first q a b (ℕ_discrete q p);
      stop = λ h. ap f (omega arith) ∙ l.stop (omega arith);
    }
      where
        first : (q : ℕ) → p ≤ q → q < p + suc (run_of f (suc p) n) → Dec (q ≡ p) → f q ≡ true
        first q a b (yes d) = ap f d ∙ e
        first q a b (no d) = l.all q (omega arith) (omega arith)
