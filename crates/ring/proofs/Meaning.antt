-- The definition of a run says what is meant: the run is recorded throughout, nothing is between it and the start, and it is as long as it can be.
-- Assumes nothing.
use Prim.Native.Nat.{ℕ, zero, suc, ◌+◌, ◌-◌, ◌≤◌, ◌<◌}
use mathlib.Core.Path.{◌≡◌, refl, sym, ◌∙◌, ap}
use mathlib.Core.Bool.{Bool, true, false, true≢false}
use native.Mathlib.Omega.{arith}
use native.Mathlib.Decide.{ℕ_discrete}
use Rattle.answers.specs.Choice.{◌⇒◌∣◌}
use Rattle.ring.specs.declared.Run.{Run}
use Rattle.ring.specs.Runs.{lowest, next_run, Lowest, IsRun, RunOf}
use Rattle.std.specs.Prelude.{Option, Some, None}
use Rattle.ring.specs.Runs.{span}

pub lowest_is : (P : ℕ → Bool) (k : ℕ) → Lowest P k (lowest P k)
unfolding lowest
lowest_is P zero = record { within = omega arith; all = λ m a b. absurd (omega arith); stop = λ h. absurd (omega arith) }
lowest_is P (suc k) = go (P k) refl (lowest_is P k)
  where
    go : (b : Bool) → P k ≡ b → Lowest P k (lowest P k) → Lowest P (suc k) (b ⇒ (lowest P k) ∣ (suc k))
    go true e i = record { within = omega (arith, i.within); all = λ m a b. last m a b (ℕ_discrete m k); stop = i.stop }
      where
        last : (m : ℕ) → lowest P k ≤ m → m < suc k → Dec (m ≡ k) → P m ≡ true
        last m a b (yes f) = ap P f ∙ e
        last m a b (no f) = i.all m a (omega arith)
    go false e i = let f : suc k - 1 ≡ k = omega arith in record { within = omega arith; all = λ m a b. absurd (omega arith); stop = λ h. ap P f ∙ e }

pub run_is : (P : ℕ → Bool) (k : ℕ) → RunOf P k (next_run P k)
unfolding next_run
run_is P zero = λ m h. absurd (omega arith)
run_is P (suc k) = go (P k) refl (run_is P k)
  where
    more : (r : Option Run) → P k ≡ false → RunOf P k r → RunOf P (suc k) r
    more (Some r) e i = record { below = omega (arith, i.below); ordered = i.ordered; all = i.all; between = λ m a b. last m a b (ℕ_discrete m k); stop = i.stop }
      where
        last : (m : ℕ) → r.high < m → m < suc k → Dec (m ≡ k) → P m ≡ false
        last m a b (yes f) = ap P f ∙ e
        last m a b (no f) = i.between m a (omega arith)
    more None e i = λ m b. last m b (ℕ_discrete m k)
      where
        last : (m : ℕ) → m < suc k → Dec (m ≡ k) → P m ≡ false
        last m b (yes f) = ap P f ∙ e
        last m b (no f) = i m (omega arith)

    go : (b : Bool) → P k ≡ b → RunOf P k (next_run P k) → RunOf P (suc k) (b ⇒ (span k (lowest P k)) ∣ (next_run P k))
    go true e ih =
        let i = lowest_is P k in
        record { below = omega arith; ordered = i.within; all = λ m a b. last i m a b (ℕ_discrete m k); between = λ m a b. absurd (omega arith); stop = i.stop }
      where
        last : Lowest P k (lowest P k) → (m : ℕ) → lowest P k ≤ m → m ≤ k → Dec (m ≡ k) → P m ≡ true
        last i m a b (yes f) = ap P f ∙ e
        last i m a b (no f) = i.all m a (omega arith)
    go false e ih = more (next_run P k) e ih

-- a run below a number that is not in P is not next to it
pub apart : (P : ℕ → Bool) (k h l : ℕ) → 0 < k → P (k - 1) ≡ false → IsRun P k h l → h + 2 ≤ k
apart P k h l pos e r = go (ℕ_discrete h (k - 1))
  where
    go : Dec (h ≡ k - 1) → h + 2 ≤ k
    go (yes f) = absurd (true≢false (sym (r.all h r.ordered (omega arith)) ∙ ap P f ∙ e))
    go (no f) = omega (arith, r.below)

-- between two runs a number is missing, so that the gap of an ACK, low - high' - 2, is not negative
pub gap : (P : ℕ → Bool) (k h l h' l' : ℕ) → IsRun P k h l → IsRun P l h' l' → h' + 2 ≤ l
gap P k h l h' l' r s = let p : 0 < l = omega (arith, s.below) in apart P l h' l' p (r.stop p) s
