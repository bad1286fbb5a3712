-- Runs of numbers, docs/RULES.md, "Acknowledgement": from the highest number down, each as long as it can be.
use Rattle.std.specs.Prelude.{ℕ, zero, suc, ◌-◌, ◌≤◌, ◌<◌, ◌≡◌, Bool, true, false, List, [], ◌∷◌, Option, Some, None}
use Rattle.answers.specs.Choice.{◌⇒◌∣◌}
use Rattle.ring.specs.declared.Run.{Run}

-- a run from its highest number down to its lowest
abbrev pub run_of : ℕ → ℕ → Run
run_of high low = record { high = high; low = low }

-- the same where a run is looked for
abbrev pub span : ℕ → ℕ → Option Run
span high low = Some (run_of high low)

-- the lowest number of the run of P that goes down from below k
unfoldable pub lowest : (ℕ → Bool) → ℕ → ℕ
lowest P zero = zero
lowest P (suc k) =
    P k ⇒ lowest P k
    ∣ suc k

-- the next run of P below k, as long as it can be
unfoldable pub next_run : (ℕ → Bool) → ℕ → Option Run
next_run P zero = None
next_run P (suc k) =
    P k ⇒ span k (lowest P k)
    ∣ next_run P k

-- a run, and what comes after its lowest number
unfoldable pub after_run : Option Run → (ℕ → List Run) → List Run
after_run (Some r) rest = r ∷ rest r.low
after_run None rest = []

-- the first n runs of P below k, downwards
unfoldable pub runs_down : ℕ → (ℕ → Bool) → ℕ → List Run
runs_down zero P k = []
runs_down (suc n) P k = after_run (next_run P k) (runs_down n P)

-- what is meant by the lowest number of the run of P that goes down from below k
pub record Lowest (P : ℕ → Bool) (k l : ℕ) : Type 0 where
  pub within : l ≤ k
  pub all : (m : ℕ) → l ≤ m → m < k → P m ≡ true
  pub stop : 0 < l → P (l - 1) ≡ false

-- what is meant by the next run of P below k, from high down to low: P holds throughout, nowhere between it and k, and not below it
pub record IsRun (P : ℕ → Bool) (k high low : ℕ) : Type 0 where
  pub below : high < k
  pub ordered : low ≤ high
  pub all : (m : ℕ) → low ≤ m → m ≤ high → P m ≡ true
  pub between : (m : ℕ) → high < m → m < k → P m ≡ false
  pub stop : 0 < low → P (low - 1) ≡ false

-- and by none
abbrev pub RunOf : (ℕ → Bool) → ℕ → Option Run → Type 0
RunOf P k (Some r) = IsRun P k r.high r.low
RunOf P k None = (m : ℕ) → m < k → P m ≡ false
