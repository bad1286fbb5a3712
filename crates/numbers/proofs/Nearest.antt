-- The rows of `nearest_of`, each under the tests that lead there.
-- Assumes nothing.
use mathlib.Core.Path.{◌≡◌}
use mathlib.Core.Bool.{false, ◌&&◌}
use Prim.Native.Nat.{ℕ, ◌+◌, ◌-◌, ◌/◌, ◌^◌, ◌≤◌, ◌<◌}
use borrow.Author.Tests.{lt-ltb, le-leb, lt-leb}
use lib.Dec.{leb}
use Rattle.answers.proofs.Choice.{below_or_not}
use Rattle.numbers.specs.declared.Size.{Size}
use Rattle.numbers.specs.declared.Size.TheVariants.{One, Two, Three, Four}
use Rattle.numbers.specs.Numbers.{window_of, candidate_of, nearest_of}

-- what holds of each of the four windows holds of every size's
pub each_window {ℓ} : (P : ℕ → Type ℓ) → P (256 ^ 1) → P (256 ^ 2) → P (256 ^ 3) → P (256 ^ 4) → (size : Size) → P (window_of size)
each_window P a b c d One = a
each_window P a b c d Two = b
each_window P a b c d Three = c
each_window P a b c d Four = d

-- what the first row asks: the candidate is too low, and there is room above it
abbrev pub Low : ℕ → ℕ → ℕ → Type 0
Low E W t = (candidate_of E W t + W / 2 ≤ E) × (candidate_of E W t + W < 2 ^ 62)

-- and the second: it is too high, and there is room below it
abbrev pub High : ℕ → ℕ → ℕ → Type 0
High E W t = (E + W / 2 < candidate_of E W t) × (W ≤ candidate_of E W t)

-- of two tests one fails
one_fails : (a b c d : ℕ) → ((a ≤ b) × (c ≤ d) → ⊥) → leb a b && leb c d ≡ false
one_fails a b c d f =
    below_or_not b a (λ h. simp (lt-leb a b h)) (λ h. below_or_not d c (λ k. simp (le-leb a b h, lt-leb c d k)) (λ k. absurd (f (h, k))))

module _ (E W t : ℕ) where
  pub up : Low E W t → nearest_of E W t ≡ candidate_of E W t + W
  unfolding nearest_of
  up a = simp (le-leb _ _ a.0, lt-ltb _ _ a.1)

  module _ (low : Low E W t → ⊥) where
    pub down : High E W t → nearest_of E W t ≡ candidate_of E W t - W
    unfolding nearest_of
    down a = simp (one_fails _ _ _ _ low, lt-ltb _ _ a.0, le-leb _ _ a.1)

    pub stay : (High E W t → ⊥) → nearest_of E W t ≡ candidate_of E W t
    unfolding nearest_of
    stay high = simp (one_fails _ _ _ _ low, one_fails _ _ _ _ high)
