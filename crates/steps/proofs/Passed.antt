-- The way past PADDING, a byte at a time, and what it has passed.
-- Assumes nothing.
use Prim.Native.Nat.{ℕ, zero, suc, ◌+◌, ◌-◌, ◌≤◌, ◌<◌}
use mathlib.Core.Path.{◌≡◌, refl, sym, ◌∙◌, ap}
use mathlib.Core.Bool.{◌&&◌, and-false, and-eq-true_iff, true≢false}
use mathlib.Core.List.{List}
use native.Mathlib.Numerals.{add-one}
use native.Mathlib.Omega.{arith}
use lib.ListN.{length, get_or}
use borrow.Author.Tests.{lt-ltb, eq-eqb, ne_eqb, ltb-true, eqb-true}
use lib.Dec.{ltb, eqb}
use Rattle.answers.proofs.Choice.{holds, below_or_not}
use Rattle.steps.specs.Past.{past_of, past_zeros}

module _ (s : List ℕ) where
  -- a zero byte is passed
  pub pass : (i : ℕ) → i < length s → get_or s i 0 ≡ 0 → past_zeros s (i + 1) ≡ past_zeros s i
  unfolding past_zeros past_of
  pass i h e =
      let k : length s - i ≡ suc (length s - (i + 1)) = omega arith in
      rw (k, lt-ltb i (length s) h, eq-eqb (get_or s i 0) 0 e) (ap (past_of s (length s - (i + 1))) (add-one i))

  -- another byte is not
  pub stay : (i : ℕ) → (get_or s i 0 ≡ 0 → ⊥) → i ≡ past_zeros s i
  unfolding past_zeros past_of
  stay i n = go (length s - i)
    where
      go : (k : ℕ) → i ≡ past_of s k i
      go zero = refl
      go (suc k) = rw (ne_eqb (get_or s i 0) 0 n, and-false)

  -- nor is the end
  pub ended : (i : ℕ) → length s ≤ i → i ≡ past_zeros s i
  unfolding past_zeros past_of
  ended i h = let k : length s - i ≡ 0 = omega arith in rw k

-- the way from a place to the place r after it: every byte that is passed is there and is zero, and the one at r, if there is one, is not
pub record Passed (s : List ℕ) (at r : ℕ) : Type 0 where
  pub onward : at ≤ r
  pub inside : (i : ℕ) → at ≤ i → i < r → i < length s
  pub zeros : (i : ℕ) → at ≤ i → i < r → get_or s i 0 ≡ 0
  pub stops : r < length s → get_or s r 0 ≡ 0 → ⊥

module _ (s : List ℕ) where
  -- where nothing is passed
  none : (at : ℕ) → (at < length s → get_or s at 0 ≡ 0 → ⊥) → Passed s at at
  none at h = record { onward = omega arith; inside = λ i a b. absurd (omega arith); zeros = λ i a b. absurd (omega arith); stops = h }

  -- one byte, and the way from the next
  one : (at r : ℕ) → at < length s → get_or s at 0 ≡ 0 → Passed s (suc at) r → Passed s at r
  one at r l z p =
      record {
        onward = omega (arith, p.onward);
        inside = λ i a b. below_or_not at i (λ h. p.inside i h b) (λ h. omega arith);
        zeros = λ i a b. below_or_not at i (λ h. p.zeros i h b) (λ h. let q : i ≡ at = omega arith in rw q z);
        stops = p.stops;
      }

  steps : (k at : ℕ) → length s ≤ k + at → Passed s at (past_of s k at)
  unfolding past_of
  steps zero at h = none at (λ l. absurd (omega arith))
  steps (suc k) at h =
      holds (Passed s at) (ltb at (length s) && eqb (get_or s at 0) 0) (past_of s k (suc at)) at
      (λ e. let b = (and-eq-true_iff (ltb at (length s)) (eqb (get_or s at 0) 0)).0 e in one at (past_of s k (suc at)) (ltb-true _ _ b.0) (eqb-true _ _ b.1) (steps k (suc at) (omega arith)))
      (λ e. none at (λ l z. true≢false (sym (rw (lt-ltb at (length s) l, eq-eqb (get_or s at 0) 0 z) refl) ∙ e)))

  pub passed : (at : ℕ) → Passed s at (past_zeros s at)
  unfolding past_zeros
  passed at = steps (length s - at) at (omega arith)
