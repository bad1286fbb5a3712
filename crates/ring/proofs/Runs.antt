-- The next run of a ring by two searches downwards: over the numbers that are not marked, and then along the run.
-- Assumes nothing.
use Prim.Native.Nat.{ℕ, zero, suc, ◌+◌, ◌-◌, ◌≤◌, ◌<◌, max, min}
use mathlib.Core.Path.{◌≡◌, refl, sym, ◌∙◌, ap}
use mathlib.Core.Bool.{Bool, true, false}
use mathlib.Core.List.{List}
use native.Mathlib.Omega.{arith}
use native.Mathlib.Decide.{dec_le, le_ind}
use lib.Dec.{eqb}
use borrow.Author.Tests.{eq-eqb, ne_eqb, eqb-true, eqb-false}
use Rattle.ring.specs.Bits.{bit_at, alike, marked}
use Rattle.ring.specs.Runs.{lowest, next_run}
use Rattle.ring.proofs.Marked.{marked_in, marked_above, marked_below, not_zero}
use Rattle.ring.proofs.Meaning.{lowest_is}
use Rattle.std.specs.Prelude.{None}
use Rattle.ring.specs.Runs.{span}

-- a run that is passed over, and one that is followed
pub passed : (P : ℕ → Bool) (a b : ℕ) → a ≤ b → ((m : ℕ) → a ≤ m → m < b → P m ≡ false) → next_run P b ≡ next_run P a
unfolding next_run
passed P a b h f = le_ind (λ (k : ℕ). k ≤ b → next_run P k ≡ next_run P a) (λ l. refl) (λ k g ih l. simp (f k g l) (ih (omega arith))) b h (omega arith)

pub followed : (P : ℕ → Bool) (a b : ℕ) → a ≤ b → ((m : ℕ) → a ≤ m → m < b → P m ≡ true) → lowest P b ≡ lowest P a
unfolding lowest
followed P a b h f = le_ind (λ (k : ℕ). k ≤ b → lowest P k ≡ lowest P a) (λ l. refl) (λ k g ih l. simp (f k g l) (ih (omega arith))) b h (omega arith)

pub ends : (P : ℕ → Bool) (a : ℕ) → (0 < a → P (a - 1) ≡ false) → lowest P a ≡ a
unfolding lowest
ends P zero f = refl
ends P (suc a) f = let e : suc a - 1 ≡ a = omega arith in simp (rw e at (f (omega arith)))

starts : (P : ℕ → Bool) (k : ℕ) → P k ≡ true → next_run P (suc k) ≡ span k (lowest P k)
unfolding next_run
starts P k e = simp e

-- the next run below `at` in the window of T, by the ends of two stretches: of the missing numbers above it, and of its own
module _ (ws : List ℕ) (T at : ℕ) (inside : at ≤ T) where
  on : (m : ℕ) → T - 8192 ≤ m → m < at → bit_at ws m ≡ 1 → marked ws T m ≡ true
  on m a b e = marked_in ws T m (omega arith) (omega arith) ∙ ap (λ (x : ℕ). eqb x 1) e

  off : (m : ℕ) → m < at → (bit_at ws m ≡ 1 → ⊥) → marked ws T m ≡ false
  off m b f = go (dec_le T (m + 8192))
    where
      go : Dec (T ≤ m + 8192) → marked ws T m ≡ false
      go (yes p) = marked_in ws T m (omega arith) p ∙ ne_eqb _ _ f
      go (no p) = marked_below ws T m (omega arith)

  missing : (m : ℕ) → lowest (alike ws false) at ≤ m → m < at → marked ws T m ≡ false
  missing m a b = off m b (λ e. let z : bit_at ws m ≡ 0 = eqb-true _ _ ((lowest_is (alike ws false) at).all m a b) in absurd (omega arith))

  pub run_none : lowest (alike ws false) at ≤ T - 8192 → next_run (marked ws T) at ≡ None
  unfolding next_run
  run_none h = passed (marked ws T) 0 at (omega arith) (λ m a b. go m b (dec_le (lowest (alike ws false) at) m))
    where
      go : (m : ℕ) → m < at → Dec (lowest (alike ws false) at ≤ m) → marked ws T m ≡ false
      go m b (yes p) = missing m p b
      go m b (no p) = marked_below ws T m (omega arith)

  -- down from a number of the run
  follow : (k : ℕ) → T - 8192 ≤ k → k ≤ at → lowest (marked ws T) k ≡ max (T - 8192) (lowest (alike ws true) k)
  follow k l h =
      let g = lowest_is (alike ws true) k in
      let low = max (T - 8192) (lowest (alike ws true) k) in
      followed (marked ws T) low k (omega (arith, g.within)) (λ m a b. on m (omega arith) (omega arith) (eqb-true _ _ (g.all m (omega arith) b)))
      ∙ ends (marked ws T) low (λ p. stops p (dec_le low (T - 8192)))
    where
      stops : 0 < max (T - 8192) (lowest (alike ws true) k) → Dec (max (T - 8192) (lowest (alike ws true) k) ≤ T - 8192) → marked ws T (max (T - 8192) (lowest (alike ws true) k) - 1) ≡ false
      stops p (yes q) = marked_below ws T _ (omega arith)
      stops p (no q) =
          let g = lowest_is (alike ws true) k in
          let e : max (T - 8192) (lowest (alike ws true) k) ≡ lowest (alike ws true) k = omega arith in
          rw e (off _ (omega (arith, g.within)) (eqb-false _ _ (g.stop (omega arith))))

  pub run_some : T - 8192 < lowest (alike ws false) at
      → next_run (marked ws T) at ≡ span (lowest (alike ws false) at - 1) (max (T - 8192) (lowest (alike ws true) (lowest (alike ws false) at)))
  run_some h =
      let f = lowest_is (alike ws false) at in
      let s : suc (gap - 1) ≡ gap = omega arith in
      let one : bit_at ws (gap - 1) ≡ 1 = not_zero ws (gap - 1) (eqb-false _ _ (f.stop (omega arith))) in
      let r : lowest (alike ws true) gap ≡ lowest (alike ws true) (gap - 1) = followed (alike ws true) (gap - 1) gap (omega arith) (λ m a b. let e : m ≡ gap - 1 = omega arith in eq-eqb _ _ (ap (bit_at ws) e ∙ one)) in
      passed (marked ws T) gap at f.within missing
      ∙ ap (next_run (marked ws T)) (sym s)
      ∙ starts (marked ws T) (gap - 1) (on (gap - 1) (omega arith) (omega (arith, f.within)) one)
      ∙ ap (span (gap - 1)) (rw r (follow (gap - 1) (omega arith) (omega (arith, f.within))))
    where
      gap : ℕ
      gap = lowest (alike ws false) at

-- the same below any number, by what two searches tell of the ends above the bottom
module _ (ws : List ℕ) (T below bottom from high : ℕ) (least : bottom ≡ T - 8192) (start : from ≡ min below T)
    (told : max bottom high ≡ max bottom (lowest (alike ws false) from)) where
  start_is : next_run (marked ws T) below ≡ next_run (marked ws T) from
  start_is = passed (marked ws T) from below (omega arith) (λ m a b. marked_above ws T m (omega arith))

  pub found_none : high ≤ bottom → next_run (marked ws T) below ≡ None
  found_none h = start_is ∙ run_none ws T from (omega arith) (omega arith)

  pub found_run : bottom < high → (low : ℕ) → max bottom low ≡ max bottom (lowest (alike ws true) high) → next_run (marked ws T) below ≡ span (high - 1) (max bottom low)
  found_run h low e =
      let g : lowest (alike ws false) from ≡ high = omega arith in
      start_is ∙ rw (e, least) (rw g at (run_some ws T from (omega arith) (omega arith)))
