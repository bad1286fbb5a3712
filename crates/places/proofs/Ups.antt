-- Up to where marks go on alike: the definition and the facts that the code finds say the same.
-- Assumes nothing.
use Prim.Native.Nat.{ℕ, ◌+◌, ◌-◌, ◌≤◌}
use mathlib.Core.Path.{◌≡◌, ◌∙◌, ap}
use mathlib.Core.Bool.{Bool, true, false}
use mathlib.Core.List.{List}
use native.Mathlib.Omega.{arith}
use native.Mathlib.Decide.{ℕ_discrete}
use lib.ListN.{length}
use lib.Dec.{eqb}
use borrow.Author.Tests.{eq-eqb, ne_eqb, eqb-true, eqb-false}
use Rattle.answers.specs.Choice.{◌⇒◌∣◌}
use Rattle.places.specs.Places.{marked, alike, run_of, up_of}
use Rattle.places.specs.Parts.{Up}
use Rattle.places.proofs.Running.{run_is, run_longest}

module _ (ws : List ℕ) (at to : ℕ) (v : Bool) where
  -- where the words are not 64
  pub up_none : (length ws ≡ 64 → ⊥) → up_of ws at to v ≡ at
  unfolding up_of
  up_none f = simp (ne_eqb (length ws) 64 f)

  module _ (long : length ws ≡ 64) where
    up_run : up_of ws at to v ≡ at + run_of (alike ws v) at (to - at)
    unfolding up_of
    up_run = simp (eq-eqb (length ws) 64 long)

    pub up_is : (r : ℕ) → Up ws at to v r → r ≡ up_of ws at to v
    up_is r u =
        let e : at + (r - at) ≡ r = omega (arith, u.least) in
        let f : run_of (alike ws v) at (to - at) ≡ r - at =
        run_is (alike ws v) (to - at) at (r - at) (omega (arith, u.least, u.within)) (λ q a b. eq-eqb _ _ (u.all q a (omega arith))) (λ l.
        ap (alike ws v) e ∙ ne_eqb _ _ (u.stop (omega arith))) in
        omega (arith, up_run, f, u.least)

    up_facts : Up ws at to v (up_of ws at to v)
    up_facts =
        let l = run_longest (alike ws v) (to - at) at in
        rw up_run
        (record {
          least = omega arith;
          within = omega (arith, l.fits);
          all = λ q a b. eqb-true _ _ (l.all q a b);
          stop = λ h. eqb-false _ _ (l.stop (omega arith));
        })

    pub up_told : (r : ℕ) → r ≡ up_of ws at to v → Up ws at to v r
    up_told r e = rw e up_facts

  pub up_least : at ≤ up_of ws at to v
  up_least = go (ℕ_discrete (length ws) 64)
    where
      go : Dec (length ws ≡ 64) → at ≤ up_of ws at to v
      go (yes e) = (up_facts e).least
      go (no f) = rw (up_none f) (omega arith)

-- how far that is above `at`
pub up_length : (ws : List ℕ) (at to : ℕ) → up_of ws at to true - at ≡ (eqb (length ws) 64 ⇒ run_of (marked ws) at (to - at) ∣ 0)
unfolding up_of marked
up_length ws at to = go (eqb (length ws) 64)
  where
    go : (b : Bool) → (b ⇒ at + run_of (alike ws true) at (to - at) ∣ at) - at ≡ (b ⇒ run_of (alike ws true) at (to - at) ∣ 0)
    go true = omega arith
    go false = omega arith
