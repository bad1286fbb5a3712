-- A record that can be: the two ways of saying it, as a test and as facts.
-- Assumes nothing.
use Prim.Native.Nat.{◌-◌, ◌^◌}
use mathlib.Core.Path.{◌≡◌, refl, sym, ◌∙◌}
use mathlib.Core.Bool.{Bool, true, false, ◌&&◌, ◌||◌, true≢false, and-eq-true_iff}
use native.Mathlib.Omega.{arith}
use native.Mathlib.Decide.{ℕ_discrete}
use lib.Dec.{leb, eqb}
use borrow.Author.Tests.{le-leb, leb-true, eq-eqb, ne_eqb, eqb-true}
use Rattle.answers.proofs.Choice.{holds}
use Rattle.answers.specs.declared.Answer.{Answer}
use Rattle.answers.specs.declared.Answer.TheVariants.{Accepted, DoesNotFit}
use Rattle.records.specs.declared.Record.{Record}
use Rattle.ring.specs.Bits.{unmarked}
use Rattle.ring.proofs.Clean.{unmarked_facts, unmarked_test}
use Rattle.records.specs.Marks.{recorded, sound_of, check_of, Sound}
use Rattle.records.proofs.Ring.{rec_in}

-- tests of two parts
either : (a b : Bool) → (a || b) ≡ true → a ≡ false → b ≡ true
either true b e f = absurd (true≢false f)
either false b e f = e

-- the test and the facts
module _ (R : Record) where
  pub sound_facts : sound_of R ≡ true → Sound R
  unfolding sound_of
  sound_facts e =
      let s = (and-eq-true_iff (unmarked R.words R.top (8192 - R.top)) ((eqb R.top 0 || recorded R (R.top - 1)) && leb R.top (2 ^ 62))).0 e in
      let t = (and-eq-true_iff (eqb R.top 0 || recorded R (R.top - 1)) (leb R.top (2 ^ 62))).0 s.1 in
      record {
        clean = λ m a b. unmarked_facts R.words R.top (8192 - R.top) s.0 m a (omega arith);
        last = λ p. eqb-true _ 1 (sym (rec_in R (R.top - 1) (omega arith) (omega arith)) ∙ either (eqb R.top 0) _ t.0 (ne_eqb R.top 0 (omega arith)));
        small = leb-true _ _ t.1;
      }

  pub sound_test : Sound R → sound_of R ≡ true
  unfolding sound_of
  sound_test s = simp (unmarked_test R.words R.top (8192 - R.top) (λ m a b. s.clean m a (omega arith)), last (ℕ_discrete R.top 0), le-leb _ _ s.small)
    where
      last : Dec (R.top ≡ 0) → (eqb R.top 0 || recorded R (R.top - 1)) ≡ true
      last (yes e) = simp (eq-eqb _ 0 e)
      last (no f) = simp (ne_eqb _ 0 f, rec_in R (R.top - 1) (omega arith) (omega arith), eq-eqb _ 1 (s.last (omega arith)))

  pub fits : Sound R → Accepted ≡ check_of R
  unfolding check_of
  fits s = simp (sound_test s)

  pub unfit : (Sound R → ⊥) → DoesNotFit ≡ check_of R
  unfolding check_of
  unfit f = holds (λ (a : Answer). DoesNotFit ≡ a) (sound_of R) Accepted DoesNotFit (λ e. absurd (f (sound_facts e))) (λ e. refl)
