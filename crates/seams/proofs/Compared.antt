-- Bytes are the same where none differs: the test of the definition and what the code decides.
-- Assumes nothing.
use Prim.Native.Nat.{ℕ, zero, suc, ◌+◌, ◌%◌, ◌<◌}
use mathlib.Core.Path.{◌≡◌, refl, sym, ◌∙◌, ap}
use mathlib.Core.Bool.{Bool, true, false, not, ◌||◌, true≢false}
use mathlib.Core.List.{List}
use native.Mathlib.Omega.{arith}
use native.Mathlib.Decide.{ℕ_discrete}
use lib.ListN.{length, get_or}
use lib.Dec.{eqb}
use borrow.Author.Tests.{eq-eqb, eqb-true, not-false, not-true}
use Rattle.ring.specs.Parts.{Decides}
use Rattle.seams.specs.Seam.{fit_of, some, same_of}
use Rattle.seams.specs.Parts.{Fit, SameAt}
use Rattle.seams.proofs.Fitting.{fit_true}

pub some_none : (n : ℕ) (f : ℕ → Bool) → ((k : ℕ) → k < n → f k ≡ false) → some n f ≡ false
unfolding some
some_none zero f g = refl
some_none (suc n) f g = simp (g n (omega arith), some_none n f (λ k h. g k (omega arith)))

pub none_some : (n : ℕ) (f : ℕ → Bool) → some n f ≡ false → (k : ℕ) → k < n → f k ≡ false
unfolding some
none_some zero f e k h = absurd (omega arith)
none_some (suc n) f e k h = go (none_some n f) (f n) refl e (ℕ_discrete k n)
  where
    go : (some n f ≡ false → (k : ℕ) → k < n → f k ≡ false) → (b : Bool) → f n ≡ b → (b || some n f) ≡ false → Dec (k ≡ n) → f k ≡ false
    go g true d x w = absurd (true≢false x)
    go g false d x (yes q) = ap f q ∙ d
    go g false d x (no q) = g x k (omega arith)

module _ (ring : List ℕ) (at : ℕ) (s : List ℕ) (j n : ℕ) where
  abbrev differs : ℕ → Bool
  differs k = not (eqb (get_or ring ((at + k) % 4096) 0) (get_or s (j + k) 0))

  pub same_unfit : fit_of (length ring) (length s) j n ≡ false → false ≡ same_of ring at s j n
  unfolding same_of
  same_unfit e = simp e

  module _ (fit : Fit (length ring) (length s) j n) where
    same_none : same_of ring at s j n ≡ not (some n differs)
    unfolding same_of
    same_none = simp (fit_true _ _ _ _ fit)

    same_facts : Decides (SameAt ring at s j n) (same_of ring at s j n)
    same_facts = record {
      holds = λ e k h. eqb-true _ _ (not-false _ (none_some n differs (not-true _ (sym same_none ∙ e)) k h));
      fails = λ e f. true≢false (ap not (sym (some_none n differs (λ k h. rw (eq-eqb _ _ (f k h)) refl))) ∙ sym same_none ∙ e);
    }

    -- so what decides it is the test
    pub same_is : (r : Bool) → Decides (SameAt ring at s j n) r → r ≡ same_of ring at s j n
    same_is r d = go r (same_of ring at s j n) refl refl
      where
        go : (x y : Bool) → r ≡ x → same_of ring at s j n ≡ y → x ≡ y
        go true true a b = refl
        go false false a b = refl
        go true false a b = absurd (same_facts.fails b (d.holds a))
        go false true a b = absurd (d.fails a (same_facts.holds b))

    pub same_told : (r : Bool) → r ≡ same_of ring at s j n → Decides (SameAt ring at s j n) r
    same_told r e = rw e same_facts
