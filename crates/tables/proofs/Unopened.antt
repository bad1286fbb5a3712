-- The unopened entries of a type, checked together: if all are as opening set them, each fits and adds nothing; if one is not, nothing fits.
-- Assumes nothing.
use mathlib.Core.Path.{◌≡◌, refl, sym, ap, ◌∙◌}
use mathlib.Core.Bool.{Bool, true, false, ◌&&◌, and-eq-true_iff}
use mathlib.Core.List.{List}
use Prim.Native.Nat.{ℕ, zero, suc, ◌+◌, ◌-◌, ◌≤◌, ◌<◌}
use native.Mathlib.Omega.{arith}
use borrow.Author.Tests.{le-leb, lt-leb, lt-ltb, le-ltb, eqb-true}
use lib.Dec.{ltb, eqb}
use Rattle.answers.proofs.Choice.{below_or_not}
use Rattle.entries.specs.declared.Entry.{Entry}
use Rattle.entries.specs.Entry.{most_credit, entry_at}
use Rattle.limits.specs.Fits.{summed_of}
use Rattle.entries.specs.Fitting.{is_fresh}
use Rattle.limits.specs.Rest.{opened_in, rest_of}
use Rattle.entries.proofs.Fresh.{fresh_fits, changed_unfit}
use Rattle.tables.specs.Table.{summed_to, untouched_to}
use Rattle.std.specs.Prelude.{Option, Some, None}

-- no more than 64 are opened
pub opened_within : (opened : ℕ) → opened_in opened ≤ 64
unfolding opened_in
opened_within opened = below_or_not 64 opened (λ h. rw (lt-ltb 64 opened h) (omega arith)) (λ h. rw (le-ltb 64 opened h) h)

opened_are : (opened : ℕ) → opened_in opened < 64 → opened ≤ opened_in opened
unfolding opened_in
opened_are opened = below_or_not 64 opened (λ h. rw (lt-ltb 64 opened h) (λ k. absurd (omega (arith, k)))) (λ h. rw (le-ltb 64 opened h) (λ k. omega arith))

no_end : (e : Entry) (init : ℕ) → is_fresh e init ≡ true → e.end ≡ 0
unfolding is_fresh
no_end e init f = eqb-true e.end 0 ((and-eq-true_iff (eqb e.end 0) _).0 ((and-eq-true_iff (eqb e.credit init) _).0 f).1).0

module _ (credit opened init : ℕ) where
  -- an unopened entry after a sum
  unopened : (m : ℕ) (e : Entry) (sum : ℕ) → opened ≤ m → summed_of credit opened init m e (Some sum) ≡ rest_of credit 0 init (Some sum) (is_fresh e init)
  unfolding summed_of rest_of
  unopened m e sum h = go (is_fresh e init) refl
    where
      go : (b : Bool) → is_fresh e init ≡ b → summed_of credit opened init m e (Some sum) ≡ rest_of credit 0 init (Some sum) b
      go false f = rw (changed_unfit opened init m e h f) refl
      go true f =
          let z : sum + e.end ≡ sum = omega (arith, no_end e init f) in
          below_or_not most_credit init
          (λ p. rw (fresh_fits opened init m e h f, lt-leb init most_credit p, lt-ltb most_credit init p) refl)
          (λ p. rw (fresh_fits opened init m e h f, le-leb init most_credit p, le-ltb most_credit init p, z) refl)

  -- one more after the rest so far
  further : (m : ℕ) (e : Entry) (s : Option ℕ) (u : Bool) → opened ≤ m → summed_of credit opened init m e (rest_of credit 0 init s u) ≡ rest_of credit 0 init s (u && is_fresh e init)
  unfolding summed_of rest_of
  further m e None u h = refl
  further m e (Some sum) false h = refl
  further m e (Some sum) true h = go (ltb most_credit init) (ltb credit sum) (is_fresh e init) refl refl refl
    where
      go : (p q b : Bool) → ltb most_credit init ≡ p → ltb credit sum ≡ q → is_fresh e init ≡ b → summed_of credit opened init m e (rest_of credit 0 init (Some sum) true) ≡ rest_of credit 0 init (Some sum) (is_fresh e init)
      go true q true ep eq eb = rw (ep, eb) refl
      go true q false ep eq eb = rw (ep, eb) refl
      go false true true ep eq eb = rw (ep, eq, eb) refl
      go false true false ep eq eb = rw (ep, eq, eb) refl
      go false false b ep eq eb = ap (summed_of credit opened init m e) within ∙ unopened m e sum h
        where
          within : rest_of credit 0 init (Some sum) true ≡ Some sum
          within = rw (ep, eq) refl

  -- the first of the rest
  begun : (m : ℕ) (e : Entry) (s : Option ℕ) → opened ≤ m → summed_of credit opened init m e s ≡ rest_of credit 0 init s (is_fresh e init)
  unfolding summed_of rest_of
  begun m e None h = refl
  begun m e (Some sum) h = unopened m e sum h

  -- where there is a rest, it does not matter where it begins; and where there is none, nothing is added
  some_rest : (n : ℕ) (s : Option ℕ) (u : Bool) → n < 64 → rest_of credit n init s u ≡ rest_of credit 0 init s u
  unfolding rest_of
  some_rest n None u h = refl
  some_rest n (Some sum) u h = rw (lt-leb 64 n h) refl

  no_rest : (n : ℕ) (s : Option ℕ) (u : Bool) → 64 ≤ n → rest_of credit n init s u ≡ s
  unfolding rest_of
  no_rest n None u h = refl
  no_rest n (Some sum) u h = rw (le-leb 64 n h) refl

  module _ (t : List Entry) (from : ℕ) (before : Option ℕ) where
    abbrev to : ℕ → Option ℕ
    to = summed_to t from credit opened init before

    steps : (n k : ℕ) → opened ≤ n → to (n + suc k) ≡ rest_of credit 0 init (to n) (untouched_to t (from + n) init (suc k))
    unfolding summed_to untouched_to
    steps n zero h =
        let a : n + 1 ≡ suc n = omega arith in
        let b : from + n + 0 ≡ from + n = omega arith in
        rw (a, b) (begun n (entry_at t (from + n)) (to n) h)
    steps n (suc k) h =
        let a : n + suc (suc k) ≡ suc (n + suc k) = omega arith in
        let b : from + n + suc k ≡ from + (n + suc k) = omega arith in
        rw (a, b, steps n k h) (further (n + suc k) (entry_at t (from + (n + suc k))) (to n) (untouched_to t (from + n) init (suc k)) (omega arith))

    -- the 64 entries of a type
    pub by_rest : (n : ℕ) → n ≡ opened_in opened → rest_of credit n init (to n) (untouched_to t (from + n) init (64 - n)) ≡ to 64
    by_rest n e = below_or_not n 64
        (λ h.
        let k : 64 - n ≡ suc (63 - n) = omega arith in
        let l : n + suc (63 - n) ≡ 64 = omega arith in
        let o : opened ≤ n = rw e (opened_are opened (rw e at h)) in
        some_rest n (to n) (untouched_to t (from + n) init (64 - n)) h ∙ rw k (sym (steps n (63 - n) o) ∙ ap to l))
        (λ h.
        let l : n ≡ 64 = omega (arith, opened_within opened, e) in
        no_rest n (to n) (untouched_to t (from + n) init (64 - n)) h ∙ ap to l)
