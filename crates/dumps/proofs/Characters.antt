-- What a character is where it stands: by whether a byte has begun, and then by the tests in turn.
-- Assumes nothing.
use mathlib.Core.Path.{◌≡◌, refl, sym, ◌∙◌}
use mathlib.Core.Bool.{true, false, false≢true}
use mathlib.Core.Logic.{◌⊎◌, inl, inr, ⊎_elim}
use Prim.Native.Nat.{ℕ, ◌+◌, ◌*◌, ◌<◌}
use native.Mathlib.Omega.{arith}
use borrow.Author.Tests.{ltb-true, ne_eqb, lt-ltb}
use lib.Dec.{ltb}
use Rattle.std.specs.Prelude.{Option, Some, None}
use Rattle.answers.proofs.Choice.{holds, below_or_not}
use Rattle.answers.proofs.Distinct.{impossible}
use Rattle.dumps.specs.Digits.{half_of, is_half}
use Rattle.dumps.proofs.Digits.{half_bound, none_below, a_half}
use Rattle.dumps.specs.Dump.{is_gap, first_by, first_of, second_by, second_of, begun_by, begun_of, next_by, next_of}
use Rattle.dumps.specs.declared.Step.{Step}
use Rattle.dumps.specs.declared.Step.TheVariants.{Between, Begun, Byte}

module _ (c : ℕ) where
  pub a_gap : (c ≡ 10) ⊎ (c ≡ 32) → is_gap c ≡ true
  unfolding is_gap
  a_gap = ⊎_elim (λ e. rw e) (λ e. rw e)

  pub no_gap : ((c ≡ 10) ⊎ (c ≡ 32) → ⊥) → is_gap c ≡ false
  unfolding is_gap
  no_gap n = rw (ne_eqb c 32 (λ e. n (inr e)), ne_eqb c 10 (λ e. n (inl e)))

-- where a byte has begun
module _ (half : Option ℕ) (c : ℕ) {h : ℕ} (b : begun_of half ≡ Some h) where
  pub ends : {d : ℕ} → half_of c ≡ Some d → next_of half c ≡ Some (Byte (h * 16 + d))
  unfolding next_of second_of
  ends e = rw (b, e)

  pub cut : half_of c ≡ None → next_of half c ≡ None
  unfolding next_of second_of
  cut e = rw (b, e)

-- where none has
module _ (half : Option ℕ) (c : ℕ) (b : begun_of half ≡ None) where
  pub begins : {d : ℕ} → half_of c ≡ Some d → next_of half c ≡ Some (Begun d)
  unfolding next_of first_of
  begins e = rw (b, e)

  pub between : half_of c ≡ None → is_gap c ≡ true → next_of half c ≡ Some Between
  unfolding next_of first_of
  between e g = rw (b, e, g)

  pub nothing : half_of c ≡ None → is_gap c ≡ false → next_of half c ≡ None
  unfolding next_of first_of
  nothing e g = rw (b, e, g)

-- a digit that has begun a byte is below 16, and is taken up as it is
pub begun_bound : (half : Option ℕ) {h : ℕ} → begun_of half ≡ Some h → h < 16
unfolding begun_of
begun_bound (Some x) {h} =
    holds (λ (o : Option ℕ). o ≡ Some h → h < 16) (ltb x 16) _ _
    (λ e p. let q : x ≡ h = cc in omega (arith, ltb-true x 16 e))
    (λ e p. impossible cc)
begun_bound None = λ p. impossible cc

pub begun_low : {d : ℕ} → d < 16 → begun_of (Some d) ≡ Some d
unfolding begun_of
begun_low {d} h = rw (lt-ltb d 16 h)

pub begun_none : begun_of None ≡ None
unfolding begun_of
begun_none = refl

pub begun_twice : (half : Option ℕ) → begun_of (begun_of half) ≡ begun_of half
unfolding begun_of
begun_twice (Some x) = holds (λ (o : Option ℕ). begun_by o ≡ o) (ltb x 16) (Some x) None (λ e. rw e) (λ e. refl)
begun_twice None = refl

-- a property of each step that a character can be, and of none, is one of what it is
pub by_step : (P : Option Step → Type 0) (half : Option ℕ) (c : ℕ)
    → ((h d : ℕ) → begun_of half ≡ Some h → half_of c ≡ Some d → P (Some (Byte (h * 16 + d))))
    → ((d : ℕ) → begun_of half ≡ None → half_of c ≡ Some d → P (Some (Begun d)))
    → (begun_of half ≡ None → is_gap c ≡ true → P (Some Between))
    → P None
    → P (next_of half c)
unfolding next_of first_of second_of
by_step P half c byte begun gap wrong =
    elim (begun_of half) as (λ (b : Option ℕ). begun_of half ≡ b → P (next_by b c)) [
      | Some h ↦ λ e. elim (half_of c) as (λ (o : Option ℕ). half_of c ≡ o → P (second_by h o)) [
        | Some d ↦ λ f. byte h d e f
        | None ↦ λ f. wrong
      ] refl
      | None ↦ λ e. elim (half_of c) as (λ (o : Option ℕ). half_of c ≡ o → P (first_by o c)) [
        | Some d ↦ λ f. begun d e f
        | None ↦ λ f. holds P (is_gap c) _ _ (λ g. gap e g) (λ g. wrong)
      ] refl
    ] refl

-- the digit of a character that begins a byte is taken up as it is
pub first_begun : (half : Option ℕ) (c : ℕ) {d : ℕ} → next_of half c ≡ Some (Begun d) → begun_of (Some d) ≡ Some d
first_begun half c {d} =
    by_step (λ x. x ≡ Some (Begun d) → begun_of (Some d) ≡ Some d) half c
    (λ h l e f p. impossible cc)
    (λ first e f p. let q : first ≡ d = cc in begun_low (half_bound c (rw q at f)))
    (λ e g p. impossible cc)
    (λ p. impossible cc)

-- what stands between bytes is no digit, and a digit does not
pub gap_no_digit : (c : ℕ) → is_gap c ≡ true → half_of c ≡ None
gap_no_digit c g = below_or_not c 48 (λ l. none_below c l) (λ l. absurd (false≢true (sym (no_gap c (⊎_elim (λ e. omega arith) (λ e. omega arith))) ∙ g)))

pub digit_no_gap : (c : ℕ) → is_half c ≡ true → is_gap c ≡ false
digit_no_gap c d =
    let t = a_half c d in
    no_gap c (⊎_elim (λ e. let n = none_below c (omega arith) in impossible cc) (λ e. let n = none_below c (omega arith) in impossible cc))
