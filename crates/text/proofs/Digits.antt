-- Reading digits from a place on: the digit there and the rest; the value only grows; and what a text is, by the first test that decides.
-- Assumes nothing.
use mathlib.Core.Path.{◌≡◌, refl}
use mathlib.Core.Bool.{true, false, not}
use mathlib.Core.List.{List, [], ◌∷◌}
use Prim.Native.Nat.{ℕ, ◌+◌, ◌*◌, ◌-◌, ◌^◌, ◌≤◌, ◌<◌}
use native.Mathlib.Omega.{arith}
use borrow.Author.Tests.{eq-eqb, ne_eqb, lt-ltb, le-ltb, le-leb}
use lib.Dec.{eqb}
use lib.ListN.{length, get_or, drop}
use Rattle.answers.proofs.Choice.{holds}
use Rattle.text.specs.Text.{every}
use Rattle.text.specs.Decimal.{value_from, is_digit, parsed_of}
use Rattle.text.proofs.Steps.{step, every_step}
use Rattle.std.specs.Prelude.{Option, Some, None}

pub a_digit : (c : ℕ) → 48 ≤ c → c ≤ 57 → is_digit c ≡ true
unfolding is_digit
a_digit c h k = simp (le-leb 48 c h, le-leb c 57 k)

module _ (s : List ℕ) (i : ℕ) (h : i < length s) where
  pub value_step : (v : ℕ) → value_from v (drop i s) ≡ value_from (v * 10 + (get_or s i 0 - 48)) (drop (i + 1) s)
  unfolding value_from
  value_step v = rw (step s i h)

  pub digits_on : is_digit (get_or s i 0) ≡ true → every is_digit (drop i s) ≡ every is_digit (drop (i + 1) s)
  digits_on e = rw (every_step s i h is_digit, e)

  pub digits_off : is_digit (get_or s i 0) ≡ false → every is_digit (drop i s) ≡ false
  digits_off e = rw (every_step s i h is_digit, e)

pub grows : (v : ℕ) (l : List ℕ) → v ≤ value_from v l
unfolding value_from
grows v [] = omega arith
grows v (c ∷ l) = omega (arith, grows (v * 10 + (c - 48)) l)

module _ (s : List ℕ) where
  pub empty_wrong : length s ≡ 0 → parsed_of s ≡ None
  unfolding parsed_of
  empty_wrong e = simp (eq-eqb (length s) 0 e)

  pub other_wrong : every is_digit s ≡ false → parsed_of s ≡ None
  unfolding parsed_of
  other_wrong e = holds (λ (p : Option ℕ). p ≡ None) (eqb (length s) 0) _ _ (λ q. refl) (λ q. simp e)

  pub large_wrong : 2 ^ 64 - 1 < value_from 0 s → parsed_of s ≡ None
  unfolding parsed_of
  large_wrong h =
      holds (λ (p : Option ℕ). p ≡ None) (eqb (length s) 0) _ _ (λ q. refl) (λ q.
      holds (λ (p : Option ℕ). p ≡ None) (not (every is_digit s)) _ _ (λ r. refl) (λ r. simp (lt-ltb (2 ^ 64 - 1) (value_from 0 s) h)))

  pub is_number : (length s ≡ 0 → ⊥) → every is_digit s ≡ true → value_from 0 s ≤ 2 ^ 64 - 1 → parsed_of s ≡ Some (value_from 0 s)
  unfolding parsed_of
  is_number n e h = simp (ne_eqb (length s) 0 n, e, le-ltb (2 ^ 64 - 1) (value_from 0 s) h)
