-- The cases of a number's form, each under the test that leads there.
-- Assumes nothing.
use mathlib.Core.Path.{◌≡◌, ◌∙◌, ap}
use mathlib.Core.List.{List}
use Prim.Native.Nat.{ℕ, ◌+◌, ◌*◌, ◌/◌, ◌%◌, ◌^◌, ◌≤◌, ◌<◌}
use native.Mathlib.Nat.{add-zero, zero-add}
use native.Mathlib.Omega.{arith}
use borrow.Author.Tests.{lt-ltb, le-ltb}
use lib.ListN.{length, get_or, get_or-eq_default}
use Rattle.wire.specs.Number.{big_endian, field_at, plain_at, values_in, form_at, number_at, form_of, size_of, bytes_of, spelled}
use Rattle.std.specs.Prelude.{Some, None}

module _ (s : List ℕ) (at : ℕ) where
  -- the first byte tells the form
  pub by_form : (f : ℕ) → get_or s at 0 / 64 % 4 ≡ f → number_at s at ≡ form_at s at (2 ^ f)
  unfolding number_at
  by_form f e = ap (λ (g : ℕ). form_at s at (2 ^ g)) e

  pub there : (k x : ℕ) → at + k ≤ length s → field_at s at k x ≡ Some (x, at + k)
  unfolding field_at
  there k x h = simp (le-ltb _ _ h)

  pub cut : (k x : ℕ) → length s < at + k → field_at s at k x ≡ None
  unfolding field_at
  cut k x h = simp (lt-ltb _ _ h)

  -- one byte is its own value, and a number of that form is below 64
  pub plain_byte : at + 1 ≤ length s → plain_at s at 1 ≡ Some (get_or s at 0, at + 1)
  unfolding big_endian
  plain_byte h = there 1 _ h ∙ rw (add-zero, zero-add)

  pub form_byte : get_or s at 0 < 64 → at + 1 ≤ length s → form_at s at 1 ≡ Some (get_or s at 0, at + 1)
  unfolding big_endian values_in
  form_byte h k = there 1 _ k ∙ rw add-zero (ap (λ (v : ℕ). Some (v, at + 1)) (omega arith))

  -- past the end nothing is read
  pub past : length s ≤ at → number_at s at ≡ None
  past h = by_form 0 (rw (get_or-eq_default s 0 h)) ∙ cut 1 _ (omega arith)

module _ (v : ℕ) where
  pub form_0 : v < 64 → form_of v ≡ 0
  unfolding form_of
  form_0 h = simp (lt-ltb _ _ h)

  pub form_1 : 64 ≤ v → v < 16384 → form_of v ≡ 1
  unfolding form_of
  form_1 l h = simp (le-ltb _ _ l, lt-ltb _ _ h)

  pub form_2 : 16384 ≤ v → v < 1073741824 → form_of v ≡ 2
  unfolding form_of
  form_2 l h = simp (le-ltb v 64 (omega arith), le-ltb _ _ l, lt-ltb _ _ h)

  pub form_3 : 1073741824 ≤ v → form_of v ≡ 3
  unfolding form_of
  form_3 l = simp (le-ltb v 64 (omega arith), le-ltb v 16384 (omega arith), le-ltb _ _ l)

  -- size and bytes from the form
  pub sized : (f : ℕ) → form_of v ≡ f → size_of v ≡ 2 ^ f
  unfolding size_of
  sized f e = ap (λ (g : ℕ). 2 ^ g) e

  pub formed : (f : ℕ) → form_of v ≡ f → bytes_of v ≡ spelled (2 ^ f) (f * values_in (2 ^ f) + v)
  unfolding bytes_of size_of
  formed f e = ap (λ (g : ℕ). spelled (2 ^ g) (g * values_in (2 ^ g) + v)) e
