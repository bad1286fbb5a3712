-- A number that was read is sound: each form has fewer than 2^62 values, and a form that is whole ends within the bytes.
-- Assumes nothing.
use mathlib.Core.Path.{◌≡◌, refl, subst}
use mathlib.Core.List.{List}
use Prim.Native.Nat.{ℕ, zero, suc, ◌+◌, ◌/◌, ◌%◌, ◌^◌, ◌<◌}
use native.Mathlib.Omega.{arith}
use borrow.Author.Tests.{ltb-false}
use lib.Dec.{ltb}
use lib.ListN.{length, get_or}
use Rattle.answers.proofs.Choice.{holds}
use Rattle.wire.specs.Number.{field_at, values_in, form_at, number_at, with_number}
use Rattle.wire.specs.Sound.{Sound, Found}
use Rattle.std.specs.Prelude.{Option, Some, None}

-- one of four forms
pub four : (P : ℕ → Type 0) → P 0 → P 1 → P 2 → P 3 → (f : ℕ) → f < 4 → P f
four P a b c d zero h = a
four P a b c d (suc zero) h = b
four P a b c d (suc (suc zero)) h = c
four P a b c d (suc (suc (suc zero))) h = d
four P a b c d (suc (suc (suc (suc f)))) h = absurd (omega arith)

module _ (s : List ℕ) (at : ℕ) where
  abbrev IfRead : Option (ℕ × ℕ) → Type 0
  IfRead (Some (v, n)) = Sound s at v n
  IfRead None = Unit

  field_sound : (k x : ℕ) → 0 < k → x < 2 ^ 62 → IfRead (field_at s at k x)
  unfolding field_at
  field_sound k x p h =
      holds IfRead (ltb (length s) (at + k)) None (Some (x, at + k)) (λ e. tt)
      (λ e. record { low = h; above = omega arith; within = ltb-false _ _ e })

  all_sound : IfRead (number_at s at)
  unfolding number_at values_in
  all_sound =
      four (λ (f : ℕ). IfRead (form_at s at (2 ^ f)))
      (field_sound 1 _ (omega arith) (omega arith)) (field_sound 2 _ (omega arith) (omega arith))
      (field_sound 4 _ (omega arith) (omega arith)) (field_sound 8 _ (omega arith) (omega arith))
      (get_or s at 0 / 64 % 4) (omega arith)

  pub sound : {v next : ℕ} → number_at s at ≡ Some (v, next) → Sound s at v next
  sound e = subst IfRead e all_sound

module _ (s : List ℕ) (at k x : ℕ) where
  abbrev IfFound : Option (ℕ × ℕ) → Type 0
  IfFound (Some (v, n)) = Found s at k x v n
  IfFound None = Unit

  -- a field that was read has its value and its length
  pub found : {v next : ℕ} → field_at s at k x ≡ Some (v, next) → Found s at k x v next
  unfolding field_at
  found e =
      subst IfFound e
      (holds IfFound (ltb (length s) (at + k)) None (Some (x, at + k)) (λ e. tt)
      (λ e. record { value = refl; ends = refl; within = ltb-false _ _ e }))

-- what holds where the bytes end and wherever a value was read holds of what goes on with it
pub with_number_law : {X : Type 0} (P : X → Type 0) (n : Option (ℕ × ℕ)) (x : X) (k : ℕ → ℕ → X) → P x → ((v next : ℕ) → n ≡ Some (v, next) → P (k v next)) → P (with_number n x k)
with_number_law P (Some (v, next)) x k p q = q v next refl
with_number_law P None x k p q = p
