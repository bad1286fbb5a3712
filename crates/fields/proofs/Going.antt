-- Going on with the fields that were read: what holds where there are none, and wherever it goes on, holds of the whole.
-- Assumes nothing.
use mathlib.Core.Path.{◌≡◌, refl}
use Prim.Native.Nat.{ℕ}
use Rattle.fields.specs.Parts.{with_fields}
use Rattle.fields.specs.declared.Parts.{Parts}
use Rattle.std.specs.Prelude.{Option, Some, None}

pub with_fields_law : {X : Type 0} (P : X → Type 0) (m : Option (Parts × ℕ)) (x : X) (k : Parts → ℕ → X) → P x
    → ((p : Parts) (next : ℕ) → m ≡ Some (p, next) → P (k p next)) → P (with_fields m x k)
with_fields_law P (Some (p, next)) x k y q = q p next refl
with_fields_law P None x k y q = y
