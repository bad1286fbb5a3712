-- Going on with what was read: what holds where it stops, and wherever it goes on, holds of the whole.
-- Assumes nothing.
use mathlib.Core.Path.{◌≡◌, refl}
use Prim.Native.Nat.{ℕ}
use Rattle.layouts.specs.Body.{are, holds_at, with_numbers, with_body}
use Rattle.layouts.specs.declared.Numbers.{Numbers}
use Rattle.layouts.specs.declared.Body.{Body}
use Rattle.std.specs.Prelude.{Option, Some, None}

pub with_numbers_law : {X : Type 0} (P : X → Type 0) (m : Option Numbers) (x : X) (k : ℕ → ℕ → ℕ → ℕ → ℕ → X) → P x
    → ((a b c d next : ℕ) → m ≡ are a b c d next → P (k a b c d next)) → P (with_numbers m x k)
with_numbers_law P (Some n) x k p q = q n.a n.b n.c n.d n.next refl
with_numbers_law P None x k p q = p

pub with_body_law : {X : Type 0} (P : X → Type 0) (m : Option Body) (x : X) (k : ℕ → ℕ → ℕ → ℕ → X) → P x
    → ((at len token next : ℕ) → m ≡ holds_at at len token next → P (k at len token next)) → P (with_body m x k)
with_body_law P (Some b) x k p q = q b.at b.len b.token b.next refl
with_body_law P None x k p q = p
