-- Laws of `◌⇒◌∣◌`: what holds on both sides of a test holds of the choice.
-- Assumes nothing.
use mathlib.Core.Path.{◌≡◌, refl}
use mathlib.Core.Bool.{Bool, true, false}
use Prim.Native.Nat.{ℕ, ◌≤◌, ◌<◌}
use borrow.Author.Tests.{ltb-true, ltb-false}
use lib.Dec.{ltb}
use Rattle.answers.specs.Choice.{◌⇒◌∣◌}

-- a property of both sides is one of the choice, and each side may use its test
pub holds {ℓ κ} : {A : Type ℓ} (P : A → Type κ) (b : Bool) (x y : A) → (b ≡ true → P x) → (b ≡ false → P y) → P (b ⇒ x ∣ y)
holds P true x y p q = p refl
holds P false x y p q = q refl

-- by which of two numbers is below
pub below_or_not {ℓ} : {G : Type ℓ} (a b : ℕ) → (a < b → G) → (b ≤ a → G) → G
below_or_not {G} a b p q = holds (λ (t : Bool). G) (ltb a b) true false (λ e. p (ltb-true a b e)) (λ e. q (ltb-false a b e))

-- a function of a choice is the choice of its values
pub through {ℓ κ} : {A : Type ℓ} {B : Type κ} (f : A → B) (b : Bool) (x y : A) → f (b ⇒ x ∣ y) ≡ (b ⇒ f x ∣ f y)
through f true x y = refl
through f false x y = refl
