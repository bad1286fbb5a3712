-- A measure, by whether the frame can be written; and back, what a measure says of the frame.
-- Assumes nothing.
use mathlib.Core.Path.{◌≡◌, refl, sym, ◌∙◌}
use mathlib.Core.Bool.{Bool, true, false}
use Prim.Native.Nat.{ℕ}
use lib.ListN.{length}
use Rattle.answers.proofs.Distinct.{impossible}
use Rattle.contents.specs.Content.{Content}
use Rattle.contents.specs.Taken.{takes}
use Rattle.sizes.specs.Spelled.{spelled_frame}
use Rattle.sizes.specs.Measure.{measured_of}
use Rattle.std.specs.Prelude.{Some, None}

module _ (f : Content) where
  pub not_measured : takes f ≡ false → measured_of f ≡ None
  unfolding measured_of
  not_measured e = rw e

  pub measured : takes f ≡ true → measured_of f ≡ Some (length (spelled_frame f))
  unfolding measured_of
  measured e = rw e

  pub not_taken : measured_of f ≡ None → takes f ≡ false
  not_taken e = go (takes f) refl
    where
      go : (b : Bool) → takes f ≡ b → takes f ≡ false
      go true t = let g = sym (measured t) ∙ e in impossible cc
      go false t = t

  pub counted : {n : ℕ} → measured_of f ≡ Some n → (takes f ≡ true) × (n ≡ length (spelled_frame f))
  counted {n} e = go (takes f) refl
    where
      go : (b : Bool) → takes f ≡ b → (takes f ≡ true) × (n ≡ length (spelled_frame f))
      go true t = let g = sym (measured t) ∙ e in (t, cc)
      go false t = let g = sym (not_measured t) ∙ e in impossible cc
