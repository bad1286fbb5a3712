-- What a frame is answered and leaves, case by case: one that does not fit, one that contradicts a byte that is held, and one that is kept.
-- Assumes nothing.
use Prim.Native.Nat.{ℕ, ◌+◌, max}
use mathlib.Core.Path.{◌≡◌, sym, ◌∙◌, ap}
use mathlib.Core.Bool.{Bool, true, false}
use mathlib.Core.List.{List}
use Rattle.answers.specs.Choice.{◌⇒◌∣◌}
use Rattle.std.specs.Prelude.{Result, Ok, Err}
use Rattle.holding.specs.declared.OfferError.{OfferError}
use Rattle.holding.specs.declared.OfferError.TheVariants.{Outside, Contradicts}
use Rattle.clashes.specs.Held.{held_at, clash_of, room_for, clashes_in}
use Rattle.keeping.specs.After.{ring_after, marks_after}
use Rattle.holding.specs.Kept.{offered_of, keeps, ring_kept, marks_kept}

module _ (ring marks : List ℕ) (read held : ℕ) (s : List ℕ) (from len offset : ℕ) where
  -- the answer, the ring and the marks
  abbrev pub Leaves : Result ℕ OfferError → List ℕ → List ℕ → Type 0
  Leaves a r m =
      (a ≡ offered_of ring marks read held s from len offset) × ((r ≡ ring_kept ring marks read held s from len offset) × (m ≡ marks_kept ring marks read held s from len offset))

  pub outside : room_for ring marks read held s from len offset ≡ false → Leaves (Err Outside) ring marks
  unfolding offered_of keeps ring_kept marks_kept
  outside e = (simp e, (simp e, simp e))

  module _ (room : room_for ring marks read held s from len offset ≡ true) where
    told : (b : Bool) → clashes_in ring marks read held s from len offset ≡ b → clash_of (held_at ring marks read held) s from len offset ≡ b
    unfolding clashes_in
    told b f = sym (simp room) ∙ f

    pub clashes : clashes_in ring marks read held s from len offset ≡ true → Leaves (Err Contradicts) ring marks
    unfolding offered_of keeps ring_kept marks_kept
    clashes f = let e = told true f in (simp (room, e), (simp (room, e), simp (room, e)))

    pub kept : clashes_in ring marks read held s from len offset ≡ false → (top : ℕ) (r m : List ℕ) → top ≡ (room_for ring marks read held s from len offset ⇒ max held (offset + len) ∣ held)
        → r ≡ (room_for ring marks read held s from len offset ⇒ ring_after ring read s from len offset ∣ ring)
        → m ≡ (room_for ring marks read held s from len offset ⇒ marks_after marks read held len offset ∣ marks) → Leaves (Ok top) r m
    unfolding offered_of keeps ring_kept marks_kept
    kept f top r m a b c = let e = told false f in (ap Ok (rw room at a) ∙ simp (room, e), (rw room at b ∙ simp (room, e), rw room at c ∙ simp (room, e)))
