-- A frame contradicts nothing that is held exactly where its bytes are those of the marked places between `read` and `held`.
-- Assumes nothing.
use Prim.Native.Nat.{ℕ, ◌+◌, ◌-◌, ◌%◌, ◌≤◌, ◌<◌, max, min}
use mathlib.Core.Path.{◌≡◌, refl, sym, ◌∙◌, ap}
use mathlib.Core.Bool.{Bool, true, false, ◌&&◌}
use mathlib.Core.List.{List}
use native.Mathlib.Omega.{arith}
use native.Mathlib.Decide.{dec_le, ℕ_discrete}
use lib.ListN.{get_or}
use borrow.Author.Tests.{eq-eqb, eqb-true, not-false}
use Rattle.answers.specs.Choice.{◌⇒◌∣◌}
use Rattle.places.specs.Places.{mark_at, marked, within}
use Rattle.places.specs.Parts.{Up}
use Rattle.places.proofs.Slots.{mark_lt}
use Rattle.places.proofs.Bounds.{in_bounds, below_bounds, above_bounds, bit_mark}
use Rattle.seams.specs.Parts.{SameAt}
use Rattle.seams.proofs.Compared.{some_none, none_some}
use Rattle.clashes.specs.Held.{nothing, byte, held_at, contradicts, clash_of, room_for, clashes_in}
use Rattle.clashes.specs.Parts.{Room}
use Rattle.clashes.proofs.Fitting.{room_true}

pub is_true : (b : Bool) → (b ≡ false → ⊥) → true ≡ b
is_true true f = refl
is_true false f = absurd (f refl)

module _ (ring marks : List ℕ) (read held : ℕ) where
  -- what is held at a place that is marked, and at one that is not
  pub held_marked : (p : ℕ) → read ≤ p → p < held → mark_at marks p ≡ 1 → held_at ring marks read held p ≡ byte (get_or ring (p % 4096) 0)
  unfolding held_at
  held_marked p a b e = simp (in_bounds read held p a b, bit_mark marks p true e)

  pub held_unmarked : (p : ℕ) → (mark_at marks p ≡ 1 → ⊥) → held_at ring marks read held p ≡ nothing
  unfolding held_at
  held_unmarked p f = go (within read held p)
    where
      off : marked marks p ≡ false
      off = bit_mark marks p false (omega (arith, mark_lt marks p, f))

      go : (b : Bool) → (b && marked marks p ⇒ byte (get_or ring (p % 4096) 0) ∣ nothing) ≡ nothing
      go true = simp off
      go false = refl

  pub held_below : (p : ℕ) → p < read → held_at ring marks read held p ≡ nothing
  unfolding held_at
  held_below p h = simp (below_bounds read held p h)

  pub held_above : (p : ℕ) → held ≤ p → held_at ring marks read held p ≡ nothing
  unfolding held_at
  held_above p h = simp (above_bounds read held p h)

  module _ (s : List ℕ) (from len offset : ℕ) where
    -- the frame's bytes are those of the marked places from a up to b
    abbrev pub Agrees : ℕ → ℕ → Type 0
    Agrees a b = (p : ℕ) → a ≤ p → p < b → mark_at marks p ≡ 1 → get_or ring (p % 4096) 0 ≡ get_or s (from + (p - offset)) 0

    abbrev says : ℕ → Bool
    says k = contradicts (held_at ring marks read held (offset + k)) (get_or s (from + k) 0)

    pub no_clash : Agrees (max offset read) (min (offset + len) held) → clash_of (held_at ring marks read held) s from len offset ≡ false
    unfolding clash_of
    no_clash f = some_none len says (λ k h. go k h (dec_le read (offset + k)) (dec_le held (offset + k)) (ℕ_discrete (mark_at marks (offset + k)) 1))
      where
        go : (k : ℕ) → k < len → Dec (read ≤ offset + k) → Dec (held ≤ offset + k) → Dec (mark_at marks (offset + k) ≡ 1) → says k ≡ false
        go k h (no a) b d = simp (held_below (offset + k) (omega arith))
        go k h (yes a) (yes b) d = simp (held_above (offset + k) b)
        go k h (yes a) (no b) (no d) = simp (held_unmarked (offset + k) d)
        go k h (yes a) (no b) (yes d) =
            let e : from + (offset + k - offset) ≡ from + k = omega arith in
            simp (held_marked (offset + k) a (omega arith) d, eq-eqb _ _ (f (offset + k) (omega arith) (omega arith) d ∙ ap (λ (x : ℕ). get_or s x 0) e))

    pub agrees : clash_of (held_at ring marks read held) s from len offset ≡ false → Agrees (max offset read) (min (offset + len) held)
    unfolding clash_of
    agrees e p a b d =
        let k : offset + (p - offset) ≡ p = omega arith in
        let x : says (p - offset) ≡ false = none_some len says e (p - offset) (omega arith) in
        let y : held_at ring marks read held (offset + (p - offset)) ≡ byte (get_or ring (p % 4096) 0) = ap (held_at ring marks read held) k ∙ held_marked p (omega arith) (omega arith) d in
        eqb-true _ _ (not-false _ (rw y at x))

    -- one turn: no mark from `at` up to a, all marks from a up to b
    module _ (at a b to : ℕ) (skip : Up marks at to false a) (take : Up marks a to true b) where
      pub past : at < to → at < b
      past h = go (dec_le b at)
        where
          go : Dec (b ≤ at) → at < b
          go (no l) = omega arith
          go (yes l) =
              let e : b ≡ a = omega (arith, skip.least, take.least) in
              let x : mark_at marks a ≡ 1 → ⊥ = λ f. take.stop (omega (arith, skip.least)) (ap (mark_at marks) e ∙ f) in
              absurd (skip.stop (omega (arith, skip.least)) (omega (arith, mark_lt marks a, x)))

      pub agrees_more : (first : ℕ) → offset ≤ at → Agrees first at → SameAt ring a s (from + (a - offset)) (b - a) → Agrees first b
      agrees_more first l f g p h k d = go (dec_le at p) (dec_le a p)
        where
          go : Dec (at ≤ p) → Dec (a ≤ p) → get_or ring (p % 4096) 0 ≡ get_or s (from + (p - offset)) 0
          go (no x) y = f p h (omega arith) d
          go (yes x) (no y) = absurd (omega (arith, skip.all p x (omega arith)))
          go (yes x) (yes y) =
              let e : a + (p - a) ≡ p = omega arith in
              let j : from + (a - offset) + (p - a) ≡ from + (p - offset) = omega (arith, skip.least) in
              ap (λ (z : ℕ). get_or ring (z % 4096) 0) (sym e) ∙ g (p - a) (omega arith) ∙ ap (λ (z : ℕ). get_or s z 0) j

      pub agrees_here : (first last : ℕ) → offset ≤ at → first ≤ at → to ≤ last → Agrees first last → SameAt ring a s (from + (a - offset)) (b - a)
      agrees_here first last l h m f k x =
          let j : from + (a + k - offset) ≡ from + (a - offset) + k = omega (arith, skip.least) in
          f (a + k) (omega (arith, skip.least)) (omega (arith, take.within)) (take.all (a + k) (omega arith) (omega arith)) ∙ ap (λ (z : ℕ). get_or s z 0) j

-- a frame that does not fit, and one that does
module _ (ring marks : List ℕ) (read held : ℕ) (s : List ℕ) (from len offset : ℕ) where
  pub clash_unfit : room_for ring marks read held s from len offset ≡ false → false ≡ clashes_in ring marks read held s from len offset
  unfolding clashes_in
  clash_unfit e = simp e

  pub clash_is : Room ring marks read held s from len offset → (r : Bool) → r ≡ clash_of (held_at ring marks read held) s from len offset → r ≡ clashes_in ring marks read held s from len offset
  unfolding clashes_in
  clash_is room r e = e ∙ simp (room_true _ _ _ _ _ _ _ _ room)
