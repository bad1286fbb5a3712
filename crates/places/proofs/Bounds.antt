-- A place against two bounds, and a mark against its bit: the tests and the facts say the same.
-- Assumes nothing.
use Prim.Native.Nat.{ℕ, ◌≤◌, ◌<◌}
use mathlib.Core.Path.{◌≡◌, refl, sym}
use mathlib.Core.Bool.{Bool, true, false, and-eq-true_iff}
use mathlib.Core.List.{List}
use native.Mathlib.Omega.{arith}
use native.Mathlib.Decide.{dec_le}
use lib.Dec.{eqb, leb, ltb}
use borrow.Author.Tests.{lt-ltb, le-ltb, le-leb, lt-leb, eq-eqb, ne_eqb, eqb-true, eqb-false, leb-true, ltb-true}
use Rattle.ring.specs.Bits.{as_bit}
use Rattle.places.specs.Places.{mark_at, marked, within}
use Rattle.places.proofs.Slots.{mark_lt}

-- a place and two bounds
module _ (a b p : ℕ) where
  pub in_bounds : a ≤ p → p < b → within a b p ≡ true
  unfolding within
  in_bounds h l = simp (le-leb _ _ h, lt-ltb _ _ l)

  pub below_bounds : p < a → within a b p ≡ false
  unfolding within
  below_bounds h = simp (lt-leb _ _ h)

  pub above_bounds : b ≤ p → within a b p ≡ false
  unfolding within
  above_bounds h = go (dec_le a p)
    where
      go : Dec (a ≤ p) → within a b p ≡ false
      go (yes l) = simp (le-leb _ _ l, le-ltb _ _ h)
      go (no l) = below_bounds (omega arith)

  pub bounds : within a b p ≡ true → (a ≤ p) × (p < b)
  unfolding within
  bounds e = let x = (and-eq-true_iff (leb a p) (ltb p b)).0 e in (leb-true a p x.0, ltb-true p b x.1)

-- a mark and its bit
pub mark_bit : (ws : List ℕ) (p : ℕ) → as_bit (marked ws p) ≡ mark_at ws p
unfolding marked
mark_bit ws p = go (eqb (mark_at ws p) 1) refl
  where
    go : (b : Bool) → eqb (mark_at ws p) 1 ≡ b → as_bit b ≡ mark_at ws p
    go true e = sym (eqb-true _ 1 e)
    go false e = omega (arith, mark_lt ws p, eqb-false (mark_at ws p) 1 e)

pub bit_mark : (ws : List ℕ) (p : ℕ) (b : Bool) → mark_at ws p ≡ as_bit b → marked ws p ≡ b
unfolding marked
bit_mark ws p true e = eq-eqb _ 1 e
bit_mark ws p false e = ne_eqb (mark_at ws p) 1 (omega arith)
