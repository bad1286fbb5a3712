-- What was read after a type is sound: each number and each tail ends within the payload and not before its place.
-- Assumes nothing.
use mathlib.Core.Path.{◌≡◌, ap, subst}
use mathlib.Core.Bool.{Bool, true, false}
use mathlib.Core.List.{List}
use Prim.Native.Nat.{ℕ, ◌+◌, ◌-◌, ◌≤◌}
use native.Mathlib.Omega.{arith}
use borrow.Author.Tests.{ltb-false}
use lib.Dec.{ltb}
use lib.ListN.{length, get_or}
use Rattle.answers.proofs.Choice.{holds}
use Rattle.wire.specs.Number.{number_at, with_number}
use Rattle.wire.proofs.Sound as number
use Rattle.ranges.specs.Ranges.{ranges_at}
use Rattle.ranges.proofs.Sound as ranges
use Rattle.layouts.specs.Body.{are, holds_at, optional_at, numbers_at, sized_at, counted_at, remainder_at, identity_at, ranged_at, body_at}
use Rattle.layouts.specs.declared.Tail.{Tail}
use Rattle.layouts.specs.declared.Tail.TheVariants as Tail'
use Rattle.layouts.specs.declared.Numbers.{Numbers}
use Rattle.layouts.specs.declared.Body.{Body}
use Rattle.std.specs.Prelude.{Option, Some, None}

-- places that are not before a place within the payload, nor outside
module _ (s : List ℕ) where
  optional_in : (at : ℕ) (there : Bool) {v n : ℕ} → optional_at s at there ≡ Some (v, n) → at ≤ length s → (at ≤ n) × (n ≤ length s)
  unfolding optional_at
  optional_in at true e h = let i = number.sound s at e in (omega (arith, i.above), i.within)
  optional_in at false {v} {n} e h =
      let q : at ≡ n = ap (λ (m : Option (ℕ × ℕ)). with_number m 0 (λ v next. next)) e in
      (omega arith, omega arith)

  abbrev NumbersIn : ℕ → Option Numbers → Type 0
  NumbersIn at (Some n') = (at ≤ n'.next) × (n'.next ≤ length s)
  NumbersIn at None = Unit

  all_numbers_in : (at k : ℕ) → at ≤ length s → NumbersIn at (numbers_at s at k)
  unfolding numbers_at
  all_numbers_in at k h =
      number.with_number_law (NumbersIn at) (optional_at s at (ltb 0 k)) None _ tt (λ a p e.
      let i = optional_in at (ltb 0 k) e h in
      number.with_number_law (NumbersIn at) (optional_at s p (ltb 1 k)) None _ tt (λ b q e2.
      let j = optional_in p (ltb 1 k) e2 i.1 in
      number.with_number_law (NumbersIn at) (optional_at s q (ltb 2 k)) None _ tt (λ c r e3.
      let l = optional_in q (ltb 2 k) e3 j.1 in
      number.with_number_law (NumbersIn at) (optional_at s r (ltb 3 k)) None _ tt (λ d n e4.
      let m = optional_in r (ltb 3 k) e4 l.1 in
      (omega (arith, i.0, j.0, l.0, m.0), m.1)))))

  pub numbers_in : (at k : ℕ) {a b c d n : ℕ} → numbers_at s at k ≡ are a b c d n → at ≤ length s → (at ≤ n) × (n ≤ length s)
  numbers_in at k e h = subst (NumbersIn at) e (all_numbers_in at k h)

  abbrev BodyIn : ℕ → Option Body → Type 0
  BodyIn at (Some b) = (at ≤ b.next) × (b.next ≤ length s)
  BodyIn at None = Unit

  sized_in : (at k : ℕ) → BodyIn at (sized_at (length s) at k)
  unfolding sized_at
  sized_in at k = holds (BodyIn at) (ltb (length s) (at + k)) None _ (λ t. tt) (λ t. (omega arith, ltb-false _ _ t))

  nearer : (at p : ℕ) (m : Option Body) → at ≤ p → BodyIn p m → BodyIn at m
  nearer at p (Some b') h b = (omega (arith, b.0), b.1)
  nearer at p None h b = tt

  all_bodies_in : (at : ℕ) (tail : Tail) (a c d : ℕ) → at ≤ length s → BodyIn at (body_at s at tail a c d)
  unfolding counted_at remainder_at identity_at ranged_at
  all_bodies_in at Tail'.Nothing a c d h = (omega arith, h)
  all_bodies_in at Tail'.Counted a c d h =
      number.with_number_law (BodyIn at) (number_at s at) None _ tt (λ k next e.
      nearer at next (sized_at (length s) next k) (omega (arith, (number.sound s at e).above)) (sized_in next k))
  all_bodies_in at Tail'.Remainder a c d h = holds (BodyIn at) (ltb (length s) at) None _ (λ t. tt) (λ t. (h, omega arith))
  all_bodies_in at Tail'.Eight a c d h = sized_in at 8
  all_bodies_in at Tail'.Identity a c d h =
      holds (BodyIn at) (ltb (length s) (at + 1 + get_or s at 0 + 16)) None _ (λ t. tt) (λ t. (omega arith, ltb-false _ _ t))
  all_bodies_in at Tail'.Ranges a c d h =
      holds (BodyIn at) (ltb a d) None _ (λ t. tt) (λ t.
      ranges.with_ranges_law (BodyIn at) (ranges_at s c at (a - d)) None _ tt (λ n e. ranges.sound s c at (a - d) e h))

  pub body_in : (at : ℕ) (tail : Tail) (a c d : ℕ) {start len token n : ℕ} → body_at s at tail a c d ≡ holds_at start len token n → at ≤ length s → (at ≤ n) × (n ≤ length s)
  body_in at tail a c d e h = subst (BodyIn at) e (all_bodies_in at tail a c d h)
