-- A number that is written: how many bytes it has, when it has a form at all, and that it reads back.
-- Assumes nothing.
use mathlib.Core.Path.{◌≡◌}
use mathlib.Core.List.{List}
use Prim.Native.Nat.{ℕ, ◌+◌, ◌-◌, ◌*◌, ◌^◌, ◌≤◌, ◌<◌}
use native.Mathlib.Omega.{arith}
use borrow.Author.Tests.{ltb-false, lt-ltb, le-ltb}
use lib.Dec.{ltb}
use lib.ListN.{length}
use Rattle.answers.specs.declared.Answer.{Answer}
use Rattle.answers.specs.declared.Answer.TheVariants.{Unwritable}
use Rattle.wire.specs.Number.{number_at, size_of, bytes_of, form_of, values_in}
use Rattle.wire.specs.Writing.{Bytes, Never, writes, number_draft, Written}
use Rattle.wire.proofs.BigEndian.{length_spelled}
use Rattle.wire.proofs.Back.{back, by_size}
use Rattle.wire.proofs.Writing.{past, bytes_written, bytes_unrefused}
use Rattle.std.specs.Prelude.{Some, Result, Ok, Err}

pub length_bytes : (v : ℕ) → length (bytes_of v) ≡ size_of v
unfolding bytes_of
length_bytes v = length_spelled (size_of v) (form_of v * values_in (size_of v) + v)

pub size_bounds : (v : ℕ) → (0 < size_of v) × (size_of v ≤ 8)
unfolding size_of
size_bounds v = by_size v (λ (f : ℕ). (0 < 2 ^ f) × (2 ^ f ≤ 8)) (λ h. omega arith) (λ h k. omega arith) (λ h k. omega arith) (λ h. omega arith)

module _ (v : ℕ) where
  -- a value in range has its bytes, and another is 109 whatever the room
  pub in_range_law : v < 2 ^ 62 → number_draft v ≡ Bytes (bytes_of v)
  unfolding number_draft
  in_range_law h = simp (le-ltb (2 ^ 62 - 1) v (omega arith))

  pub out_of_range : 2 ^ 62 - 1 < v → number_draft v ≡ Never Unwritable
  unfolding number_draft
  out_of_range h = simp (lt-ltb (2 ^ 62 - 1) v h)

module _ (v : ℕ) (out : List ℕ) (at : ℕ) {r : Result ℕ Answer} {after : List ℕ} (e : (r, after) ≡ writes (number_draft v) out at) where
  -- a value in range is not refused where there is room for it
  pub unrefused : v < 2 ^ 62 → at + length (bytes_of v) ≤ length out → {a : Answer} → r ≡ Err a → ⊥
  unrefused h = bytes_unrefused (bytes_of v) out at (rw (in_range_law v h) at e)

  -- what is accepted is in range, and its shortest form was written
  pub accepted : {n : ℕ} → r ≡ Ok n → (v < 2 ^ 62) × Written (bytes_of v) out at n after
  unfolding number_draft
  accepted p =
      let q = past (ltb (2 ^ 62 - 1) v) Unwritable (Bytes (bytes_of v)) out at e p in
      (omega (arith, ltb-false (2 ^ 62 - 1) v q.0), bytes_written (bytes_of v) out at q.1 p)

  -- and it reads back
  pub reads : {n : ℕ} → r ≡ Ok n → number_at after at ≡ Some (v, n)
  reads p =
      let a = accepted p in
      rw (a.1.ends, length_bytes v) (back after at v a.0 a.1.stands)
