-- A row that was written reads back, number after number: where it stands, its first number is read and the rest stands after it.
-- Assumes nothing.
use mathlib.Core.Path.{◌≡◌, refl, sym, ◌∙◌, subst}
use mathlib.Core.Bool.{true, false, not, and-eq-true_iff}
use mathlib.Core.List.{List, [], ◌∷◌}
use Prim.Native.Nat.{ℕ, zero, suc, ◌+◌, ◌-◌, ◌*◌, ◌^◌, ◌≤◌}
use native.Mathlib.Nat.{add-zero, add_assoc}
use native.Mathlib.Omega.{arith}
use borrow.Author.Tests.{leb-true, not-false}
use lib.Dec.{leb}
use lib.ListN.{length, take, length-append}
use Rattle.answers.specs.declared.Answer.TheVariants.{Unwritable}
use Rattle.wire.specs.Number.{number_at, bytes_of, size_of, Stands}
use Rattle.wire.specs.Writing.{Bytes, Never, writes, Written}
use Rattle.wire.proofs.Standing.{left, right}
use Rattle.wire.proofs.Back.{back}
use Rattle.wire.proofs.Writing.{past, bytes_written}
use Rattle.wire.proofs.Exit.{length_bytes, size_bounds}
use Rattle.row.specs.Row.{in_range, size_all, bytes_all, row_draft, ReadAs}
use Rattle.std.specs.Prelude.{Some, Result, Ok}
use Rattle.answers.specs.declared.Answer.{Answer}

pub length_all : (vs : List ℕ) → length (bytes_all vs) ≡ size_all vs
unfolding bytes_all size_all
length_all [] = refl
length_all (v ∷ vs) = rw (length-append, length_bytes v, length_all vs)

-- no more than 8 bytes for each number
pub size_most : (vs : List ℕ) → size_all vs ≤ 8 * length vs
unfolding size_all
size_most [] = omega arith
size_most (v ∷ vs) = omega (arith, size_bounds v, size_most vs)

-- the first numbers of a row in range are in range
pub range_take : (n : ℕ) (vs : List ℕ) → in_range vs ≡ true → in_range (take n vs) ≡ true
unfolding in_range
range_take zero vs r = refl
range_take (suc n) [] r = refl
range_take (suc n) (v ∷ vs) r =
    let b = (and-eq-true_iff (leb v (2 ^ 62 - 1)) (in_range vs)).0 r in
    rw b.0 (range_take n vs b.1)

-- the first number of a row reads back, and the rest stands after it
pub peel : (s : List ℕ) (at v : ℕ) (vs : List ℕ) → in_range (v ∷ vs) ≡ true → Stands s at (bytes_all (v ∷ vs))
    → (number_at s at ≡ Some (v, at + size_of v)) × (in_range vs ≡ true) × Stands s (at + size_of v) (bytes_all vs)
unfolding bytes_all in_range
peel s at v vs r st =
    let b = (and-eq-true_iff (leb v (2 ^ 62 - 1)) (in_range vs)).0 r in (
      back s at v (omega (arith, leb-true v (2 ^ 62 - 1) b.0)) (left (bytes_of v) (bytes_all vs) st),
      b.1,
      rw (length_bytes v) at (right (bytes_of v) (bytes_all vs) st),
    )

-- where a row stands it is read, number after number
pub reads : (s : List ℕ) (vs : List ℕ) (at : ℕ) → in_range vs ≡ true → Stands s at (bytes_all vs) → ReadAs s at vs (at + size_all vs)
unfolding size_all
reads s [] at r st = sym (add-zero at)
reads s (v ∷ vs) at r st =
    let p = peel s at v vs r st in
    (at + size_of v, p.0, subst (ReadAs s (at + size_of v) vs) (add_assoc at (size_of v) (size_all vs)) (reads s vs (at + size_of v) p.1 p.2))

module _ (vs : List ℕ) where
  -- a row in range has its bytes, and another is 109 whatever the room
  pub in_range_law : in_range vs ≡ true → row_draft vs ≡ Bytes (bytes_all vs)
  unfolding row_draft
  in_range_law h = rw h

  pub out_of_range : in_range vs ≡ false → row_draft vs ≡ Never Unwritable
  unfolding row_draft
  out_of_range h = rw h

module _ (vs out : List ℕ) (at : ℕ) {r : Result ℕ Answer} {after : List ℕ} (e : (r, after) ≡ writes (row_draft vs) out at) {n : ℕ} (p : r ≡ Ok n) where
  -- what is accepted is in range, and its bytes were written
  pub accepted : (in_range vs ≡ true) × Written (bytes_all vs) out at n after
  unfolding row_draft
  accepted =
      let q = past (not (in_range vs)) Unwritable (Bytes (bytes_all vs)) out at e p in
      (not-false (in_range vs) q.0, bytes_written (bytes_all vs) out at q.1 p)

  -- and it reads back as the same numbers, up to the place that was answered
  pub written : ReadAs after at vs n
  written =
      let a = accepted in
      subst (ReadAs after at vs) (sym (a.1.ends ∙ rw (length_all vs))) (reads after vs at a.0 a.1.stands)
