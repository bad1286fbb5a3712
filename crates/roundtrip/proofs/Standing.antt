-- What stands at a place is the slice there; and numbers that stand in their shortest forms, some of them left out, are read as they are.
-- Assumes nothing.
use mathlib.Core.Path.{◌≡◌, refl, ◌∙◌, ap}
use mathlib.Core.Bool.{Bool, true, false}
use mathlib.Core.List.{List, [], ◌∷◌, ◌++◌, append-nil}
use Prim.Native.Nat.{ℕ, zero, suc, ◌+◌, ◌^◌, ◌<◌}
use native.Mathlib.Nat.{add-zero}
use native.Mathlib.Omega.{arith}
use borrow.Author.Tests.{lt-ltb}
use lib.Dec.{ltb}
use lib.ListN.{length, take, length-append}
use lib.Seq.{slice, length-slice, get_or-drop, get_or-take, ext_get_or}
use Rattle.wire.specs.Number.{Stands, bytes_of}
use Rattle.wire.proofs.Standing.{left, right}
use Rattle.wire.proofs.Back.{back}
use Rattle.wire.proofs.Exit.{length_bytes}
use Rattle.row.specs.Row.{in_range, bytes_all}
use Rattle.layouts.specs.Body.{optional_at, numbers_at, are}
use Rattle.sizes.specs.Spelled.{four_bytes}
use Rattle.contents.specs.Again.{first}
use Rattle.contents.proofs.Ones.{four_in_range}
use Rattle.std.specs.Prelude.{Some}

pub slice_stands : (s : List ℕ) (at n : ℕ) (l : List ℕ) → length l ≡ n → Stands s at l → slice at (at + n) s ≡ l
slice_stands s at n l e h =
    let m : length (slice at (at + n) s) ≡ n = length-slice at (at + n) s (omega (arith, e, h.ends)) ∙ omega arith in
    ext_get_or 0 (slice at (at + n) s) l (omega (arith, e, m))
    (λ i k.
    let j : i < n = omega (arith, m) in
    get_or-drop at (take (at + n) s) i 0 ∙ get_or-take (at + n) s (at + i) 0 (omega arith) ∙ h.same i (omega (arith, e)))

-- a number if it is there
abbrev bytes_if : Bool → ℕ → List ℕ
bytes_if true v = bytes_of v
bytes_if false v = []

-- the first of four numbers, one by one
one_by_one : (n a b c d : ℕ) → four_bytes n a b c d ≡ bytes_if (ltb 0 n) a ++ (bytes_if (ltb 1 n) b ++ (bytes_if (ltb 2 n) c ++ bytes_if (ltb 3 n) d))
unfolding four_bytes bytes_all
one_by_one zero a b c d = refl
one_by_one (suc zero) a b c d = refl
one_by_one (suc (suc zero)) a b c d = refl
one_by_one (suc (suc (suc zero))) a b c d = refl
one_by_one (suc (suc (suc (suc n)))) a b c d =
    let m = suc (suc (suc (suc n))) in
    rw (lt-ltb 0 m (omega arith), lt-ltb 1 m (omega arith), lt-ltb 2 m (omega arith), lt-ltb 3 m (omega arith), none_taken n, append-nil)
  where
    none_taken : (k : ℕ) → take {A = ℕ} k [] ≡ []
    none_taken zero = refl
    none_taken (suc k) = refl

optional_back : (s : List ℕ) (at : ℕ) (there : Bool) (v : ℕ) → v < 2 ^ 62 → Stands s at (bytes_if there v) → (i n : ℕ) → ltb i n ≡ there → optional_at s at there ≡ Some (first i n v, at + length (bytes_if there v))
unfolding optional_at
optional_back s at true v h st i n e = rw (e, length_bytes v) (back s at v h st)
optional_back s at false v h st i n e = rw (e, add-zero)

pub numbers_back : (s : List ℕ) (at n a b c d : ℕ) → in_range (a ∷ b ∷ c ∷ d ∷ []) ≡ true → Stands s at (four_bytes n a b c d)
    → numbers_at s at n ≡ are (first 0 n a) (first 1 n b) (first 2 n c) (first 3 n d) (at + length (four_bytes n a b c d))
unfolding numbers_at
numbers_back s at n a b c d r inside =
    let A = bytes_if (ltb 0 n) a in
    let B = bytes_if (ltb 1 n) b in
    let C = bytes_if (ltb 2 n) c in
    let D = bytes_if (ltb 3 n) d in
    let low = four_in_range a b c d r in
    let st : Stands s at (A ++ (B ++ (C ++ D))) = rw (one_by_one n a b c d) at inside in
    let sb = right A (B ++ (C ++ D)) st in
    let sc = right B (C ++ D) sb in
    let oa = optional_back s at (ltb 0 n) a low.0 (left A (B ++ (C ++ D)) st) 0 n refl in
    let ob = optional_back s (at + length A) (ltb 1 n) b low.1 (left B (C ++ D) sb) 1 n refl in
    let oc = optional_back s (at + length A + length B) (ltb 2 n) c low.2 (left C D sc) 2 n refl in
    let od = optional_back s (at + length A + length B + length C) (ltb 3 n) d low.3 (right C D sc) 3 n refl in
    let e : at + length A + length B + length C + length D ≡ at + length (A ++ (B ++ (C ++ D))) = omega (arith, length-append A (B ++ (C ++ D)), length-append B (C ++ D), length-append C D) in
    rw (one_by_one n a b c d, oa, ob, oc, od) (ap (are (first 0 n a) (first 1 n b) (first 2 n c) (first 3 n d)) e)
