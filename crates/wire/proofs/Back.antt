-- What is written reads back: where the shortest form of v stands, its first byte tells the form, and the bytes of the form are v.
-- Assumes nothing.
use mathlib.Core.Path.{◌≡◌, refl, ◌∙◌}
use mathlib.Core.List.{List}
use Prim.Native.Nat.{ℕ, ◌+◌, ◌*◌, ◌/◌, ◌%◌, ◌^◌, ◌≤◌, ◌<◌}
use native.Mathlib.Omega.{arith}
use borrow.Author.Tests.{ltb-true, ltb-false}
use lib.Dec.{ltb}
use lib.ListN.{length, get_or}
use Rattle.answers.proofs.Choice.{holds}
use Rattle.wire.specs.Number.{big_endian, values_in, number_at, spelled, form_of, size_of, bytes_of, Stands}
use Rattle.wire.proofs.BigEndian.{read_spelled, spelled_join, length_spelled}
use Rattle.wire.proofs.Standing.{left, head}
use Rattle.wire.proofs.Forms.{by_form, there}
use Rattle.std.specs.Prelude.{Some}

-- by the cases of the form that v takes
pub by_size : (v : ℕ) (P : ℕ → Type 0) → (v < 64 → P 0) → (64 ≤ v → v < 16384 → P 1) → (16384 ≤ v → v < 1073741824 → P 2) → (1073741824 ≤ v → P 3) → P (form_of v)
unfolding form_of
by_size v P a b c d =
    holds P (ltb v 64) _ _ (λ e. a (ltb-true _ _ e)) (λ e.
    holds P (ltb v 16384) _ _ (λ f. b (ltb-false _ _ e) (ltb-true _ _ f)) (λ f.
    holds P (ltb v 1073741824) _ _ (λ g. c (ltb-false _ _ f) (ltb-true _ _ g)) (λ g. d (ltb-false _ _ g))))

-- one form f of 1 + j bytes that spell x out: x has as many bytes, its top two bits are f and the others v
module _ (s : List ℕ) (at v f j x : ℕ) (fits : x < 256 ^ (1 + j)) (top : x / 256 ^ j % 256 / 64 % 4 ≡ f) (rest : x % values_in (1 + j) ≡ v) where
  form_back : 2 ^ f ≡ 1 + j → Stands s at (spelled (1 + j) x) → number_at s at ≡ Some (v, at + (1 + j))
  unfolding spelled
  form_back e st =
      let first : get_or s at 0 ≡ x / 256 ^ j % 256 = head _ _ (left (spelled 1 (x / 256 ^ j)) (spelled j x) (rw (spelled_join 1 j x) at st)) in
      let enough : at + (1 + j) ≤ length s = rw (length_spelled (1 + j) x) at st.ends in
      let all : big_endian s at (1 + j) ≡ x = read_spelled s at (1 + j) x fits st in
      by_form s at f (rw first top) ∙ rw e (there s at (1 + j) _ enough ∙ rw (all, rest))

-- the law: where the shortest form of v stands, v is read, and the place after it
pub back : (s : List ℕ) (at v : ℕ) → v < 2 ^ 62 → Stands s at (bytes_of v) → number_at s at ≡ Some (v, at + size_of v)
unfolding size_of bytes_of values_in
back s at v h =
    by_size v (λ (f : ℕ). Stands s at (spelled (2 ^ f) (f * values_in (2 ^ f) + v)) → number_at s at ≡ Some (v, at + 2 ^ f))
    (λ b. form_back s at v 0 0 _ (omega arith) (omega arith) (omega arith) refl)
    (λ a b. form_back s at v 1 1 _ (omega arith) (omega arith) (omega arith) refl)
    (λ a b. form_back s at v 2 3 _ (omega arith) (omega arith) (omega arith) refl)
    (λ a. form_back s at v 3 7 _ (omega arith) (omega arith) (omega arith) refl)
