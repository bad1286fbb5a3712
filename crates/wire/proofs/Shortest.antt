-- Whether a number stands in its shortest form is told by its value and its two places: the test holds exactly where the bytes there are that form; and no bytes that read as the number are fewer.
-- Assumes nothing.
use mathlib.Core.Path.{◌≡◌, refl, ◌∙◌, ap}
use mathlib.Core.Bool.{true}
use mathlib.Core.List.{List}
use Prim.Native.Nat.{ℕ, zero, suc, ◌+◌, ◌*◌, ◌-◌, ◌/◌, ◌%◌, ◌^◌, ◌≤◌, ◌<◌}
use native.Mathlib.Nat.{add-zero, zero-add, pow-suc, mod-lt}
use native.Mathlib.Omega.{arith}
use borrow.Author.Tests.{eqb-true, eq-eqb}
use lib.Pow.{pow-lt, pow_pos}
use lib.ListN.{length, get_or}
use Rattle.answers.proofs.Choice.{below_or_not}
use Rattle.wire.specs.Number.{big_endian, values_in, number_at, form_at, spelled, form_of, size_of, bytes_of, shortest, Stands}
use Rattle.wire.proofs.BigEndian.{join, length_spelled}
use Rattle.wire.proofs.Standing.{append, one}
use Rattle.wire.proofs.Back.{back, by_size}
use Rattle.wire.proofs.Sound.{sound, found, four}
use Rattle.wire.proofs.Forms.{formed}
use Rattle.std.specs.Prelude.{Some}

-- the form is fixed by its size
form_by_size : (v f : ℕ) → size_of v ≡ 2 ^ f → form_of v ≡ f
unfolding size_of
form_by_size v f e =
    below_or_not (form_of v) f (λ h. absurd (omega (arith, pow-lt h)))
    (λ h. below_or_not f (form_of v) (λ k. absurd (omega (arith, pow-lt k))) (λ k. omega arith))

module _ (s : List ℕ) (bytes : (i : ℕ) → get_or s i 0 < 256) where
  low : (at k : ℕ) → big_endian s at k < 256 ^ k
  unfolding big_endian
  low at zero = omega arith
  low at (suc k) = rw pow-suc (omega (arith, low at k, bytes (at + k)))

  -- bytes are spelled out by their value
  spelled_read : (at k : ℕ) → at + k ≤ length s → Stands s at (spelled k (big_endian s at k))
  unfolding big_endian spelled
  spelled_read at zero h = record { ends = omega arith; same = λ i l. absurd (omega arith) }
  spelled_read at (suc k) h =
      let x = big_endian s at k in
      let b = bytes (at + k) in
      let d : (x * 256 + get_or s (at + k) 0) / 256 ≡ x = omega arith in
      let m : (x * 256 + get_or s (at + k) 0) % 256 ≡ get_or s (at + k) 0 = omega arith in
      rw (d, m) (append (spelled k x) _ (spelled_read at k (omega arith)) (rw (length_spelled k x) (one s (at + k) (omega arith))))

  -- the first byte and the others
  parts : (at j : ℕ) → (big_endian s at (1 + j) ≡ get_or s at 0 * 256 ^ j + big_endian s (at + 1) j) × (big_endian s (at + 1) j < 256 ^ j)
  unfolding big_endian
  parts at j = (join s at 1 j ∙ rw (add-zero, zero-add), low (at + 1) j)

  -- one form f of k bytes, whose top two bits are f
  form_stands : (at v n f k : ℕ) → 2 ^ f ≡ k → big_endian s at k ≡ f * values_in k + big_endian s at k % values_in k → shortest at v n ≡ true → form_at s at k ≡ Some (v, n) → Stands s at (bytes_of v)
  unfolding shortest
  form_stands at v n f k e top t q =
      let r = found s at k _ q in
      let z : size_of v ≡ 2 ^ f = omega (arith, e, r.ends, eqb-true n (at + size_of v) t) in
      rw (formed v f (form_by_size v f z), e, r.value, ← top) (spelled_read at k r.within)

  pub shortest_stands : (at : ℕ) {v n : ℕ} → number_at s at ≡ Some (v, n) → shortest at v n ≡ true → Stands s at (bytes_of v)
  unfolding number_at values_in
  shortest_stands at {v} {n} e t =
      four (λ (f : ℕ). get_or s at 0 / 64 % 4 ≡ f → form_at s at (2 ^ f) ≡ Some (v, n) → Stands s at (bytes_of v))
      (λ b. form_stands at v n 0 1 refl (omega (arith, parts at 0, bytes at)) t) (λ b. form_stands at v n 1 2 refl (omega (arith, parts at 1, bytes at)) t)
      (λ b. form_stands at v n 2 4 refl (omega (arith, parts at 3, bytes at)) t) (λ b. form_stands at v n 3 8 refl (omega (arith, parts at 7, bytes at)) t)
      (get_or s at 0 / 64 % 4) (omega arith) refl e

pub stands_shortest : (s : List ℕ) (at : ℕ) {v n : ℕ} → number_at s at ≡ Some (v, n) → Stands s at (bytes_of v) → shortest at v n ≡ true
unfolding shortest
stands_shortest s at {v} {n} e st =
    let b : number_at s at ≡ Some (v, at + size_of v) = back s at v (sound s at e).low st in
    let p : (v, n) ≡ (v, at + size_of v) = cc in
    eq-eqb _ _ (ap (λ (x : ℕ × ℕ). x.1) p)

-- the shortest form is the shortest: bytes that read as v are never fewer
module _ (s : List ℕ) (at : ℕ) {v next : ℕ} where
  form_least : (k : ℕ) → (v < values_in k → size_of v ≤ k) → form_at s at k ≡ Some (v, next) → at + size_of v ≤ next
  unfolding values_in
  form_least k small e =
      let r = found s at k _ e in
      let l = mod-lt (big_endian s at k) {m = values_in k} (pow_pos (8 * k - 2)) in
      omega (arith, r.ends, small (omega (arith, r.value)))

  pub least : number_at s at ≡ Some (v, next) → at + size_of v ≤ next
  unfolding number_at values_in size_of
  least =
      four (λ (f : ℕ). form_at s at (2 ^ f) ≡ Some (v, next) → at + size_of v ≤ next)
      (form_least 1 (λ h. by_size v (λ (f : ℕ). 2 ^ f ≤ 1) (λ a. omega arith) (λ a b. omega arith) (λ a b. omega arith) (λ a. omega arith)))
      (form_least 2 (λ h. by_size v (λ (f : ℕ). 2 ^ f ≤ 2) (λ a. omega arith) (λ a b. omega arith) (λ a b. omega arith) (λ a. omega arith)))
      (form_least 4 (λ h. by_size v (λ (f : ℕ). 2 ^ f ≤ 4) (λ a. omega arith) (λ a b. omega arith) (λ a b. omega arith) (λ a. omega arith)))
      (form_least 8 (λ h. by_size v (λ (f : ℕ). 2 ^ f ≤ 8) (λ a. omega arith) (λ a b. omega arith) (λ a b. omega arith) (λ a. omega arith)))
      (get_or s at 0 / 64 % 4) (omega arith)
