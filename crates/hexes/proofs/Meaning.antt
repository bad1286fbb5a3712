-- A text that is read to its end with no byte begun is pairs of digits once its gaps are taken out, and its bytes are theirs: each digit that ends a byte stands after the one that began it, with no gap between them.
-- Assumes nothing.
use mathlib.Core.Path.{◌≡◌, refl}
use mathlib.Core.Bool.{true, and-eq-true_iff}
use mathlib.Core.List.{List, [], ◌∷◌}
use Prim.Native.Nat.{ℕ, suc, ◌+◌, ◌*◌, ◌%◌}
use native.Mathlib.Omega.{arith}
use borrow.Author.Tests.{eqb-true, eq-eqb}
use lib.Dec.{eqb}
use lib.ListN.{length}
use Rattle.text.specs.Text.{every}
use Rattle.hexes.specs.Hex.{is_pairs, bytes_in}
use Rattle.dumps.specs.Digits.{half_of, is_half}
use Rattle.std.specs.Prelude.{Some, None}
use Rattle.answers.proofs.Distinct.{impossible}
use Rattle.dumps.proofs.Digits.{half_bound, is_half_law}
use Rattle.dumps.specs.Dump.{Reading, stepped, begun_of, read_of}
use Rattle.hexes.specs.Spaced.{solid_of}
use Rattle.dumps.proofs.Characters.{begun_low, begun_none, by_step, digit_no_gap}

-- a text is pairs of digits, with these bytes
record Means (l bytes : List ℕ) : Type 0 where
  pairs : is_pairs l ≡ true
  values : bytes ≡ bytes_in l

-- with a pair more before it
pair_more : (a b : ℕ) {x y : ℕ} (l bytes : List ℕ) → half_of a ≡ Some x → half_of b ≡ Some y → Means l bytes → Means (a ∷ b ∷ l) ((x * 16 + y) ∷ bytes)
unfolding is_pairs every bytes_in
pair_more a b l bytes u v m =
    let t = (and-eq-true_iff (eqb (length l % 2) 0) (every is_half l)).0 m.pairs in
    let n = eqb-true (length l % 2) 0 t.0 in
    let e : eqb (suc (suc (length l)) % 2) 0 ≡ true = eq-eqb (suc (suc (length l)) % 2) 0 (omega arith) in
    record { pairs = rw (e, is_half_law a u, is_half_law b v) t.1; values = rw (u, v, m.values) }

-- a reading of n characters came to their end with no byte begun
record Ended (n : ℕ) (r : Reading) : Type 0 where
  all : r.used ≡ n
  none : r.half ≡ None

-- where no byte has begun, and where one has with the digit d
record Read (s : List ℕ) : Type 0 where
  free : Ended (length s) (read_of None s) → Means (solid_of s) (read_of None s).bytes
  after : (d h : ℕ) → half_of d ≡ Some h → Ended (length s) (read_of (Some h) s) → Means (d ∷ solid_of s) (read_of (Some h) s).bytes

module _ (c : ℕ) (s : List ℕ) (i : Read s) where
  free_more : Ended (suc (length s)) (read_of None (c ∷ s)) → Means (solid_of (c ∷ s)) (read_of None (c ∷ s)).bytes
  unfolding read_of stepped solid_of
  free_more =
      by_step (λ x. Ended (suc (length s)) (stepped x None (λ d. read_of d s)) → Means (solid_of (c ∷ s)) (stepped x None (λ d. read_of d s)).bytes) None c
      (λ h d b e z. let n = begun_none in impossible cc)
      (λ d b e z. rw (digit_no_gap c (is_half_law c e)) (i.after c d e record { all = omega (arith, z.all); none = z.none }))
      (λ b g z. rw g (i.free record { all = omega (arith, z.all); none = z.none }))
      (λ z. absurd (omega (arith, z.all)))

  after_more : (d h : ℕ) → half_of d ≡ Some h → Ended (suc (length s)) (read_of (Some h) (c ∷ s)) → Means (d ∷ solid_of (c ∷ s)) (read_of (Some h) (c ∷ s)).bytes
  unfolding read_of stepped solid_of
  after_more d h e =
      let t : begun_of (Some h) ≡ Some h = begun_low (half_bound d e) in
      by_step (λ x. Ended (suc (length s)) (stepped x (Some h) (λ d. read_of d s)) → Means (d ∷ solid_of (c ∷ s)) (stepped x (Some h) (λ d. read_of d s)).bytes) (Some h) c
      (λ x y b f z.
      let q : half_of d ≡ Some x = cc in
      rw (digit_no_gap c (is_half_law c f)) (pair_more d c (solid_of s) (read_of None s).bytes q f (i.free record { all = omega (arith, z.all); none = z.none })))
      (λ y b f z. impossible cc)
      (λ b g z. impossible cc)
      (λ z. absurd (omega (arith, z.all)))

read : (s : List ℕ) → Read s
unfolding read_of solid_of is_pairs every bytes_in
read [] = record { free = λ z. record { pairs = refl; values = refl }; after = λ d h e z. let n = z.none in impossible cc }
read (c ∷ s) = let i = read s in record { free = free_more c s i; after = after_more c s i }

-- the law
pub meaning : (s : List ℕ) → (read_of None s).used ≡ length s → (read_of None s).half ≡ None → (is_pairs (solid_of s) ≡ true) × ((read_of None s).bytes ≡ bytes_in (solid_of s))
meaning s u h = let m = (read s).free record { all = u; none = h } in (m.pairs, m.values)
