-- Bytes copied, around the seam of the ring or not, and compared.
-- Assumes nothing.
use Prim.Native.Nat.{ℕ, ◌+◌, ◌-◌, ◌%◌, ◌≤◌, ◌<◌}
use mathlib.Core.Path.{◌≡◌, refl, ◌∙◌, ap}
use mathlib.Core.List.{List}
use native.Mathlib.Omega.{arith}
use native.Mathlib.Decide.{dec_le, ℕ_discrete}
use lib.ListN.{length, get_or}
use lib.Bits.{bit_or, bit_xor, or_add_and, xor_add_and, and_le_l, and_le_r, xor_self}
use Rattle.seams.specs.Parts.{Copied, Stored, Same, SameAt}

-- no byte copied leaves all as it was
pub copy_none : (o s : List ℕ) (i j : ℕ) → Copied o i s j 0 o
copy_none o s i j = record { long = refl; inside = λ k h. absurd (omega arith); rest = λ x f. refl }

-- a part up to the seam, and one after it
pub store_parts : (o t u s : List ℕ) (at j n m : ℕ) → length o ≡ 4096 → n ≤ 4096 → m ≤ n → at % 4096 + m ≤ 4096 → (m < n → at % 4096 + m ≡ 4096)
    → Copied o (at % 4096) s j m t → Copied t 0 s (j + m) (n - m) u → Stored o at s j n u
store_parts o t u s at j n m len fits part room seam a b = record {
  long = b.long ∙ a.long ∙ len;
  inside = λ k h. go k h (dec_le m k);
  rest = λ p l h. b.rest (p % 4096) (λ x y. omega (arith, seam (omega arith))) ∙ a.rest (p % 4096) (λ x y. omega arith);
}
  where
    go : (k : ℕ) → k < n → Dec (m ≤ k) → get_or u ((at + k) % 4096) 0 ≡ get_or s (j + k) 0
    go k h (yes p) =
        let q : m < n = omega arith in
        let e : (at + k) % 4096 ≡ 0 + (k - m) = omega (arith, seam q) in
        let f : j + m + (k - m) ≡ j + k = omega arith in
        ap (λ (x : ℕ). get_or u x 0) e ∙ b.inside (k - m) (omega arith) ∙ ap (λ (x : ℕ). get_or s x 0) f
    go k h (no p) =
        let e : (at + k) % 4096 ≡ at % 4096 + k = omega arith in
        ap (λ (x : ℕ). get_or u x 0) e ∙ b.rest (at % 4096 + k) (λ x y. omega (arith, seam (omega arith))) ∙ a.inside k (omega arith)

-- a difference is kept by `|`, and none is made
or_none : (x y : ℕ) → bit_or x y ≡ 0 → (x ≡ 0) × (y ≡ 0)
or_none x y e = (omega (arith, or_add_and x y, and_le_l x y, and_le_r x y), omega (arith, or_add_and x y, and_le_l x y, and_le_r x y))

xor_none : (x y : ℕ) → bit_xor x y ≡ 0 → x ≡ y
xor_none x y e = omega (arith, xor_add_and x y, and_le_l x y, and_le_r x y)

-- one byte more compared
module _ (a b : List ℕ) (i j n x : ℕ) where
  pub same_more : (x ≡ 0 → Same a i b j n) → bit_or x (bit_xor (get_or a (i + n) 0) (get_or b (j + n) 0)) ≡ 0 → Same a i b j (n + 1)
  same_more f e k h = go (ℕ_discrete k n)
    where
      go : Dec (k ≡ n) → get_or a (i + k) 0 ≡ get_or b (j + k) 0
      go (yes p) = rw p (xor_none _ _ (or_none x _ e).1)
      go (no p) = f (or_none x _ e).0 k (omega arith)

  pub more_same : (Same a i b j n → x ≡ 0) → Same a i b j (n + 1) → bit_or x (bit_xor (get_or a (i + n) 0) (get_or b (j + n) 0)) ≡ 0
  more_same f g = rw (f (λ k h. g k (omega arith)), g n (omega arith), xor_self) refl

-- compared around the seam
module _ (a s : List ℕ) (at j n m : ℕ) (part : m ≤ n) (room : at % 4096 + m ≤ 4096) (seam : m < n → at % 4096 + m ≡ 4096) (fits : n ≤ 4096) where
  pub same_parts : Same a (at % 4096) s j m → Same a 0 s (j + m) (n - m) → SameAt a at s j n
  same_parts f g k h = go (dec_le m k)
    where
      go : Dec (m ≤ k) → get_or a ((at + k) % 4096) 0 ≡ get_or s (j + k) 0
      go (yes p) =
          let e : (at + k) % 4096 ≡ 0 + (k - m) = omega (arith, seam (omega arith)) in
          let d : j + m + (k - m) ≡ j + k = omega arith in
          ap (λ (x : ℕ). get_or a x 0) e ∙ g (k - m) (omega arith) ∙ ap (λ (x : ℕ). get_or s x 0) d
      go (no p) = let e : (at + k) % 4096 ≡ at % 4096 + k = omega arith in ap (λ (x : ℕ). get_or a x 0) e ∙ f k (omega arith)

  pub first_part : SameAt a at s j n → Same a (at % 4096) s j m
  first_part f k h = let e : at % 4096 + k ≡ (at + k) % 4096 = omega arith in ap (λ (x : ℕ). get_or a x 0) e ∙ f k (omega arith)

  pub second_part : SameAt a at s j n → Same a 0 s (j + m) (n - m)
  second_part f k h =
      let e : 0 + k ≡ (at + (m + k)) % 4096 = omega (arith, seam (omega arith)) in
      let d : j + (m + k) ≡ j + m + k = omega arith in
      ap (λ (x : ℕ). get_or a x 0) e ∙ f (m + k) (omega arith) ∙ ap (λ (x : ℕ). get_or s x 0) d
