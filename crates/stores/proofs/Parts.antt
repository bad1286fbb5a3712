-- The part of a stream: as it is lent and as it comes back, what stands in it then, and that the other streams' parts are untouched.
-- Assumes nothing.
use Prim.Native.Nat.{ℕ, suc, ◌+◌, ◌-◌, ◌*◌, ◌≤◌, ◌<◌}
use mathlib.Core.Path.{◌≡◌, sym, ◌∙◌, ap}
use mathlib.Core.List.{List, ◌++◌}
use native.Mathlib.Omega.{arith}
use native.Mathlib.Decide.{dec_le}
use native.Mathlib.Nat.{mul-le-mul_right, suc-mul}
use lib.ListN.{length, get_or, take, drop, take-append-drop, length-append, length-drop, get_or-append}
use lib.Seq.{length-take-le, get_or-take, get_or-drop, get_or-append-add, ext_get_or}
use Rattle.stores.specs.Stores.{part_of, with_part}

module _ (n place : ℕ) (xs : List ℕ) {m : ℕ} (e : m ≡ n) where
  pub part_is : take m (drop (place * n) xs) ≡ part_of n xs place
  unfolding part_of
  part_is = ap (λ (k : ℕ). take k (drop (place * n) xs)) e

  pub back_is : (ys : List ℕ) → take (place * n) xs ++ (ys ++ drop m (drop (place * n) xs)) ≡ with_part n xs place ys
  unfolding with_part
  back_is ys = ap (λ (k : ℕ). take (place * n) xs ++ (ys ++ drop k (drop (place * n) xs))) e

-- a part by its elements
module _ (n : ℕ) (xs : List ℕ) (place : ℕ) (fits : place * n + n ≤ length xs) where
  pub part_long : length (part_of n xs place) ≡ n
  unfolding part_of
  part_long = length-take-le n (drop (place * n) xs) (omega (arith, length-drop (place * n) xs))

  pub part_at : (k : ℕ) → k < n → get_or (part_of n xs place) k 0 ≡ get_or xs (place * n + k) 0
  unfolding part_of
  part_at k h = get_or-take n (drop (place * n) xs) k 0 h ∙ get_or-drop (place * n) xs k 0

-- the whole with another part at a place
module _ (n : ℕ) (xs : List ℕ) (place : ℕ) (ys : List ℕ) (fits : place * n + n ≤ length xs) (long : length ys ≡ n) where
  front : length (take (place * n) xs) ≡ place * n
  front = length-take-le (place * n) xs (omega arith)

  abbrev end : List ℕ
  end = drop n (drop (place * n) xs)

  pub with_long : length (with_part n xs place ys) ≡ length xs
  unfolding with_part
  with_long =
      length-append (take (place * n) xs) (ys ++ end)
      ∙ omega (arith, front, length-append ys end, length-drop n (drop (place * n) xs), length-drop (place * n) xs)

  pub with_low : (x : ℕ) → x < place * n → get_or (with_part n xs place ys) x 0 ≡ get_or xs x 0
  unfolding with_part
  with_low x h = get_or-append (take (place * n) xs) (ys ++ end) 0 x (omega (arith, front)) ∙ get_or-take (place * n) xs x 0 h

  from_front : (k : ℕ) → get_or (with_part n xs place ys) (place * n + k) 0 ≡ get_or (ys ++ end) k 0
  unfolding with_part
  from_front k = ap (λ (x : ℕ). get_or (with_part n xs place ys) (x + k) 0) (sym front) ∙ get_or-append-add (take (place * n) xs) (ys ++ end) k 0

  pub with_in : (k : ℕ) → k < n → get_or (with_part n xs place ys) (place * n + k) 0 ≡ get_or ys k 0
  with_in k h = from_front k ∙ get_or-append ys end 0 k (omega arith)

  pub with_high : (x : ℕ) → place * n + n ≤ x → get_or (with_part n xs place ys) x 0 ≡ get_or xs x 0
  with_high x h =
      let k = x - (place * n + n) in
      let d : x ≡ place * n + (n + k) = omega arith in
      let e : n + k ≡ length ys + k = omega arith in
      ap (λ (z : ℕ). get_or (with_part n xs place ys) z 0) d ∙ from_front (n + k) ∙ ap (λ (z : ℕ). get_or (ys ++ end) z 0) e ∙ get_or-append-add ys end k 0
      ∙ get_or-drop n (drop (place * n) xs) k 0 ∙ get_or-drop (place * n) xs (n + k) 0 ∙ ap (λ (z : ℕ). get_or xs z 0) (sym d)

  -- its own part is the new one
  pub own_part : part_of n (with_part n xs place ys) place ≡ ys
  own_part =
      let f : place * n + n ≤ length (with_part n xs place ys) = omega (arith, with_long) in
      let l = part_long n (with_part n xs place ys) place f in
      ext_get_or 0 _ ys (l ∙ sym long) (λ k h. part_at n (with_part n xs place ys) place f k (omega (arith, l)) ∙ with_in k (omega (arith, l)))

  -- and every other part is as it was
  pub other_part : (other : ℕ) → (other ≡ place → ⊥) → other * n + n ≤ length xs → part_of n (with_part n xs place ys) other ≡ part_of n xs other
  other_part other ne g =
      let f : other * n + n ≤ length (with_part n xs place ys) = omega (arith, with_long) in
      let l = part_long n (with_part n xs place ys) other f in
      ext_get_or 0 _ _ (l ∙ sym (part_long n xs other g)) (λ k h.
      part_at n (with_part n xs place ys) other f k (omega (arith, l)) ∙ go k (omega (arith, l)) (dec_le (suc other) place) ∙ sym (part_at n xs other g k (omega (arith, l))))
    where
      go : (k : ℕ) → k < n → Dec (suc other ≤ place) → get_or (with_part n xs place ys) (other * n + k) 0 ≡ get_or xs (other * n + k) 0
      go k h (yes p) = with_low (other * n + k) (omega (arith, mul-le-mul_right n p, suc-mul other n))
      go k h (no p) = let q : suc place ≤ other = omega arith in with_high (other * n + k) (omega (arith, mul-le-mul_right n q, suc-mul place n))

-- with its own part it is as it was
pub same_part : (n : ℕ) (xs : List ℕ) (place : ℕ) → with_part n xs place (part_of n xs place) ≡ xs
unfolding part_of with_part
same_part n xs place = ap (λ (ys : List ℕ). take (place * n) xs ++ ys) (take-append-drop n (drop (place * n) xs)) ∙ take-append-drop (place * n) xs
