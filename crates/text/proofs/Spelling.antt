-- Spelling a number from its last digit on: a turn takes one digit off the number and puts it before those that are there.
-- Assumes nothing.
use mathlib.Core.Path.{◌≡◌, refl, sym}
use mathlib.Core.List.{List, [], ◌∷◌, ◌++◌, append_assoc}
use Prim.Native.Nat.{ℕ, zero, suc, ◌+◌, ◌-◌, ◌/◌, ◌%◌, ◌^◌, ◌≤◌, ◌<◌}
use native.Mathlib.Nat.{div-lt_iff_lt-mul, pow-suc}
use native.Mathlib.Omega.{arith}
use borrow.Author.Tests.{ne_eqb}
use lib.Dec.{lit<}
use lib.ListN.{length, take, drop, set, length-drop}
use lib.Seq.{take_all, drop-cons, drop-set-lt, get_or-set_same, lt-length-set}
use Rattle.text.specs.Decimal.{digits_of}

-- none are left of 0
pub no_digits : (k : ℕ) → digits_of k 0 ≡ []
unfolding digits_of
no_digits zero = refl
no_digits (suc k) = refl

-- a number that is not 0 has a last digit and those before it
pub more : (k n : ℕ) → 0 < n → digits_of (suc k) n ≡ digits_of k (n / 10) ++ ((48 + n % 10) ∷ [])
unfolding digits_of
more k n h = rw (ne_eqb n 0 (omega arith))

-- a number that is not 0 has a place left
pub a_place : (n k : ℕ) → 0 < n → n < 10 ^ k → 1 ≤ k
a_place n zero h l = absurd (omega arith)
a_place n (suc k) h l = omega arith

stored : (l : List ℕ) (j x : ℕ) → j < length l → drop j (set l j x) ≡ x ∷ drop (suc j) l
stored l j x h = rw (drop-cons (set l j x) j 0 (lt-length-set l j x h), get_or-set_same l j x 0 h, drop-set-lt (suc j) l j x (omega arith))

module _ (n k j : ℕ) (e : k ≡ suc j) where
  pub fewer : n < 10 ^ k → n / 10 < 10 ^ j
  fewer h = (div-lt_iff_lt-mul (lit< tt)).1 (rw (e, pow-suc) at h)

  pub turn : (l : List ℕ) → 0 < n → j < length l → digits_of k n ++ drop k l ≡ digits_of j (n / 10) ++ drop j (set l j (48 + n % 10))
  turn l h m = rw (e, more j n h, append_assoc, stored l j (48 + n % 10) m)

-- when no digits are left, those that are spelled are all
pub complete : (l : List ℕ) (n k : ℕ) → n ≡ 0 → digits_of k n ++ drop k l ≡ take (length l - k) (drop k l)
complete l n k e = rw (e, no_digits) (sym (take_all (length l - k) (drop k l) (omega (arith, length-drop k l))))
