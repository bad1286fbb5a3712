-- Bytes, the highest first, over their count: they join, they are as many as asked for, and what is spelled out reads back.
-- Assumes nothing.
use mathlib.Core.Path.{◌≡◌, refl, sym, ◌∙◌}
use mathlib.Core.List.{List, [], ◌∷◌, ◌++◌, append-nil, append_assoc}
use Prim.Native.Nat.{ℕ, zero, suc, ◌+◌, ◌*◌, ◌/◌, ◌%◌, ◌^◌, ◌<◌}
use native.Mathlib.Nat.{add-zero, add-suc, add_assoc, add-mul, mul-one, mul_assoc, div-one, div-div-eq-div-mul, mod-one, mod-eq_of_lt, pow-suc, pow-succ', one-le-pow}
use native.Mathlib.Numerals.{add-one}
use lib.Arith.{mod-mul}
use lib.Dec.{lit<}
use lib.ListN.{length, get_or, length-append}
use Rattle.wire.specs.Number.{big_endian, spelled, Stands}
use Rattle.wire.proofs.Standing.{left, right, head}

module _ (s : List ℕ) (at a : ℕ) where
  pub join : (b : ℕ) → big_endian s at (a + b) ≡ big_endian s at a * 256 ^ b + big_endian s (at + a) b
  unfolding big_endian
  join zero = rw (add-zero, mul-one, add-zero)
  join (suc b) = rw (add-suc, join b, pow-suc, add-mul, mul_assoc, add_assoc, add_assoc)

pub length_spelled : (k x : ℕ) → length (spelled k x) ≡ k
unfolding spelled
length_spelled zero x = refl
length_spelled (suc k) x = rw (length-append, length_spelled k (x / 256), add-one)

pub spelled_join : (a b x : ℕ) → spelled (a + b) x ≡ spelled a (x / 256 ^ b) ++ spelled b x
unfolding spelled
spelled_join a zero x = rw (add-zero, div-one, append-nil)
spelled_join a (suc b) x = rw (add-suc, spelled_join a b (x / 256), div-div-eq-div-mul, pow-succ', append_assoc)

-- what is spelled out reads back: the low k bytes of any number
pub read_low : (s : List ℕ) (at k x : ℕ) → Stands s at (spelled k x) → big_endian s at k ≡ x % 256 ^ k
unfolding big_endian spelled
read_low s at zero x st = sym (mod-one x)
read_low s at (suc k) x st =
    let l = spelled k (x / 256) in
    let top : big_endian s at k ≡ x / 256 % 256 ^ k = read_low s at k (x / 256) (left l (x % 256 ∷ []) st) in
    let last : get_or s (at + k) 0 ≡ x % 256 = head (x % 256) [] (rw (length_spelled k (x / 256)) at (right l (x % 256 ∷ []) st)) in
    rw (top, last, pow-suc, mod-mul x {m = 256 ^ k} {c = 256} (one-le-pow k 256 (lit< tt)) (lit< tt))

-- and all of a number that has no more
pub read_spelled : (s : List ℕ) (at k x : ℕ) → x < 256 ^ k → Stands s at (spelled k x) → big_endian s at k ≡ x
read_spelled s at k x h st = read_low s at k x st ∙ mod-eq_of_lt h
