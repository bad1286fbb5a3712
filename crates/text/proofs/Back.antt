-- What is written reads back: the digits of a number of 64 bits as that number.
-- Assumes nothing.
use mathlib.Core.Path.{◌≡◌, refl, ◌∙◌}
use mathlib.Core.Bool.{Bool, true, and-eq-true_iff}
use mathlib.Core.List.{List, [], ◌∷◌, ◌++◌}
use Prim.Native.Nat.{ℕ, zero, suc, ◌+◌, ◌*◌, ◌-◌, ◌/◌, ◌%◌, ◌^◌, ◌<◌}
use native.Mathlib.Omega.{arith}
use lib.ListN.{length, get_or, length-append, get_or-append}
use Rattle.answers.proofs.Choice.{below_or_not}
use Rattle.text.specs.Text.{every}
use Rattle.text.specs.Decimal.{digits_of, decimal_of, value_from, is_digit, parsed_of}
use Rattle.text.proofs.Digits.{a_digit, is_number}
use Rattle.text.proofs.Spelling.{more, fewer, no_digits}
use Rattle.std.specs.Prelude.{Some}

value_append : (v : ℕ) (a b : List ℕ) → value_from v (a ++ b) ≡ value_from (value_from v a) b
unfolding value_from
value_append v [] b = refl
value_append v (c ∷ a) b = value_append (v * 10 + (c - 48)) a b

every_append : (test : ℕ → Bool) (a b : List ℕ) → every test a ≡ true → every test b ≡ true → every test (a ++ b) ≡ true
unfolding every
every_append test [] b p q = q
every_append test (c ∷ a) b p q =
    let e = (and-eq-true_iff (test c) (every test a)).0 p in
    rw e.0 (every_append test a b e.1 q)

module _ (n : ℕ) where
  last_digit : every is_digit ((48 + n % 10) ∷ []) ≡ true
  unfolding every
  last_digit = rw (a_digit (48 + n % 10) (omega arith) (omega arith))

  last_value : (l : List ℕ) → value_from 0 l ≡ n / 10 → value_from 0 (l ++ ((48 + n % 10) ∷ [])) ≡ n
  unfolding value_from
  last_value l e = value_append 0 l ((48 + n % 10) ∷ []) ∙ rw e (omega arith)

-- up to k digits of a number that has no more are digits, and their value is the number
digits_back : (k n : ℕ) → n < 10 ^ k → (value_from 0 (digits_of k n) ≡ n) × (every is_digit (digits_of k n) ≡ true)
unfolding value_from every
digits_back zero n h = let e : n ≡ 0 = omega arith in rw (e, no_digits) (refl, refl)
digits_back (suc k) n h = below_or_not 0 n
    (λ p.
    let l = digits_of k (n / 10) in
    let b = digits_back k (n / 10) (fewer n (suc k) k refl h) in
    rw (more k n p) (last_value n l b.0, every_append is_digit l ((48 + n % 10) ∷ []) b.1 (last_digit n)))
    (λ p. let e : n ≡ 0 = omega arith in rw (e, no_digits) (refl, refl))

-- the law: a number of 64 bits reads back
pub decimal_back : (n : ℕ) → n < 2 ^ 64 → parsed_of (decimal_of n) ≡ Some n
unfolding decimal_of
decimal_back n h =
    let b = digits_back 19 (n / 10) (omega arith) in
    let l = digits_of 19 (n / 10) in
    let e : value_from 0 (decimal_of n) ≡ n = last_value n l b.0 in
    rw e at (is_number (decimal_of n) (omega (arith, length-append l ((48 + n % 10) ∷ []))) (every_append is_digit l _ b.1 (last_digit n)) (omega arith))

-- the highest digit of a number that is not 0 is not 0
leads : (k n : ℕ) → 0 < n → n < 10 ^ k → (0 < length (digits_of k n)) × (48 < get_or (digits_of k n) 0 0)
leads zero n p h = absurd (omega arith)
leads (suc k) n p h = rw (more k n p) (below_or_not n 10
    (λ q. let e : n / 10 ≡ 0 = omega arith in rw (e, no_digits) (omega arith, omega arith))
    (λ q.
    let l = digits_of k (n / 10) in
    let i = leads k (n / 10) (omega arith) (fewer n (suc k) k refl h) in
    (omega (arith, length-append l ((48 + n % 10) ∷ [])), rw (get_or-append l ((48 + n % 10) ∷ []) 0 0 i.0) i.1)))

pub no_leading_zero : (n : ℕ) → 0 < n → n < 2 ^ 64 → 48 < get_or (decimal_of n) 0 0
unfolding decimal_of
no_leading_zero n p h = rw (more 19 n p) at (leads 20 n p (omega arith)).1
