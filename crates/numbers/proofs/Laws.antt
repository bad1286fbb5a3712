-- Packet numbers as a caller needs them: while none is recorded a number is itself, a recovered number agrees with what was read, and a size that is given is the least that is enough.
-- Assumes nothing.
use mathlib.Core.Path.{◌≡◌, refl, sym, ◌∙◌, ap, subst}
use mathlib.Core.Bool.{◌&&◌, and-eq-true_iff}
use Prim.Native.Nat.{ℕ, zero, suc, ◌+◌, ◌-◌, ◌/◌, ◌%◌, ◌^◌, ◌≤◌, ◌<◌}
use native.Mathlib.Nat.{zero-add, zero-mul, zero-div, mod-mod, mod-eq_of_lt, mul-add-mod_self_right, add-mod_right, mod-eq-sub-mod, pow-le-pow_right}
use native.Mathlib.Omega.{arith}
use borrow.Author.Tests.{lt-ltb, le-ltb, ltb-true, ltb-false, leb-true, leb-false}
use lib.Dec.{ltb, leb}
use lib.IntN.{ℤ, pos, negsuc, ◌-ℤ◌}
use Rattle.answers.proofs.Choice.{holds}
use Rattle.answers.proofs.Distinct.{impossible}
use Rattle.numbers.specs.declared.Size.{Size}
use Rattle.numbers.specs.declared.Size.TheVariants.{One, Two, Three, Four}
use Rattle.numbers.specs.Numbers.{bytes_in, window_of, candidate_of, nearest_of, recovered_of, none, twice_of, length_after, length_of}
use Rattle.numbers.specs.Sound.{Sound, Enough}
use Rattle.numbers.proofs.Nearest.{each_window, stay}
use Rattle.std.specs.Prelude.{Result, Ok}
use Rattle.answers.specs.declared.Answer.{Answer}

pub window_bounds : (size : Size) → (2 ≤ window_of size) × (window_of size ≤ 2 ^ 32)
window_bounds = each_window (λ (W : ℕ). (2 ≤ W) × (W ≤ 2 ^ 32)) (omega arith) (omega arith) (omega arith) (omega arith)

-- while none is recorded, every truncated number is itself
pub itself : (size : Size) (t : ℕ) → t < window_of size → recovered_of 0 size t ≡ Ok t
unfolding recovered_of
itself size t h =
    let W = window_of size in
    let b = window_bounds size in
    let c : candidate_of 0 W t ≡ t = rw (zero-div W, zero-mul W, zero-add, mod-eq_of_lt h) in
    let n : nearest_of 0 W t ≡ t = stay 0 W t (λ low. omega arith) (λ high. omega arith) ∙ c in
    rw (n, lt-ltb t (2 ^ 62) (omega arith))

-- what is added or taken away is a multiple of the window
pub nearest_agrees : (E W t : ℕ) → nearest_of E W t % W ≡ t % W
unfolding nearest_of
nearest_agrees E W t =
    let c = candidate_of E W t in
    let a : c % W ≡ t % W = mul-add-mod_self_right (E / W) W (t % W) ∙ mod-mod t W in
    holds Agrees (leb (c + W / 2) E && ltb (c + W) (2 ^ 62)) _ _ (λ e. add-mod_right c W ∙ a) (λ e.
    holds Agrees (ltb (E + W / 2) c && leb W c) _ _ (λ f. sym (mod-eq-sub-mod (leb-true W c ((and-eq-true_iff (ltb (E + W / 2) c) (leb W c)).0 f).1)) ∙ a) (λ f. a))
  where
    Agrees : ℕ → Type 0
    Agrees n = n % W ≡ t % W

-- a recovered number is in range and agrees with what was read
pub sound : (E t : ℕ) (size : Size) {n : ℕ} → recovered_of E size t ≡ Ok n → Sound size t n
unfolding recovered_of
sound E t size {n} =
    let W = window_of size in
    holds (λ (r : Result ℕ Answer). r ≡ Ok n → Sound size t n) (ltb (nearest_of E W t) (2 ^ 62)) _ _ (λ l e.
    let m : nearest_of E W t ≡ n = cc in
    rw (← m) (record { low = ltb-true (nearest_of E W t) (2 ^ 62) l; agrees = nearest_agrees E W t })) (λ l e.
    impossible cc)

-- what is above a power of 256 is above all lower ones
lower : (k x : ℕ) → 256 ^ k < x → (n : ℕ) → n < suc k → 256 ^ n < x
lower k x h n l = let p : n ≤ k = omega arith in omega (arith, pow-le-pow_right {n = 256} (omega arith) p)

module _ (pn next : ℕ) (acked : ℤ) (distance : next ≤ pn → pos pn -ℤ acked ≡ pos (pn + 1 - next)) where
  given : pn < 2 ^ 62 → next ≤ pn → (size : Size) (k : ℕ) → bytes_in size ≡ suc k → twice_of pn next ≤ window_of size → 256 ^ k < twice_of pn next → Enough pn acked size
  given l b size k s h g =
      record { low = l; d = pn + 1 - next; distance = distance b; above = omega arith; enough = h; least = rw s (lower k (twice_of pn next) g) }

  enough_after : {size : Size} → length_after pn next ≡ Ok size → Enough pn acked size
  unfolding length_after
  enough_after {size} =
      let w = twice_of pn next in
      holds Given (leb (2 ^ 62) pn) _ _ (λ h. never) (λ h. let l = leb-false (2 ^ 62) pn h in
      holds Given (ltb pn next) _ _ (λ h. never) (λ h. let b = ltb-false pn next h in
      holds Given (leb w (256 ^ 1)) _ _ (λ h. one_is One (given l b One 0 refl (leb-true w _ h) (omega arith))) (λ f.
      holds Given (leb w (256 ^ 2)) _ _ (λ h. one_is Two (given l b Two 1 refl (leb-true w _ h) (leb-false w _ f))) (λ f.
      holds Given (leb w (256 ^ 3)) _ _ (λ h. one_is Three (given l b Three 2 refl (leb-true w _ h) (leb-false w _ f))) (λ f.
      holds Given (leb w (256 ^ 4)) _ _ (λ h. one_is Four (given l b Four 3 refl (leb-true w _ h) (leb-false w _ f))) (λ f. never))))))
    where
      Given : Result Size Answer → Type 0
      Given r = r ≡ Ok size → Enough pn acked size

      never : Given none
      never e = impossible cc

      one_is : (s : Size) → Enough pn acked s → Given (Ok s)
      one_is s g e = let q : s ≡ size = cc in subst (Enough pn acked) q g

-- the distance from acked, by one above it
pub from_acked : (pn a : ℕ) → a + 1 ≤ pn → pos pn -ℤ pos a ≡ pos (pn + 1 - (a + 1))
from_acked pn zero b = ap pos (omega arith)
from_acked pn (suc a) b = rw (le-ltb pn (suc a) (omega arith)) (ap pos (omega arith))

pub from_none : (pn : ℕ) → 0 ≤ pn → pos pn -ℤ negsuc 0 ≡ pos (pn + 1 - 0)
from_none pn b = ap pos (omega arith)

-- a size that is given is enough, and the least that is
pub enough : (pn : ℕ) (acked : ℤ) {size : Size} → length_of pn acked ≡ Ok size → Enough pn acked size
unfolding length_of
enough pn (pos a) = enough_after pn (a + 1) (pos a) (from_acked pn a)
enough pn (negsuc zero) = enough_after pn 0 (negsuc 0) (from_none pn)
enough pn (negsuc (suc k)) = λ e. impossible cc
