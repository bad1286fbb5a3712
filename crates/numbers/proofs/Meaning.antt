-- Recovery gives the nearest number, and only that: numbers that agree are at least a window apart, so one within half a window of E has none nearer. 111 comes only where E is above all packet numbers.
-- Assumes nothing.
use mathlib.Core.Path.{◌≡◌, refl, sym, ◌∙◌, ap}
use mathlib.Core.Logic.{◌⊎◌, inl, inr, ⊎_elim}
use Prim.Native.Nat.{ℕ, ◌+◌, ◌-◌, ◌*◌, ◌/◌, ◌%◌, ◌^◌, ◌≤◌, ◌<◌}
use native.Mathlib.Nat.{suc-mul, mul-le-mul_right, mod-lt, mod-mod, div-add-mod'}
use native.Mathlib.Omega.{arith}
use borrow.Author.Tests.{lt-ltb, le-ltb}
use lib.Dec.{ltb}
use Rattle.answers.specs.declared.Answer.TheVariants.{NoSuchNumber}
use Rattle.answers.proofs.Choice.{holds, below_or_not}
use Rattle.answers.proofs.Distinct.{impossible}
use Rattle.numbers.specs.declared.Size.{Size}
use Rattle.numbers.specs.Numbers.{window_of, candidate_of, nearest_of, recovered_of}
use Rattle.numbers.specs.Sound.{Sound}
use Rattle.numbers.specs.Nearest.{between, Nearest}
use Rattle.numbers.proofs.Nearest.{each_window, Low, High, up, down, stay}
use Rattle.numbers.proofs.Laws.{window_bounds, nearest_agrees, sound}
use Rattle.std.specs.Prelude.{Result, Ok, Err}
use Rattle.answers.specs.declared.Answer.{Answer}

-- of two numbers that agree, the higher one is at least a window above
apart : (W a b : ℕ) → a % W ≡ b % W → a < b → a + W ≤ b
apart W a b e h = below_or_not (a / W) (b / W) (λ l. omega (arith, div-add-mod' a W, div-add-mod' b W, mul-le-mul_right W l, suc-mul (a / W) W)) (λ l. absurd (omega (arith, div-add-mod' a W, div-add-mod' b W, mul-le-mul_right W l)))

-- where n stands: within half a window of E, or at E or below it with no room above, or at E or above it with none below
abbrev Settled : ℕ → ℕ → ℕ → Type 0
Settled E W n = ((n ≤ E + W / 2) × (E < n + W / 2)) ⊎ (((n ≤ E) × (2 ^ 62 ≤ n + W)) ⊎ ((E ≤ n) × (n < W)))

-- no number that agrees with one that stands so is nearer, and none that is as near is higher
none_nearer : (E W n m : ℕ) → W ≡ 2 * (W / 2) → Settled E W n → m < 2 ^ 62 → n % W ≡ m % W → (between n E ≤ between m E) × (between n E ≡ between m E → m ≤ n)
none_nearer E W n m even s l e =
    below_or_not n m
    (λ a. let x = apart W n m e a in ⊎_elim (λ p. omega arith) (⊎_elim (λ p. absurd (omega arith)) (λ p. omega arith)) s)
    (λ a. below_or_not m n (λ b. let x = apart W m n (sym e) b in ⊎_elim (λ p. omega arith) (⊎_elim (λ p. omega arith) (λ p. absurd (omega arith))) s) (λ b. omega arith))

pub even : (size : Size) → window_of size ≡ 2 * (window_of size / 2)
even = each_window (λ (W : ℕ). W ≡ 2 * (W / 2)) refl refl refl refl

-- the result by its rows, each under the tests that lead there
module _ (E W t : ℕ) where
  by_rows : (P : ℕ → Type 0) → (Low E W t → P (candidate_of E W t + W)) → (High E W t → P (candidate_of E W t - W)) → ((Low E W t → ⊥) → (High E W t → ⊥) → P (candidate_of E W t)) → P (nearest_of E W t)
  by_rows P p q r =
      below_or_not E (candidate_of E W t + W / 2) (λ a. not_low (λ low. omega arith))
      (λ a. below_or_not (candidate_of E W t + W) (2 ^ 62) (λ b. rw (up E W t (a, b)) (p (a, b))) (λ b. not_low (λ low. omega arith)))
    where
      neither : (Low E W t → ⊥) → (High E W t → ⊥) → P (nearest_of E W t)
      neither low high = rw (stay E W t low high) (r low high)

      not_low : (Low E W t → ⊥) → P (nearest_of E W t)
      not_low low =
          below_or_not (E + W / 2) (candidate_of E W t)
          (λ a. below_or_not (candidate_of E W t) W (λ b. neither low (λ high. omega arith)) (λ b. rw (down E W t low (a, b)) (q (a, b)))) (λ a. neither low (λ high. omega arith))

  -- E and the candidate stand in one window: both are less than W above the same multiple of W
  module _ (two : 2 ≤ W) where
    settled : W ≡ 2 * (W / 2) → Settled E W (nearest_of E W t)
    settled halves =
        let c = candidate_of E W t in
        let a = mod-lt t {m = W} (omega arith) in
        let b = mod-lt E {m = W} (omega arith) in
        let d = div-add-mod' E W in
        by_rows (Settled E W) (λ low. inl (omega arith, omega arith)) (λ high. inl (omega arith, omega arith)) (λ low high.
        below_or_not E (c + W / 2)
        (λ x. below_or_not (E + W / 2) c (λ y. below_or_not c W (λ z. inr (inr (omega arith, z))) (λ z. absurd (high (y, z)))) (λ y. inl (y, x)))
        (λ x. below_or_not (c + W) (2 ^ 62) (λ y. absurd (low (x, y))) (λ y. inr (inl (omega arith, y)))))

    -- with the whole window in which E stands below 2^62, so is the result
    stays_low : E / W * W + W ≤ 2 ^ 62 → nearest_of E W t < 2 ^ 62
    stays_low h =
        let a = mod-lt t {m = W} (omega arith) in
        by_rows (λ (n : ℕ). n < 2 ^ 62) (λ low. low.1) (λ high. omega arith) (λ low high. omega arith)

module _ (E t : ℕ) (size : Size) where
  is_nearest : {n : ℕ} → recovered_of E size t ≡ Ok n → nearest_of E (window_of size) t ≡ n
  unfolding recovered_of
  is_nearest {n} =
      holds (λ (r : Result ℕ Answer). r ≡ Ok n → nearest_of E (window_of size) t ≡ n) (ltb (nearest_of E (window_of size) t) (2 ^ 62)) _ _ (λ l e. cc) (λ l e. impossible cc)

  -- what is recovered is the nearest number
  pub recovered_nearest : {n : ℕ} → recovered_of E size t ≡ Ok n → Nearest E size t n
  recovered_nearest {n} e =
      record { among = sound E t size e; nearest = λ m k. (near m k).0; higher = λ m k. (near m k).1 }
    where
      near : (m : ℕ) → Sound size t m → (between n E ≤ between m E) × (between n E ≡ between m E → m ≤ n)
      near m k =
          let W = window_of size in
          none_nearer E W n m (even size) (rw (is_nearest e) at (settled E W t (window_bounds size).0 (even size))) k.low ((sound E t size e).agrees ∙ sym k.agrees)

  -- and there is only one
  pub one_nearest : {n m : ℕ} → Nearest E size t n → Nearest E size t m → n ≡ m
  one_nearest {n} {m} a b =
      let x = a.nearest m b.among in
      let y = b.nearest n a.among in
      omega (arith, a.higher m b.among (omega arith), b.higher n a.among (omega arith))

  -- 111 never comes while E is a packet number itself
  pub always_one : E < 2 ^ 62 → (n : ℕ) × (recovered_of E size t ≡ Ok n)
  unfolding recovered_of
  always_one h =
      let room = each_window (λ (W : ℕ). E / W * W + W ≤ 2 ^ 62) (omega arith) (omega arith) (omega arith) (omega arith) size in
      (nearest_of E (window_of size) t, rw (lt-ltb _ _ (stays_low E (window_of size) t (window_bounds size).0 room)))

  -- so the nearest number is recovered
  pub nearest_recovered : E < 2 ^ 62 → {n : ℕ} → Nearest E size t n → recovered_of E size t ≡ Ok n
  nearest_recovered h a = let r = always_one h in r.1 ∙ ap Ok (one_nearest (recovered_nearest r.1) a)

-- a packet number within half a window of E, open below and closed above, is what its low bytes stand for, wherever E stands
module _ (E n : ℕ) (size : Size) where
  -- no other number that agrees with it could be the result: it would be a window away
  alone : (m : ℕ) → Settled E (window_of size) m → m % window_of size ≡ n % window_of size → n < 2 ^ 62 → n ≤ E + window_of size / 2 → E < n + window_of size / 2 → m ≡ n
  alone m s e l above below =
      let W = window_of size in
      let halves = even size in
      below_or_not m n
      (λ a. let x = apart W m n e a in absurd (⊎_elim (λ p. omega arith) (⊎_elim (λ p. omega arith) (λ p. omega arith)) s))
      (λ a. below_or_not n m (λ b. let x = apart W n m (sym e) b in absurd (⊎_elim (λ p. omega arith) (⊎_elim (λ p. omega arith) (λ p. omega arith)) s)) (λ b. omega arith))

  pub exact : n < 2 ^ 62 → n ≤ E + window_of size / 2 → E < n + window_of size / 2 → recovered_of E size (n % window_of size) ≡ Ok n
  unfolding recovered_of
  exact l above below =
      let W = window_of size in
      let t = n % W in
      let same : nearest_of E W t ≡ n = alone (nearest_of E W t) (settled E W t (window_bounds size).0 (even size)) (nearest_agrees E W t ∙ mod-mod n W) l above below in
      rw (same, lt-ltb n (2 ^ 62) l)

-- once the largest packet number is recorded, 111 comes exactly where the truncated bits are at most half a window
module _ (t : ℕ) (size : Size) where
  -- 2^62 is a multiple of each window, so the candidate is the truncated bits above it
  at_limit : candidate_of (2 ^ 62) (window_of size) t ≡ 2 ^ 62 + t % window_of size
  at_limit = ap (λ (x : ℕ). x + t % window_of size) (each_window (λ (W : ℕ). 2 ^ 62 / W * W ≡ 2 ^ 62) refl refl refl refl size)

  pub refused_at_limit : t % window_of size ≤ window_of size / 2 → recovered_of (2 ^ 62) size t ≡ Err NoSuchNumber
  unfolding recovered_of
  refused_at_limit h =
      let W = window_of size in
      let b = window_bounds size in
      rw (le-ltb (nearest_of (2 ^ 62) W t) (2 ^ 62) (by_rows (2 ^ 62) W t (λ (n : ℕ). 2 ^ 62 ≤ n) (λ low. absurd (omega (arith, at_limit))) (λ high. absurd (omega (arith, at_limit))) (λ low high. omega (arith, at_limit))))

  pub lowered_at_limit : window_of size / 2 < t % window_of size → recovered_of (2 ^ 62) size t ≡ Ok (2 ^ 62 + t % window_of size - window_of size)
  unfolding recovered_of
  lowered_at_limit h =
      let W = window_of size in
      let b = window_bounds size in
      let n : nearest_of (2 ^ 62) W t ≡ 2 ^ 62 + t % W - W = down (2 ^ 62) W t (λ low. omega (arith, at_limit)) (omega (arith, at_limit), omega (arith, at_limit)) ∙ ap (λ (x : ℕ). x - W) at_limit in
      rw (n, lt-ltb (2 ^ 62 + t % W - W) (2 ^ 62) (omega (arith, mod-lt t {m = W} (omega arith))))

  pub only_so_at_limit : recovered_of (2 ^ 62) size t ≡ Err NoSuchNumber → t % window_of size ≤ window_of size / 2
  only_so_at_limit e = below_or_not (window_of size / 2) (t % window_of size) (λ h. let f = lowered_at_limit h in impossible cc) (λ h. h)
