-- With a number shifted to the top of its word, the word's leading zeros are numbers that are missing, and its complement's are numbers that came.
-- Assumes nothing.
use Prim.Native.Nat.{ℕ, zero, suc, ◌+◌, ◌-◌, ◌*◌, ◌/◌, ◌%◌, ◌^◌, ◌≤◌, ◌<◌}
use mathlib.Core.Path.{◌≡◌, sym, ◌∙◌, ap}
use mathlib.Core.Bool.{Bool, true}
use mathlib.Core.List.{List}
use native.Mathlib.Omega.{arith}
use native.Mathlib.Decide.{dec_le}
use native.Mathlib.Nat.{mod-lt, add-zero, div-add-mod'}
use lib.Pow.{pow_pos, pow-add, shr_lt, shl-shr, high, ones_sub-lt}
use lib.Count.{count_leading_zeros, leading_top}
use lib.ListN.{get_or}
use lib.Dec.{eqb}
use borrow.Author.Tests.{eq-eqb}
use Rattle.ring.specs.Bits.{as_bit, bit, bit_at, alike}
use Rattle.ring.specs.Runs.{lowest}
use Rattle.ring.specs.Parts.{Complement}
use Rattle.ring.proofs.Bits.{bit_lt, bit_zero, bit_shift, bit_low, bit_past, cat_low, top_bit}
use Rattle.ring.proofs.Runs.{followed, ends}

-- `!w` shifted down
not_shr : (j k a : ℕ) → a < 2 ^ (j + k) → ((2 ^ (j + k) - 1) - a) / 2 ^ k ≡ (2 ^ j - 1) - a / 2 ^ k
not_shr j k a h =
    let q : a / 2 ^ k < 2 ^ j = shr_lt j k h in
    let s : a / 2 ^ k * 2 ^ k + a % 2 ^ k ≡ a = div-add-mod' a (2 ^ k) in
    let l : a % 2 ^ k < 2 ^ k = mod-lt a (pow_pos k) in
    let d : 2 ^ j ≡ ((2 ^ j - 1) - a / 2 ^ k) + 1 + a / 2 ^ k = omega arith in
    let p : 2 ^ (j + k) ≡ (((2 ^ j - 1) - a / 2 ^ k) + 1 + a / 2 ^ k) * 2 ^ k = pow-add 2 j k ∙ ap (λ (x : ℕ). x * 2 ^ k) d in
    let e : (2 ^ (j + k) - 1) - a ≡ ((2 ^ j - 1) - a / 2 ^ k) * 2 ^ k + ((2 ^ k - 1) - a % 2 ^ k) = omega arith in
    ap (λ (x : ℕ). x / 2 ^ k) e ∙ high ((2 ^ j - 1) - a / 2 ^ k) k (ones_sub-lt k (a % 2 ^ k))

-- `!w` bit by bit
pub bit_not : (w : ℕ) → w < 2 ^ 64 → Complement w ((2 ^ 64 - 1) - w)
unfolding bit
bit_not w h i l =
    let e : 63 - i + 1 + i ≡ 64 = omega arith in
    let n : ((2 ^ 64 - 1) - w) / 2 ^ i ≡ (2 ^ (63 - i + 1) - 1) - w / 2 ^ i = rw e at (not_shr (63 - i + 1) i w (rw e h)) in
    let q : w / 2 ^ i < 2 ^ (63 - i + 1) = shr_lt (63 - i + 1) i (rw e h) in
    ap (λ (x : ℕ). x % 2) n ∙ omega (arith, pow-add 2 (63 - i) 1)

-- `w << k`: its bits from k on are those of w, and below k it has none
shifted : (w k i : ℕ) → k + i < 64 → bit (w * 2 ^ k % 2 ^ 64) (k + i) ≡ bit w i
shifted w k i h = bit_low (w * 2 ^ k) 64 (k + i) h ∙ bit_shift (w * 2 ^ k) k i ∙ ap (λ (x : ℕ). bit x i) (shl-shr w k)

filled : (w k i : ℕ) → k < 64 → i < k → bit (w * 2 ^ k % 2 ^ 64) i ≡ 0
filled w k i h l = bit_low (w * 2 ^ k) 64 i (omega arith) ∙ ap (λ (x : ℕ). bit x i) (sym (add-zero (w * 2 ^ k))) ∙ cat_low w k 0 i (pow_pos k) l ∙ bit_zero i

-- x has a bit for each number of the word w that is not like v
abbrev pub Others : ℕ → Bool → ℕ → Type 0
Others w v x = (i : ℕ) → i < 64 → eqb (bit w i) (as_bit v) ≡ eqb (bit x i) 0

-- the complement has one for each that is missing
pub missing_ones : (w x : ℕ) → Complement w x → Others w true x
missing_ones w x c i l = go (bit w i) (bit_lt w i) (c i l)
  where
    go : (b : ℕ) → b < 2 → bit x i ≡ 1 - b → eqb b 1 ≡ eqb (bit x i) 0
    go zero h e = rw e
    go (suc zero) h e = rw e
    go (suc (suc b)) h e = absurd (omega arith)

-- from the number below `end` down
module _ (ws : List ℕ) (v : Bool) (end x : ℕ) (pos : 0 < end) (told : Others (get_or ws ((end - 1) / 64 % 128) 0) v x) where
  abbrev shift : ℕ
  shift = 63 - (end - 1) % 64

  abbrev up : ℕ
  up = x * 2 ^ shift % 2 ^ 64

  -- the numbers of the word, from its start up to `end`
  is_alike : (m : ℕ) → (end - 1) / 64 * 64 ≤ m → m < end → alike ws v m ≡ eqb (bit up (shift + m % 64)) 0
  unfolding bit_at
  is_alike m a b =
      let e : m / 64 % 128 ≡ (end - 1) / 64 % 128 = omega arith in
      rw (e, shifted x shift (m % 64) (omega arith)) (told (m % 64) (omega arith))

  -- no bit is left: all of the word is in the stretch
  pub whole : up ≡ 0 → lowest (alike ws v) end ≡ lowest (alike ws v) ((end - 1) / 64 * 64)
  whole z = followed (alike ws v) ((end - 1) / 64 * 64) end (omega arith) (λ m a b. is_alike m a b ∙ eq-eqb _ 0 (ap (λ (u : ℕ). bit u (shift + m % 64)) z ∙ bit_zero (shift + m % 64)))

  -- a bit is left: the stretch ends above the highest
  pub part : (up ≡ 0 → ⊥) → (count_leading_zeros 64 up ≤ (end - 1) % 64) × (lowest (alike ws v) end ≡ end - count_leading_zeros 64 up)
  part f =
      let l : up < 2 ^ 64 = mod-lt (x * 2 ^ shift) (pow_pos 64) in
      let t = leading_top 64 up (omega arith) l in
      let one : bit up t.0 ≡ 1 = top_bit up t.0 t.2 t.3 in
      let within : count_leading_zeros 64 up ≤ (end - 1) % 64 = inside t.0 one t.1 (dec_le shift t.0) in
      let n = count_leading_zeros 64 up in (
        within,
        followed (alike ws v) (end - n) end (omega arith) (λ m a b. is_alike m (omega arith) b ∙ eq-eqb _ 0 (bit_past up (suc t.0) (shift + m % 64) t.3 (omega (arith, t.1))))
            ∙ ends (alike ws v) (end - n) (λ p. let e : shift + (end - n - 1) % 64 ≡ t.0 = omega (arith, t.1) in is_alike (end - n - 1) (omega arith) (omega arith) ∙ rw (ap (bit up) e ∙ one)),
      )
    where
      inside : (j : ℕ) → bit up j ≡ 1 → count_leading_zeros 64 up + suc j ≡ 64 → Dec (shift ≤ j) → count_leading_zeros 64 up ≤ (end - 1) % 64
      inside j one e (yes p) = omega arith
      inside j one e (no p) = absurd (omega (arith, one, filled x shift j (omega arith) (omega arith)))
