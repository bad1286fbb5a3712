-- Ranges that were read are sound: they end within the bytes, and a walk down them finds each of them and ends when none is left, not before.
-- Assumes nothing.
use mathlib.Core.Path.{◌≡◌, refl, sym, ◌∙◌, subst}
use mathlib.Core.List.{List}
use Prim.Native.Nat.{ℕ, zero, suc, ◌+◌, ◌-◌, ◌≤◌, ◌<◌}
use native.Mathlib.Omega.{arith}
use borrow.Author.Tests.{ltb-false, eq-eqb, ne_eqb}
use lib.Dec.{ltb}
use lib.ListN.{length}
use Rattle.answers.proofs.Choice.{holds}
use Rattle.answers.proofs.Distinct.{impossible}
use Rattle.wire.specs.Number.{number_at}
use Rattle.wire.proofs.Sound as number
use Rattle.ranges.specs.Ranges.{below_of, range_at, ranges_at, with_range, with_ranges}
use Rattle.ranges.specs.Walk.{step_of, Readable, Stepped}
use Rattle.ranges.specs.declared.Range.{Range}
use Rattle.ranges.specs.declared.Walk.{Walk}
use Rattle.ranges.proofs.Steps.{below_spans, ranges_none}
use Rattle.std.specs.Prelude.{Option, Some, None}

-- the first of 1 + k ranges that were read up to n: its two numbers stand at the place, it fits below low, and the others were read below it
pub record Taken (s : List ℕ) (k at low n gap p len next : ℕ) : Type 0 where
  pub gap_read : number_at s at ≡ Some (gap, p)
  pub len_read : number_at s p ≡ Some (len, next)
  pub fits : gap + 2 + len ≤ low
  pub rest : ranges_at s k next (low - gap - 2 - len) ≡ Some n

module _ (s : List ℕ) (k at low n : ℕ) where
  abbrev IfRead : Option Range → Type 0
  IfRead r = with_range r None (λ high least next. ranges_at s k next least) ≡ Some n → (gap : ℕ) × (p : ℕ) × (len : ℕ) × (next : ℕ) × Taken s k at low n gap p len next

  none : IfRead None
  none e = impossible cc

  all_taken : IfRead (range_at s at low)
  unfolding range_at below_of
  all_taken =
      number.with_number_law IfRead (number_at s at) None _ none (λ gap p e.
      number.with_number_law IfRead (number_at s p) None _ none (λ len next f.
      holds IfRead (ltb low (gap + 2 + len)) None _ (λ t. none)
      (λ t r. (gap, p, len, next, record { gap_read = e; len_read = f; fits = ltb-false _ _ t; rest = r }))))

pub taken : (s : List ℕ) (k at low : ℕ) {n : ℕ} → ranges_at s (suc k) at low ≡ Some n → (gap : ℕ) × (p : ℕ) × (len : ℕ) × (next : ℕ) × Taken s k at low n gap p len next
unfolding ranges_at
taken s k at low {n} = all_taken s k at low n

-- ranges that were read end at or after their place and within the bytes
pub sound : (s : List ℕ) (k at low : ℕ) {n : ℕ} → ranges_at s k at low ≡ Some n → at ≤ length s → (at ≤ n) × (n ≤ length s)
unfolding ranges_at
sound s zero at low {n} e h = let q : at ≡ n = cc in (omega arith, omega arith)
sound s (suc k) at low {n} e h =
    let t = taken s k at low e in
    let r = t.4 in
    let a = number.sound s at r.gap_read in
    let b = number.sound s t.1 r.len_read in
    let i = sound s k t.3 (low - t.0 - 2 - t.2) r.rest b.within in
    (omega (arith, i.0, a.above, b.above), i.1)

-- what holds where a range is wrong and wherever all were read holds of what goes on with them
pub with_ranges_law : {X : Type 0} (P : X → Type 0) (r : Option ℕ) (x : X) (k : ℕ → X) → P x → ((n : ℕ) → r ≡ Some n → P (k n)) → P (with_ranges r x k)
with_ranges_law P (Some n) x k p q = q n refl
with_ranges_law P None x k p q = p

-- while a range is left, the step finds it
pub walks : (s : List ℕ) (w : Walk) (n : ℕ) → Readable s w n → 0 < w.left → (high : ℕ) × (low : ℕ) × (rest : Walk) × Stepped s w n high low rest
unfolding step_of range_at
walks s w n e h =
    let more : w.left ≡ suc (w.left - 1) = omega arith in
    let t = taken s (w.left - 1) w.at w.low (subst (λ (k : ℕ). ranges_at s k w.at w.low ≡ Some n) more e) in
    let gap = t.0 in
    let len = t.2 in
    let next = t.3 in
    let r = t.4 in
    let high = w.low - gap - 2 in (
      high,
      high - len,
      record { low = high - len; at = next; left = w.left - 1 },
      record {
        step = rw (ne_eqb w.left 0 (omega arith), r.gap_read, r.len_read, below_spans w.low gap len next r.fits);
        apart = omega (arith, r.fits);
        ordered = omega arith;
        below = refl;
        fewer = omega arith;
        readable = r.rest;
      },
    )

-- when none is left, the walk ends where the ranges end
pub ends : (s : List ℕ) (w : Walk) (n : ℕ) → Readable s w n → w.left ≡ 0 → (step_of s w ≡ None) × (w.at ≡ n)
unfolding step_of
ends s w n e h =
    let q : Some w.at ≡ Some n = sym (ranges_none s w.left w.at w.low h) ∙ e in
    (simp (eq-eqb _ _ h), cc)
