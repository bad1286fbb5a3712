-- The cases of the definitions, each under the test that leads there: a range that fits or not, and one range more or none left.
-- Assumes nothing.
use mathlib.Core.Path.{◌≡◌}
use mathlib.Core.List.{List}
use Prim.Native.Nat.{ℕ, zero, suc, ◌+◌, ◌-◌, ◌≤◌, ◌<◌}
use native.Mathlib.Nat.{not-suc-le-zero}
use native.Mathlib.Numerals.{sub-one}
use borrow.Author.Tests.{lt-ltb, le-ltb}
use Rattle.ranges.specs.Ranges.{below_of, range_at, ranges_at, with_range, spans}
use Rattle.std.specs.Prelude.{Some, None}

module _ (low gap len next : ℕ) where
  pub below_wrong : low < gap + 2 + len → below_of low gap len next ≡ None
  unfolding below_of
  below_wrong h = simp (lt-ltb _ _ h)

  pub below_spans : gap + 2 + len ≤ low → below_of low gap len next ≡ spans (low - gap - 2) (low - gap - 2 - len) next
  unfolding below_of
  below_spans h = simp (le-ltb _ _ h)

module _ (s : List ℕ) (k at low : ℕ) where
  pub ranges_none : k ≡ 0 → ranges_at s k at low ≡ Some at
  unfolding ranges_at
  ranges_none h = rw h

pub ranges_more : (s : List ℕ) (k at low : ℕ) → 0 < k → ranges_at s k at low ≡ with_range (range_at s at low) None (λ high least next. ranges_at s (k - 1) next least)
unfolding ranges_at
ranges_more s zero at low h = absurd (not-suc-le-zero h)
ranges_more s (suc k) at low h = simp sub-one
