-- What the parts of the code do to a word and to the marks, bit by bit, and what they find.
use Rattle.std.specs.Prelude.{ℕ, ◌+◌, ◌^◌, ◌≤◌, ◌<◌, max, ◌≡◌, Bool, List, length, get_or}
use Rattle.ring.specs.Bits.{as_bit, bit}
use Rattle.places.specs.Places.{mark_at}

-- r is the word w with the bits from lo up to hi all v
pub record Painted (w lo hi : ℕ) (v : Bool) (r : ℕ) : Type 0 where
  pub inside : (i : ℕ) → lo ≤ i → i < hi → bit r i ≡ as_bit v
  pub low : (i : ℕ) → i < lo → bit r i ≡ bit w i
  pub high : (i : ℕ) → hi ≤ i → i < 64 → bit r i ≡ bit w i

-- of the bits of w from b on r are v, and then no more
pub record Alike (w b : ℕ) (v : Bool) (r : ℕ) : Type 0 where
  pub within : b + r ≤ 64
  pub all : (i : ℕ) → b ≤ i → i < b + r → bit w i ≡ as_bit v
  pub stop : b + r < 64 → bit w (b + r) ≡ as_bit v → ⊥

-- from `at` up to r all marks are v, and r is not below `to` or the mark at r is not v
pub record Up (ws : List ℕ) (at to : ℕ) (v : Bool) (r : ℕ) : Type 0 where
  pub least : at ≤ r
  pub within : r ≤ max at to
  pub all : (p : ℕ) → at ≤ p → p < r → mark_at ws p ≡ as_bit v
  pub stop : r < to → mark_at ws r ≡ as_bit v → ⊥

-- 64 words of 64 bits
pub record Whole (ws : List ℕ) : Type 0 where
  pub long : length ws ≡ 64
  pub small : (k : ℕ) → get_or ws k 0 < 2 ^ 64

-- vs is ws with the marks of the places from `from` up to `to` all v
pub record Marked (ws : List ℕ) (from to : ℕ) (v : Bool) (vs : List ℕ) : Type 0 where
  pub inside : (p : ℕ) → from ≤ p → p < to → mark_at vs p ≡ as_bit v
  pub rest : (p : ℕ) → from ≤ p → to ≤ p → p < from + 4096 → mark_at vs p ≡ mark_at ws p
