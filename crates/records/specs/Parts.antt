-- What the parts of the code do to words and to a record, bit by bit.
use Rattle.std.specs.Prelude.{ℕ, ◌+◌, ◌^◌, ◌≤◌, ◌<◌, max, ◌≡◌, ◌&&◌, ◌||◌, List, length, get_or, leb, eqb}
use Rattle.records.specs.declared.Record.{Record}
use Rattle.ring.specs.Bits.{bit_at}
use Rattle.records.specs.Marks.{recorded, Sound}

-- a ring of 128 words of 64 bits, which a lent one is to stay
pub record Whole (ws : List ℕ) : Type 0 where
  pub long : length ws ≡ 128
  pub small : (k : ℕ) → get_or ws k 0 < 2 ^ 64

-- vs is the ring ws without the marks of the numbers from `from` up to `to`
pub record Cleared (ws : List ℕ) (from to : ℕ) (vs : List ℕ) : Type 0 where
  pub out : (m : ℕ) → from ≤ m → m < to → bit_at vs m ≡ 0
  pub rest : (m : ℕ) → to ≤ m → m < from + 8192 → bit_at vs m ≡ bit_at ws m

-- S is R with its window moved up to n: what stays in the window keeps its mark, and what is new in it has none
pub record Slid (R : Record) (n : ℕ) (S : Record) : Type 0 where
  pub top : S.top ≡ max R.top (n + 1)
  pub kept : (m : ℕ) → m < R.top → S.top ≤ m + 8192 → bit_at S.words m ≡ bit_at R.words m
  pub fresh : (m : ℕ) → R.top ≤ m → m < S.top → S.top ≤ m + 8192 → bit_at S.words m ≡ 0
  pub clean : (m : ℕ) → S.top ≤ m → m < 8192 → bit_at S.words m ≡ bit_at R.words m

-- S is R after n was recorded: the largest is the larger one, and recorded are n and what was, as far as the new window holds it
pub record Marked (R : Record) (n : ℕ) (S : Record) : Type 0 where
  pub top : S.top ≡ max R.top (n + 1)
  pub recorded_is : (m : ℕ) → recorded S m ≡ (leb S.top (m + 8192) && (eqb m n || recorded R m))
  pub sound : Sound R → Sound S
