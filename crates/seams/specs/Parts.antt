-- What the parts of the code do to bytes, one by one.
use Rattle.std.specs.Prelude.{ℕ, ◌+◌, ◌%◌, ◌≤◌, ◌<◌, ◌≡◌, List, length, get_or}

-- a ring of this size has 4,096 bytes, n places are not more, and the others have n from j on
pub record Fit (size others j n : ℕ) : Type 0 where
  pub long : size ≡ 4096
  pub few : n ≤ 4096
  pub room : j + n ≤ others

-- t is o with n bytes of s, from j on, at i
pub record Copied (o : List ℕ) (i : ℕ) (s : List ℕ) (j n : ℕ) (t : List ℕ) : Type 0 where
  pub long : length t ≡ length o
  pub inside : (k : ℕ) → k < n → get_or t (i + k) 0 ≡ get_or s (j + k) 0
  pub rest : (x : ℕ) → (i ≤ x → x < i + n → ⊥) → get_or t x 0 ≡ get_or o x 0

-- t is the ring o with n bytes of s, from j on, at the places from `at` on
pub record Stored (o : List ℕ) (at : ℕ) (s : List ℕ) (j n : ℕ) (t : List ℕ) : Type 0 where
  pub long : length t ≡ 4096
  pub inside : (k : ℕ) → k < n → get_or t ((at + k) % 4096) 0 ≡ get_or s (j + k) 0
  pub rest : (p : ℕ) → at + n ≤ p → p < at + 4096 → get_or t (p % 4096) 0 ≡ get_or o (p % 4096) 0

-- n bytes of a from i on and of b from j on are the same
abbrev pub Same : List ℕ → ℕ → List ℕ → ℕ → ℕ → Type 0
Same a i b j n = (k : ℕ) → k < n → get_or a (i + k) 0 ≡ get_or b (j + k) 0

-- the bytes of the ring at the n places from `at` on are those of s from j on
abbrev pub SameAt : List ℕ → ℕ → List ℕ → ℕ → ℕ → Type 0
SameAt a at s j n = (k : ℕ) → k < n → get_or a ((at + k) % 4096) 0 ≡ get_or s (j + k) 0
