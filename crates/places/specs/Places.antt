-- The marks of a stream's places, docs/RULES.md, "Ordered bytes": 64 words, a bit for each of 4,096 slots; the place p has the slot p % 4096.
-- What is marked, how far marks go on alike, and the words after some were painted.
use Rattle.std.specs.Prelude.{ℕ, zero, suc, ◌+◌, ◌-◌, ◌*◌, ◌/◌, ◌%◌, ◌^◌, ◌≤◌, ◌<◌, ◌≡◌, Bool, true, false, ◌&&◌, List, length, get_or, ltb, leb, eqb}
use Rattle.answers.specs.Choice.{◌⇒◌∣◌}
use Rattle.ring.specs.Bits.{as_bit, bit}
use Rattle.ring.specs.Words.{word_of, list_of}

-- the mark of the place p
unfoldable pub mark_at : List ℕ → ℕ → ℕ
mark_at ws p = bit (get_or ws (p / 64 % 64) 0) (p % 64)

-- the place p is marked
unfoldable pub marked : List ℕ → ℕ → Bool
marked ws p = eqb (mark_at ws p) 1

-- the mark of the place p says v
abbrev pub alike : List ℕ → Bool → ℕ → Bool
alike ws v p = eqb (mark_at ws p) (as_bit v)

-- how many of the n places from p on have the property f, without a gap
unfoldable pub run_of : (ℕ → Bool) → ℕ → ℕ → ℕ
run_of f p zero = 0
run_of f p (suc n) =
    f p ⇒ suc (run_of f (suc p) n)
    ∣ 0

-- what is meant by it: r places have the property, and the place after them has not, unless no place is left
pub record Longest (f : ℕ → Bool) (p n r : ℕ) : Type 0 where
  pub fits : r ≤ n
  pub all : (q : ℕ) → p ≤ q → q < p + r → f q ≡ true
  pub stop : r < n → f (p + r) ≡ false

-- the place up to which, from `at`, all marks say v, but not above `to`
unfoldable pub up_of : List ℕ → ℕ → ℕ → Bool → ℕ
up_of ws at to v =
    eqb (length ws) 64 ⇒ at + run_of (alike ws v) at (to - at)
    ∣ at

-- a is at most p, and p below b
unfoldable pub within : ℕ → ℕ → ℕ → Bool
within a b p = leb a p && ltb p b

-- the one place at or above `read` that has the slot i
unfoldable pub place_of : ℕ → ℕ → ℕ
place_of read i = read + (i + 4096 - read % 4096) % 4096

-- the 64 words that mark, of the 4,096 places from `read` on, exactly those that have the property f
unfoldable pub marks_of : ℕ → (ℕ → Bool) → List ℕ
marks_of read f = list_of 64 (λ k. word_of 64 (λ i. f (place_of read (64 * k + i))))

-- the words after the places from `from` up to `to` were marked, or their marks cleared: none where they are not 64 words, or the places more than 4,096 or above 2^63-1
unfoldable pub painted_of : List ℕ → ℕ → ℕ → Bool → List ℕ
painted_of ws from to v =
    eqb (length ws) 64 && (leb to (from + 4096) && ltb to (2 ^ 63)) ⇒ marks_of from (λ p. within from to p ⇒ v ∣ marked ws p)
    ∣ ws
