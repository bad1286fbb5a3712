-- A word by its bits, and a list by its elements: the one word whose bits, and the one list whose elements, are those of a function.
use Rattle.std.specs.Prelude.{ℕ, zero, suc, ◌+◌, ◌*◌, Bool, List, [], ◌∷◌}
use Rattle.ring.specs.Bits.{as_bit}

-- the word of k bits whose bit i is set exactly where b i holds
unfoldable pub word_of : ℕ → (ℕ → Bool) → ℕ
word_of zero b = 0
word_of (suc k) b = 2 * word_of k (λ i. b (suc i)) + as_bit (b 0)

-- the list of n words, the word k of which is w k
unfoldable pub list_of : ℕ → (ℕ → ℕ) → List ℕ
list_of zero w = []
list_of (suc n) w = w 0 ∷ list_of n (λ k. w (suc k))
