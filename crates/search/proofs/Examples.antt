-- Worked examples: the definitions, computed.
-- Assumes nothing.
use mathlib.Core.Path.{◌≡◌, refl}
use mathlib.Core.Bool.{true, false}
use mathlib.Core.List.{[], ◌∷◌}
use Rattle.search.specs.Words.{before, find_of, same_of}

-- the words of "a b": one ends at 1, the next at the end, and past the end there is none
first_word : find_of (97 ∷ 32 ∷ 98 ∷ []) 0 32 ≡ 1
unfolding find_of before
first_word = refl

last_word : find_of (97 ∷ 32 ∷ 98 ∷ []) 2 32 ≡ 3
unfolding find_of before
last_word = refl

past_the_end : find_of (97 ∷ 32 ∷ 98 ∷ []) 9 32 ≡ 9
unfolding find_of before
past_the_end = refl

same_words : same_of (97 ∷ 98 ∷ []) (97 ∷ 98 ∷ []) ≡ true
unfolding same_of
same_words = refl

beginning : same_of (97 ∷ 98 ∷ []) (97 ∷ []) ≡ false
unfolding same_of
beginning = refl
