-- Words and lines of a text: where the first of a byte stands, and when two texts are the same.
use Rattle.std.specs.Prelude.{ℕ, suc, ◌+◌, Bool, true, false, ◌&&◌, List, [], ◌∷◌, drop, eqb}
use Rattle.answers.specs.Choice.{◌⇒◌∣◌}

-- how many bytes stand before the first b: all, if there is none
unfoldable pub before : ℕ → List ℕ → ℕ
before b [] = 0
before b (x ∷ l) =
    eqb x b ⇒ 0
    ∣ suc (before b l)

-- the first place from a place on that holds b: the length if none does, and the place itself if it is past the end
unfoldable pub find_of : List ℕ → ℕ → ℕ → ℕ
find_of s at b = at + before b (drop at s)

-- whether two texts are the same
unfoldable pub same_of : List ℕ → List ℕ → Bool
same_of [] [] = true
same_of [] (y ∷ m) = false
same_of (x ∷ l) [] = false
same_of (x ∷ l) (y ∷ m) = eqb x y && same_of l m
