-- A definition that gives an answer's number and values loses nothing where the answer is found again from them.
-- Assumes nothing.
use mathlib.Core.Path.{◌≡◌, sym, ◌∙◌, ap}
use Prim.Native.Nat.{ℕ}
use mathlib.Core.List.{List, [], ◌∷◌}
use Rattle.answers.specs.Answers.{Said}

-- two values with one image are one, if each is found again from its image
pub one_value : {X Y : Type 0} (said : X → Y) (found : Y → X) → ((x : X) → found (said x) ≡ x) → (x y : X) → said x ≡ said y → x ≡ y
one_value said found again x y e = sym (again x) ∙ ap found e ∙ again y

-- by the first of some values, or by x where there is none
abbrev pub first_or : {X Y : Type 0} → (Y → X) → X → List Y → X
first_or k x [] = x
first_or k x (v ∷ l) = k v

-- found by the values where a refusal has none and acceptance has one
abbrev pub found_by : {X Y : Type 0} → (Y → X) → (ℕ → X) → Said (List Y) → X
found_by accepted refused s = first_or accepted (refused s.number) s.values
