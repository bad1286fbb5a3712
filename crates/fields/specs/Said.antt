-- What a frame's type and its fields say: 0 and the place after them, or the number that refuses them; a type is told also where it is refused, 0 if none was read, and fields that cannot be read or have a fault are 7. (docs/RULES.md, "How firm each statement is".)
use Rattle.std.specs.Prelude.{ℕ, List, [], ◌∷◌, Option, Some, None, Result, Ok, Err}
use Rattle.answers.specs.Answers.{Said, accepting, refusing}
use Rattle.answers.specs.declared.Answer.TheVariants.{FrameEncoding}
use Rattle.fields.specs.declared.Parts.{Parts}
use Rattle.fields.specs.declared.Refusal.{Refusal}

-- the type, and the place after it where it is accepted
abbrev pub head_says : Result (ℕ × ℕ) Refusal → Said (ℕ × List ℕ)
head_says (Ok (ty, next)) = accepting (ty, next ∷ [])
head_says (Err r) = refusing r.answer (r.ty, [])

-- the parts, and the place after them
abbrev pub fields_say : Option (Parts × ℕ) → Said (List (Parts × ℕ))
fields_say (Some (parts, next)) = accepting ((parts, next) ∷ [])
fields_say None = refusing FrameEncoding []
