-- What a writer's answer says: 0 and the place after what was written, or the number that refuses it. (docs/RULES.md, "How firm each statement is".)
use Rattle.std.specs.Prelude.{ℕ, List, [], ◌∷◌, Result, Ok, Err}
use Rattle.answers.specs.Answers.{Said, accepting, refusing}
use Rattle.answers.specs.declared.Answer.{Answer}

abbrev pub wrote_says : Result ℕ Answer → Said (List ℕ)
wrote_says (Ok next) = accepting (next ∷ [])
wrote_says (Err answer) = refusing answer []
