-- What measuring a frame says: 0 and how many bytes it has, or 109, "a frame that the reader would refuse with 7". (docs/RULES.md, "How firm each statement is".)
use Rattle.std.specs.Prelude.{ℕ, List, [], ◌∷◌, Option, Some, None}
use Rattle.answers.specs.Answers.{Said, accepting, refusing}
use Rattle.answers.specs.declared.Answer.TheVariants as Answer'

abbrev pub measured_says : Option ℕ → Said (List ℕ)
measured_says (Some bytes) = accepting (bytes ∷ [])
measured_says None = refusing Answer'.Unwritable []
