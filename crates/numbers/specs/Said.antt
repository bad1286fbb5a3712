-- What recovering a number and choosing a length say: 0 and the number, 0 and the length as 1 to 4, or the number that refuses it. (docs/RULES.md, "How firm each statement is".)
use Rattle.std.specs.Prelude.{ℕ, List, [], ◌∷◌, Result, Ok, Err}
use Rattle.answers.specs.Answers.{Said, accepting, refusing}
use Rattle.numbers.specs.Numbers.{bytes_in}
use Rattle.answers.specs.declared.Answer.{Answer}
use Rattle.numbers.specs.declared.Size.{Size}

abbrev pub recovered_says : Result ℕ Answer → Said (List ℕ)
recovered_says (Ok number) = accepting (number ∷ [])
recovered_says (Err answer) = refusing answer []

abbrev pub length_says : Result Size Answer → Said (List ℕ)
length_says (Ok size) = accepting (bytes_in size ∷ [])
length_says (Err answer) = refusing answer []
