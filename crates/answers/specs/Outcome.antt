-- A check told by its answer: it passes, or the answer refuses. What code hands on with `?` is this reading of a definition's answer.
use Rattle.std.specs.Prelude.{Result, Ok, Err, List, [], ◌∷◌}
use Rattle.answers.specs.Choice.{◌⇒◌∣◌}
use Rattle.answers.specs.Answers.{Said, accepting, refusing, accepts}
use Rattle.answers.specs.declared.Answer.{Answer}

abbrev pub outcome_of : Answer → Result Unit Answer
outcome_of answer =
    accepts answer ⇒ Ok tt
    ∣ Err answer

-- what an outcome says: 0 with nothing more to tell, or the number that refuses
abbrev pub outcome_says : Result Unit Answer → Said (List Unit)
outcome_says (Ok told) = accepting (told ∷ [])
outcome_says (Err answer) = refusing answer []
