-- What splitting says: 0 and the packet's header, or the number of why there is none, which for "done" is 100. (docs/RULES.md, "How firm each statement is".)
use Rattle.std.specs.Prelude.{List, [], ◌∷◌, Result, Ok, Err}
use Rattle.answers.specs.Answers.{Said, accepting, refusing}
use Rattle.datagram.specs.declared.Header.{Header}
use Rattle.answers.specs.declared.Answer.{Answer}

abbrev pub next_says : Result Header Answer → Said (List Header)
next_says (Ok header) = accepting (header ∷ [])
next_says (Err answer) = refusing answer []
