-- What reading a frame says: 0, its type, the frame and the place after it; or the number that refuses it, and its type, 0 if none was read. (docs/RULES.md, "How firm each statement is".)
use Rattle.std.specs.Prelude.{ℕ, List, [], ◌∷◌, Result, Ok, Err}
use Rattle.answers.specs.Answers.{Said, accepting, refusing}
use Rattle.frames.specs.declared.Frame.{Frame}
use Rattle.frames.specs.declared.Reading.{Reading}
use Rattle.fields.specs.declared.Refusal.{Refusal}

abbrev pub reading_says : Result Reading Refusal → Said (ℕ × List (Frame × ℕ))
reading_says (Ok r) = accepting (r.ty, (r.frame, r.next) ∷ [])
reading_says (Err r) = refusing r.answer (r.ty, [])
