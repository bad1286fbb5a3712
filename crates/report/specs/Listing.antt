-- What the listing shows of each frame that is taken, where it goes on, and its last line (docs/RULES.md, "The listing").
use Rattle.std.specs.Prelude.{ℕ, Bool, List, [], ◌∷◌, ◌++◌, ltb, eqb, Option, Some, None}
use Rattle.answers.specs.Choice.{◌⇒◌∣◌}
use Rattle.answers.specs.Answers.{number_of}
use Rattle.answers.specs.declared.Answer.TheVariants.{ProtocolViolation}
use Rattle.streams.specs.declared.Mark.{Mark}
use Rattle.streams.specs.declared.Mark.TheVariants.{Open, Code, ByPeer}
use Rattle.streams.specs.Conn.{is_open}
use Rattle.steps.specs.declared.Shown.{Shown}
use Rattle.steps.specs.declared.Shown.TheVariants.{Nothing, Typed, Whole}
use Rattle.steps.specs.declared.TookFrame.{TookFrame}
use Rattle.columns.specs.Row.{field_of, row_of, closed_text}

-- "at most 65,527 bytes"
unfoldable pub too_long : ℕ → Bool
too_long n = ltb 65527 n

-- the first line: the header; "at most 65,527 bytes, else the sole line "too long""
unfoldable pub heading_of : ℕ → List ℕ
heading_of n =
    too_long n ⇒ 116 ∷ 111 ∷ 111 ∷ 32 ∷ 108 ∷ 111 ∷ 110 ∷ 103 ∷ 10 ∷ []
    ∣ 112 ∷ 108 ∷ 97 ∷ 99 ∷ 101 ∷ 32 ∷ 116 ∷ 121 ∷ 112 ∷ 101 ∷ 32 ∷ 99 ∷ 111 ∷ 100 ∷ 101 ∷ 32 ∷ 116 ∷ 111 ∷ 116 ∷ 97 ∷ 108 ∷ 10 ∷ []

-- "its type ("-" if unreadable)"
unfoldable pub type_shown : Shown → Option ℕ
type_shown Nothing = None
type_shown (Typed ty) = Some ty
type_shown (Whole frame ty next) = Some ty

-- "byte place of the frame, its type, its answer, total after it"
unfoldable pub taken_row_of : ℕ → TookFrame → List ℕ
taken_row_of place took = row_of place (type_shown took.shown) (number_of took.answer) took.conn.total

-- the place after a frame that was shown whole
unfoldable pub next_in : Shown → ℕ → ℕ
next_in Nothing end = end
next_in (Typed ty) end = end
next_in (Whole frame ty next) end = next

-- where the next frame stands: a closed connection takes none, as at the end
unfoldable pub after_of : TookFrame → ℕ → ℕ
after_of took end =
    is_open took.conn.mark ⇒ next_in took.shown end
    ∣ end

-- how the connection stands in the end: a payload of n bytes without frames breaks the protocol
unfoldable pub last_of : ℕ → Mark → Mark
last_of n mark =
    eqb n 0 ⇒ Code ProtocolViolation 0
    ∣ mark

-- "the last line is "open", "closed" with a code, or "closed by peer""
unfoldable pub ending_of : Mark → List ℕ
ending_of Open = 111 ∷ 112 ∷ 101 ∷ 110 ∷ 10 ∷ []
ending_of (Code answer ty) = closed_text ++ field_of (number_of answer) 10
ending_of ByPeer = closed_text ++ (98 ∷ 121 ∷ 32 ∷ 112 ∷ 101 ∷ 101 ∷ 114 ∷ 10 ∷ [])
