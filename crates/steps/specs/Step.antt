-- One frame at a place of a payload: what it asks for, what it leaves of a connection and of the entry that it looks at, and what a call for it shows the caller.
use Rattle.std.specs.Prelude.{ℕ, List, Option, Result, Ok, Err}
use Rattle.answers.specs.declared.Answer.{Answer}
use Rattle.wire.specs.Number.{number_at, with_number}
use Rattle.kinds.specs.declared.Kind.{Kind}
use Rattle.kinds.specs.declared.Role.{Role}
use Rattle.frames.specs.declared.Reading.{Reading}
use Rattle.frames.specs.Reading.{frame_at}
use Rattle.streams.specs.declared.Conn.{Conn}
use Rattle.entries.specs.declared.Entry.{Entry}
use Rattle.streams.specs.declared.Mark.TheVariants.{Code}
use Rattle.verdicts.specs.declared.Judged.{Judged}
use Rattle.rules.specs.declared.View.{View}
use Rattle.streams.specs.Conn.{marked_as}
use Rattle.views.specs.View.{view_of, frame_place}
use Rattle.verdicts.specs.Verdict.{judged_of}
use Rattle.steps.specs.declared.Request.{Request}
use Rattle.steps.specs.declared.Decided.{Decided}
use Rattle.steps.specs.declared.Shown.{Shown}
use Rattle.steps.specs.declared.Shown.TheVariants as Shown'
use Rattle.fields.specs.declared.Refusal.{Refusal}

-- what a frame asks for, from what reading it gave; one that was refused as it stands asks for nothing
unfoldable pub request_of : Role → Kind → ℕ → Result Reading Refusal → Request
request_of role kind at (Ok r) = record { place = frame_place (view_of role kind r.frame); next = r.next; ty = r.ty; asks = Ok (view_of role kind r.frame) }
request_of role kind at (Err r) = record { place = 0; next = at; ty = r.ty; asks = Err r.answer }

unfoldable pub request_at : Role → List ℕ → ℕ → Kind → Request
request_at role s at kind = request_of role kind at (frame_at role s at kind)

-- a verdict as a step of a walk
abbrev pub decided_as : Judged → ℕ → Decided
decided_as j next = record { stepped = record { conn = j.conn; answer = j.answer; next = next }; entry = j.entry }

-- what a frame leaves, on an open connection whose table fits: as ruled, or closed with the code that refuses it as it stands
abbrev pub judged_or : Conn → Entry → ℕ → Result View Answer → Judged
judged_or c e ty (Ok view) = judged_of c e ty view
judged_or c e ty (Err answer) = record { answer = answer; conn = marked_as c (Code answer ty); entry = e }

unfoldable pub decided_of : Conn → Entry → Request → Decided
decided_of c e a = decided_as (judged_or c e a.ty a.asks) a.next

-- the frame where its fields could be read, else the type where it could
unfoldable pub shown_of : Option (ℕ × ℕ) → Result Reading Refusal → Shown
shown_of n (Ok r) = Shown'.Whole r.frame r.ty r.next
shown_of n (Err r) = with_number n Shown'.Nothing (λ value next. Shown'.Typed value)

unfoldable pub shown_at : Role → List ℕ → ℕ → Kind → Shown
shown_at role s at kind = shown_of (number_at s at) (frame_at role s at kind)
