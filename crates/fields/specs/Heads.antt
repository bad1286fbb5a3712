-- The type of a frame, docs/RULES.md, "For a frame": readable (7), shortest (10), known (7).
use Rattle.std.specs.Prelude.{ℕ, not, List, Result, Ok, Err}
use Rattle.answers.specs.Choice.{◌⇒◌∣◌}
use Rattle.answers.specs.declared.Answer.{Answer}
use Rattle.answers.specs.declared.Answer.TheVariants.{FrameEncoding, ProtocolViolation}
use Rattle.wire.specs.Number.{number_at, with_number, shortest}
use Rattle.layouts.specs.Layout.{known}
use Rattle.fields.specs.declared.Refusal.{Refusal}

-- a refusal: its answer, and the type of the frame, 0 if none was read
abbrev pub refusal : Answer → ℕ → Refusal
refusal answer ty = record { answer = answer; ty = ty }

-- the type of a frame: readable, in its shortest form, and known
unfoldable pub head_at : List ℕ → ℕ → Result (ℕ × ℕ) Refusal
head_at s at =
    with_number (number_at s at) (Err (refusal FrameEncoding 0)) (λ ty next.
    not (shortest at ty next) ⇒ Err (refusal ProtocolViolation ty)
    ∣ not (known ty) ⇒ Err (refusal FrameEncoding ty)
    ∣ Ok (ty, next))
