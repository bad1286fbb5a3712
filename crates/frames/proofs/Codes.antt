-- A frame that is refused as it stands is refused with 7 or 10: each test of the reader names one of the two.
-- Assumes nothing.
use mathlib.Core.Path.{◌≡◌, refl, subst}
use mathlib.Core.Bool.{not}
use mathlib.Core.List.{List}
use mathlib.Core.Logic.{◌⊎◌, inl, inr}
use Prim.Native.Nat.{ℕ}
use Rattle.answers.specs.declared.Answer.{Answer}
use Rattle.answers.specs.declared.Answer.TheVariants.{FrameEncoding, ProtocolViolation}
use Rattle.answers.proofs.Choice.{holds}
use Rattle.wire.specs.Number.{number_at, shortest}
use Rattle.wire.proofs.Sound as number
use Rattle.layouts.specs.Layout.{known}
use Rattle.fields.specs.Parts.{parts_at}
use Rattle.frames.specs.Fields.{fields_at, refused_as}
use Rattle.admission.specs.Admission.{admitted}
use Rattle.fields.specs.Heads.{head_at, refusal}
use Rattle.frames.specs.Reading.{admitted_head, frame_at}
use Rattle.kinds.specs.declared.Kind.{Kind}
use Rattle.kinds.specs.declared.Role.{Role}
use Rattle.frames.specs.declared.Reading.{Reading}
use Rattle.fields.proofs.Going.{with_fields_law}
use Rattle.frames.proofs.Going.{with_head_law}
use Rattle.std.specs.Prelude.{Result, Ok, Err}
use Rattle.fields.specs.declared.Refusal.{Refusal}

abbrev pub SevenOrTen : Answer → Type 0
SevenOrTen answer = (answer ≡ FrameEncoding) ⊎ (answer ≡ ProtocolViolation)

-- the code, where there is one
abbrev Coded : Result Reading Refusal → Type 0
Coded (Ok r) = Unit
Coded (Err r) = SevenOrTen r.answer

abbrev HeadCoded : Result (ℕ × ℕ) Refusal → Type 0
HeadCoded (Ok (ty, next)) = Unit
HeadCoded (Err r) = SevenOrTen r.answer

head_codes : (s : List ℕ) (at : ℕ) → HeadCoded (head_at s at)
unfolding head_at
head_codes s at =
    number.with_number_law HeadCoded (number_at s at) (Err (refusal FrameEncoding 0)) _ (inl refl) (λ ty next e.
    holds HeadCoded (not (shortest at ty next)) (Err (refusal ProtocolViolation ty)) _ (λ t. inr refl) (λ t.
    holds HeadCoded (not (known ty)) (Err (refusal FrameEncoding ty)) _ (λ u. inl refl) (λ u. tt)))

fields_codes : (s : List ℕ) (at ty : ℕ) → Coded (fields_at s at ty)
unfolding fields_at
fields_codes s at ty = with_fields_law Coded (parts_at s at ty) (refused_as FrameEncoding ty) _ (inl refl) (λ p next e. tt)

admitted_codes : (role : Role) (kind : Kind) (h : Result (ℕ × ℕ) Refusal) → HeadCoded h → HeadCoded (admitted_head role kind h)
admitted_codes role kind (Ok (ty, next)) c = holds HeadCoded (not (admitted role kind ty)) (Err (refusal ProtocolViolation ty)) _ (λ t. inr refl) (λ t. tt)
admitted_codes role kind (Err r) c = c

frame_codes : (role : Role) (s : List ℕ) (at : ℕ) (kind : Kind) → Coded (frame_at role s at kind)
unfolding frame_at
frame_codes role s at kind =
    with_head_law Coded (admitted_head role kind (head_at s at)) _ (λ answer ty e. subst HeadCoded e (admitted_codes role kind (head_at s at) (head_codes s at)))
    (λ ty next e. fields_codes s next ty)

pub codes : (role : Role) (s : List ℕ) (at : ℕ) (kind : Kind) {answer : Answer} {ty : ℕ} → frame_at role s at kind ≡ refused_as answer ty → (answer ≡ FrameEncoding) ⊎ (answer ≡ ProtocolViolation)
codes role s at kind e = subst Coded e (frame_codes role s at kind)
