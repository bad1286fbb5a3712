-- One frame at a place of a payload, docs/RULES.md, "For a frame": type readable (7), shortest (10), known (7), admitted in this packet kind and role (10), fields (7).
use Rattle.std.specs.Prelude.{ℕ, not, List, Result, Ok, Err}
use Rattle.answers.specs.Choice.{◌⇒◌∣◌}
use Rattle.answers.specs.declared.Answer.TheVariants.{ProtocolViolation}
use Rattle.fields.specs.Heads.{head_at, refusal}
use Rattle.admission.specs.Admission.{admitted}
use Rattle.frames.specs.Fields.{fields_at, refused_as}
use Rattle.kinds.specs.declared.Kind.{Kind}
use Rattle.kinds.specs.declared.Role.{Role}
use Rattle.frames.specs.declared.Reading.{Reading}
use Rattle.fields.specs.declared.Refusal.{Refusal}

-- goes on with a type and the place after it; a refusal stays one
abbrev pub with_head : Result (ℕ × ℕ) Refusal → (ℕ → ℕ → Result Reading Refusal) → Result Reading Refusal
with_head (Ok (ty, next)) k = k ty next
with_head (Err r) k = refused_as r.answer r.ty

-- a type that a packet of this kind may carry to us; a refusal stays one
abbrev pub admitted_head : Role → Kind → Result (ℕ × ℕ) Refusal → Result (ℕ × ℕ) Refusal
admitted_head role kind (Ok (ty, next)) =
    not (admitted role kind ty) ⇒ Err (refusal ProtocolViolation ty)
    ∣ Ok (ty, next)
admitted_head role kind (Err r) = Err (refusal r.answer r.ty)

-- a frame in a packet of this kind, at an end of this role
unfoldable pub frame_at : Role → List ℕ → ℕ → Kind → Result Reading Refusal
frame_at role s at kind = with_head (admitted_head role kind (head_at s at)) (λ ty next. fields_at s next ty)

-- a frame whatever packet it stands in
unfoldable pub any_frame_at : List ℕ → ℕ → Result Reading Refusal
any_frame_at s at = with_head (head_at s at) (λ ty next. fields_at s next ty)
