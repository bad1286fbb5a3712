-- The order of docs/RULES.md, "For a frame": each test decides where those before it passed, whatever comes after it.
-- Assumes nothing.
use mathlib.Core.Path.{◌≡◌, refl, ◌∙◌, ap}
use mathlib.Core.Bool.{true, false, not}
use mathlib.Core.List.{List}
use Prim.Native.Nat.{ℕ, ◌+◌, ◌<◌}
use native.Mathlib.Omega.{arith}
use borrow.Author.Tests.{eq-eqb}
use lib.ListN.{length, get_or}
use Rattle.answers.proofs.Choice.{holds}
use Rattle.answers.specs.declared.Answer.TheVariants.{FrameEncoding, ProtocolViolation}
use Rattle.wire.specs.Number.{number_at, form_of, size_of, shortest}
use Rattle.wire.proofs.Forms.{by_form, form_byte}
use Rattle.layouts.specs.Layout.{layouts, layout_of, known}
use Rattle.admission.specs.Admission.{admitted}
use Rattle.layouts.specs.Body.{optional_at, numbers_at}
use Rattle.fields.specs.Faults.{fault_of}
use Rattle.fields.specs.Parts.{ended_at, parts_at}
use Rattle.frames.specs.Fields.{frame_of, fields_at, read_as, refused_as}
use Rattle.fields.specs.Heads.{head_at, refusal}
use Rattle.frames.specs.Reading.{with_head, admitted_head, frame_at, any_frame_at}
use Rattle.kinds.specs.declared.Kind.{Kind}
use Rattle.kinds.specs.declared.Role.{Role}
use Rattle.frames.specs.declared.Frame.TheVariants.{Padding}
use Rattle.std.specs.Prelude.{Some, None, Result, Err}
use Rattle.fields.specs.declared.Refusal.{Refusal}

module _ (role : Role) (s : List ℕ) (at : ℕ) (kind : Kind) where
  -- what admission leaves alone
  abbrev Same : Result (ℕ × ℕ) Refusal → Type 0
  Same h = with_head (admitted_head role kind h) (λ ty next. fields_at s next ty) ≡ with_head h (λ ty next. fields_at s next ty)

  -- a type that cannot be read: 7, and no type
  pub unreadable : number_at s at ≡ None → frame_at role s at kind ≡ refused_as FrameEncoding 0
  unfolding frame_at head_at
  unreadable e = rw e

  module _ {ty next : ℕ} (e : number_at s at ≡ Some (ty, next)) where
    -- a type that is not in its shortest form: 10, be it known or admitted or not
    pub padded : shortest at ty next ≡ false → frame_at role s at kind ≡ refused_as ProtocolViolation ty
    unfolding frame_at head_at
    padded f = rw (e, f)

    -- an unknown type in its shortest form: 7
    pub unknown : shortest at ty next ≡ true → known ty ≡ false → frame_at role s at kind ≡ refused_as FrameEncoding ty
    unfolding frame_at head_at
    unknown f g = rw (e, f, g)

    -- a known type that this packet may not carry: 10, whatever its fields are
    pub not_admitted : shortest at ty next ≡ true → known ty ≡ true → admitted role kind ty ≡ false → frame_at role s at kind ≡ refused_as ProtocolViolation ty
    unfolding frame_at head_at
    not_admitted f g h = rw (e, f, g, h)

    -- a known type that it may carry: what its fields give
    pub fields_last : shortest at ty next ≡ true → known ty ≡ true → admitted role kind ty ≡ true → frame_at role s at kind ≡ fields_at s next ty
    unfolding frame_at head_at
    fields_last f g h = rw (e, f, g, h)

    -- admission only refuses: where it does not, the frame is read as in any packet
    pub admission_only : admitted role kind ty ≡ true → frame_at role s at kind ≡ any_frame_at s at
    unfolding frame_at any_frame_at head_at
    admission_only h =
        rw e
        (holds Same (not (shortest at ty next)) (Err (refusal ProtocolViolation ty)) _ (λ t. refl) (λ t.
        holds Same (not (known ty)) (Err (refusal FrameEncoding ty)) _ (λ u. refl) (λ u. rw h)))

-- of the role nothing but admission asks: a type that both ends admit, or neither does, is read alike at both
pub same_admission : (role seat : Role) (s : List ℕ) (at : ℕ) (kind : Kind) {ty next : ℕ} → number_at s at ≡ Some (ty, next) → admitted role kind ty ≡ admitted seat kind ty → frame_at role s at kind ≡ frame_at seat s at kind
unfolding frame_at head_at
same_admission role seat s at kind {ty} {next} e h =
    rw e
    (holds Alike (not (shortest at ty next)) (Err (refusal ProtocolViolation ty)) _ (λ t. refl) (λ t.
    holds Alike (not (known ty)) (Err (refusal FrameEncoding ty)) _ (λ u. refl) (λ u. rw h)))
  where
    Alike : Result (ℕ × ℕ) Refusal → Type 0
    Alike x = with_head (admitted_head role kind x) (λ ty next. fields_at s next ty) ≡ with_head (admitted_head seat kind x) (λ ty next. fields_at s next ty)

-- the same for a frame whatever packet it stands in
pub any_fields : (s : List ℕ) (at : ℕ) {ty next : ℕ} → number_at s at ≡ Some (ty, next) → shortest at ty next ≡ true → known ty ≡ true → any_frame_at s at ≡ fields_at s next ty
unfolding any_frame_at head_at
any_fields s at e f g = rw (e, f, g)

-- a byte 0 is a PADDING frame in every packet that may carry one
pub padding : (role : Role) (s : List ℕ) (at : ℕ) (kind : Kind) → admitted role kind 0 ≡ true → at < length s → get_or s at 0 ≡ 0 → frame_at role s at kind ≡ read_as Padding 0 (at + 1)
unfolding shortest size_of form_of known fields_at parts_at ended_at layout_of layouts numbers_at optional_at fault_of frame_of
padding role s at kind a h e =
    let r : number_at s at ≡ Some (0, at + 1) = by_form s at 0 (rw e) ∙ form_byte s at (omega arith) (omega arith) ∙ ap (λ (v : ℕ). Some (v, at + 1)) e in
    fields_last role s at kind r (eq-eqb (at + 1) (at + 1) refl) refl a
