-- A frame that was read is sound, once over its layout: its numbers and its tail end within the payload and not before their places, and the type above it.
-- Assumes nothing.
use mathlib.Core.Path.{◌≡◌, refl, sym, subst}
use mathlib.Core.Bool.{true, not}
use mathlib.Core.List.{List}
use Prim.Native.Nat.{ℕ, ◌≤◌}
use native.Mathlib.Omega.{arith}
use borrow.Author.Tests.{not-false, leb-true}
use lib.ListN.{length}
use Rattle.answers.specs.declared.Answer.TheVariants.{FrameEncoding, ProtocolViolation}
use Rattle.answers.proofs.Choice.{holds}
use Rattle.answers.proofs.Distinct.{impossible}
use Rattle.wire.specs.Number.{number_at, shortest}
use Rattle.wire.proofs.Sound as number
use Rattle.layouts.specs.Layout.{layout_of, known}
use Rattle.fields.specs.Faults.{fault_of}
use Rattle.layouts.specs.Body.{numbers_at, body_at}
use Rattle.fields.specs.Parts.{ended_at, parts_at, with_fields}
use Rattle.frames.specs.Fields.{frame_of, fields_at, read_as, refused_as}
use Rattle.admission.specs.Admission.{admitted}
use Rattle.fields.specs.Heads.{head_at, refusal}
use Rattle.frames.specs.Reading.{with_head, admitted_head, frame_at, any_frame_at}
use Rattle.frames.specs.Sound.{Lies, FieldsRead}
use Rattle.kinds.specs.declared.Kind.{Kind}
use Rattle.kinds.specs.declared.Role.{Role}
use Rattle.frames.specs.declared.Frame.{Frame}
use Rattle.frames.specs.declared.Reading.{Reading}
use Rattle.layouts.proofs.Going.{with_numbers_law, with_body_law}
use Rattle.layouts.proofs.Sound.{numbers_in, body_in}
use Rattle.frames.proofs.Going.{with_head_law}
use Rattle.std.specs.Prelude.{Option, Some, None, Result, Ok, Err}
use Rattle.fields.specs.declared.Parts.{Parts}
use Rattle.fields.specs.declared.Refusal.{Refusal}

-- fields that were read, and what was read for them
module _ (s : List ℕ) (at ty : ℕ) where
  abbrev IfGot : Result Reading Refusal → Type 0
  IfGot (Ok r) = FieldsRead s at ty r.frame r.ty r.next
  IfGot (Err r) = Unit

  IfParts : Option (Parts × ℕ) → Type 0
  IfParts r = IfGot (with_fields r (refused_as FrameEncoding ty) (λ p next. read_as (frame_of p) ty next))

  all_got : IfGot (fields_at s at ty)
  unfolding fields_at parts_at ended_at IfParts
  all_got =
      with_numbers_law IfParts (numbers_at s at (layout_of ty).numbers) None _ tt (λ a b c d p e.
      with_body_law IfParts (body_at s p (layout_of ty).tail a c d) None _ tt (λ start len token q g.
      with_numbers_law IfParts (numbers_at s q (layout_of ty).after) None _ tt (λ x y z rest n h.
      holds IfParts (fault_of ty a b len) None _ (λ t. tt) (λ t. record {
        a = a;
        b = b;
        c = c;
        d = d;
        p = p;
        start = start;
        len = len;
        token = token;
        q = q;
        x = x;
        y = y;
        z = z;
        rest = rest;
        numbers = e;
        body = g;
        after = h;
        right = t;
        made = refl;
        type = refl;
      }))))

  pub fields_got : {f : Frame} {t n : ℕ} → fields_at s at ty ≡ read_as f t n → FieldsRead s at ty f t n
  fields_got e = subst IfGot e all_got

-- a type that was read: a number in its shortest form, and known
module _ (s : List ℕ) (at : ℕ) where
  abbrev IfType : Result (ℕ × ℕ) Refusal → Type 0
  IfType (Ok (ty, next)) = (number_at s at ≡ Some (ty, next)) × (shortest at ty next ≡ true) × (known ty ≡ true)
  IfType (Err r) = Unit

  all_types : IfType (head_at s at)
  unfolding head_at
  all_types = number.with_number_law IfType (number_at s at) (Err (refusal FrameEncoding 0)) _ tt (λ ty next e.
      holds IfType (not (shortest at ty next)) (Err (refusal ProtocolViolation ty)) _ (λ t. tt) (λ t.
      holds IfType (not (known ty)) (Err (refusal FrameEncoding ty)) _ (λ u. tt) (λ u. (e, not-false _ t, not-false _ u))))

  pub type_got : {ty next : ℕ} → head_at s at ≡ Ok (ty, next) → (number_at s at ≡ Some (ty, next)) × (shortest at ty next ≡ true) × (known ty ≡ true)
  type_got e = subst IfType e all_types

-- a frame that was read: its type, and its fields after it
module _ (s : List ℕ) (at : ℕ) (f : Frame) (ty n : ℕ) where
  abbrev Parted : Type 0
  Parted = (next : ℕ) × (number_at s at ≡ Some (ty, next)) × (shortest at ty next ≡ true) × (known ty ≡ true) × (fields_at s next ty ≡ read_as f ty n)

  parted : (t next : ℕ) → head_at s at ≡ Ok (t, next) → fields_at s next t ≡ read_as f ty n → Parted
  parted t next h e =
      let k : t ≡ ty = sym (fields_got s next t e).type in
      let g = type_got s at (subst (λ (u : ℕ). head_at s at ≡ Ok (u, next)) k h) in
      (next, g.0, g.1, g.2, subst (λ (u : ℕ). fields_at s next u ≡ read_as f ty n) k e)

pub any_got : (s : List ℕ) (at : ℕ) {f : Frame} {ty n : ℕ} → any_frame_at s at ≡ read_as f ty n
    → (next : ℕ) × (number_at s at ≡ Some (ty, next)) × (shortest at ty next ≡ true) × (known ty ≡ true) × (fields_at s next ty ≡ read_as f ty n)
unfolding any_frame_at
any_got s at {f} {ty} {n} =
    with_head_law (λ (r : Result Reading Refusal). r ≡ read_as f ty n → Parted s at f ty n) (head_at s at) (λ t next. fields_at s next t)
    (λ answer t h e. impossible cc) (parted s at f ty n)

-- a frame that was read in a packet of a kind was admitted there, and is read alike in any
module _ (role : Role) (s : List ℕ) (kind : Kind) (f : Frame) (ty n : ℕ) where
  abbrev after : Result (ℕ × ℕ) Refusal → Result Reading Refusal
  after h = with_head h (λ t next. fields_at s next t)

  all_admitted : (h : Result (ℕ × ℕ) Refusal) → after (admitted_head role kind h) ≡ read_as f ty n → (admitted role kind ty ≡ true) × (after h ≡ read_as f ty n)
  all_admitted (Err r) e = impossible cc
  all_admitted (Ok (t, next)) e =
      holds (λ (h : Result (ℕ × ℕ) Refusal). after h ≡ read_as f ty n → (admitted role kind ty ≡ true) × (fields_at s next t ≡ read_as f ty n))
      (not (admitted role kind t)) (Err (refusal ProtocolViolation t)) (Ok (t, next)) (λ u e. impossible cc)
      (λ u e. (subst (λ (v : ℕ). admitted role kind v ≡ true) (sym (fields_got s next t e).type) (not-false _ u), e)) e

pub frame_got : (role : Role) (s : List ℕ) (at : ℕ) (kind : Kind) {f : Frame} {ty n : ℕ} → frame_at role s at kind ≡ read_as f ty n → (admitted role kind ty ≡ true) × (any_frame_at s at ≡ read_as f ty n)
unfolding frame_at any_frame_at
frame_got role s at kind {f} {ty} {n} = all_admitted role s kind f ty n (head_at s at)

-- fields that were read end within the payload and not before their place
module _ (s : List ℕ) where
  pub fields_in : (at ty : ℕ) {f : Frame} {t n : ℕ} → fields_at s at ty ≡ read_as f t n → at ≤ length s → (at ≤ n) × (n ≤ length s)
  fields_in at ty e h =
      let r = fields_got s at ty e in
      let i = numbers_in s at (layout_of ty).numbers r.numbers h in
      let j = body_in s r.p (layout_of ty).tail r.a r.c r.d r.body i.1 in
      let k = numbers_in s r.q (layout_of ty).after r.after j.1 in
      (omega (arith, i.0, j.0, k.0), k.1)

-- the laws: a frame that was read lies above its place and within the payload, and its type is known
pub sound_any : (s : List ℕ) (at : ℕ) {f : Frame} {ty n : ℕ} → any_frame_at s at ≡ read_as f ty n → Lies s at ty n
unfolding known
sound_any s at {f} {ty} {n} e =
    let g = any_got s at e in
    let i = number.sound s at g.1 in
    let j = fields_in s g.0 ty g.4 i.within in
    record { above = omega (arith, i.above, j.0); within = j.1; known = leb-true ty 0x1e g.3 }

pub sound : (role : Role) (s : List ℕ) (at : ℕ) (kind : Kind) {f : Frame} {ty n : ℕ} → frame_at role s at kind ≡ read_as f ty n → Lies s at ty n
sound role s at kind e = sound_any s at (frame_got role s at kind e).1
