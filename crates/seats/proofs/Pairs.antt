-- The pairs hold by computation; that bytes which name no stream are their own like is seen frame by frame, in the order in which a frame is put together.
-- Assumes nothing.
use Prim.Native.Nat.{ℕ, ◌/◌}
use mathlib.Core.Path.{◌≡◌, refl, sym, ◌∙◌, ap, subst}
use mathlib.Core.Bool.{false}
use mathlib.Core.List.{List}
use lib.Dec.{eqb}
use Rattle.answers.proofs.Choice.{holds}
use Rattle.accounts.proofs.Tests.{or_false, not_both}
use Rattle.wire.specs.Number.{big_endian, field_at, values_in, number_at, form_of, size_of, shortest}
use Rattle.layouts.specs.Layout.{layouts, layout_of, known}
use Rattle.layouts.specs.Body.{optional_at, numbers_at, sized_at, counted_at, remainder_at}
use Rattle.fields.specs.Faults.{above_of, fault_of}
use Rattle.fields.specs.Parts.{ended_at, parts_at}
use Rattle.fields.specs.Heads.{head_at}
use Rattle.fields.specs.declared.Parts.{Parts}
use Rattle.kinds.specs.declared.Kind.{Kind}
use Rattle.kinds.specs.declared.Role.{Role}
use Rattle.admission.specs.Admission.{admitted}
use Rattle.frames.specs.declared.Frame.{Frame}
use Rattle.frames.specs.declared.Reading.{Reading}
use Rattle.frames.specs.Fields.{frame_of, fields_at}
use Rattle.frames.proofs.Sound.{fields_got}
use Rattle.halves.specs.Seat.{exchanged_of, other_of}
use Rattle.seats.specs.Mirror.{exchanged_frame, exchanged_reading, Exchanged}
use Rattle.seats.specs.Pairs.{names_stream, Itself, Pairs}
use Rattle.std.specs.Prelude.{Result, Ok, Err}
use Rattle.frames.specs.Fields.{read_as}
use Rattle.fields.specs.declared.Refusal.{Refusal}

-- ---- a frame that names no stream is its own like

abbrev Alone : Frame → Type 0
Alone f = exchanged_frame f ≡ f

alone : (p : Parts) → names_stream p.ty ≡ false → Alone (frame_of p)
unfolding names_stream frame_of
alone p n =
    let a = or_false (eqb (p.ty / 8) 1) _ n in
    let b = or_false (eqb p.ty 0x04) _ a.1 in
    let c = or_false (eqb p.ty 0x05) _ b.1 in
    let d = or_false (eqb p.ty 0x11) _ c.1 in
    holds Alone (eqb (p.ty / 8) 1) _ _ (λ t. absurd (not_both _ t a.0)) (λ t.
    holds Alone (eqb p.ty 0x00) _ _ (λ t. refl) (λ t.
    holds Alone (eqb p.ty 0x01) _ _ (λ t. refl) (λ t.
    holds Alone (eqb p.ty 0x02) _ _ (λ t. refl) (λ t.
    holds Alone (eqb p.ty 0x03) _ _ (λ t. refl) (λ t.
    holds Alone (eqb p.ty 0x04) _ _ (λ t. absurd (not_both _ t b.0)) (λ t.
    holds Alone (eqb p.ty 0x05) _ _ (λ t. absurd (not_both _ t c.0)) (λ t.
    holds Alone (eqb p.ty 0x06) _ _ (λ t. refl) (λ t.
    holds Alone (eqb p.ty 0x07) _ _ (λ t. refl) (λ t.
    holds Alone (eqb p.ty 0x10) _ _ (λ t. refl) (λ t.
    holds Alone (eqb p.ty 0x11) _ _ (λ t. absurd (not_both _ t d.0)) (λ t.
    holds Alone (eqb p.ty 0x12) _ _ (λ t. refl) (λ t.
    holds Alone (eqb p.ty 0x13) _ _ (λ t. refl) (λ t.
    holds Alone (eqb p.ty 0x14) _ _ (λ t. refl) (λ t.
    holds Alone (eqb p.ty 0x15) _ _ (λ t. absurd (not_both _ t d.1)) (λ t.
    holds Alone (eqb p.ty 0x16) _ _ (λ t. refl) (λ t.
    holds Alone (eqb p.ty 0x17) _ _ (λ t. refl) (λ t.
    holds Alone (eqb p.ty 0x18) _ _ (λ t. refl) (λ t.
    holds Alone (eqb p.ty 0x19) _ _ (λ t. refl) (λ t.
    holds Alone (eqb p.ty 0x1a) _ _ (λ t. refl) (λ t.
    holds Alone (eqb p.ty 0x1b) _ _ (λ t. refl) (λ t.
    holds Alone (eqb p.ty 0x1c) _ _ (λ t. refl) (λ t.
    holds Alone (eqb p.ty 0x1d) _ _ (λ t. refl) (λ t. refl)))))))))))))))))))))))

-- its fields, read or not
fields_alone : (s : List ℕ) (next ty : ℕ) → names_stream ty ≡ false → fields_at s next ty ≡ exchanged_reading (fields_at s next ty)
fields_alone s next ty n = go (fields_at s next ty) refl
  where
    go : (x : Result Reading Refusal) → fields_at s next ty ≡ x → x ≡ exchanged_reading x
    go (Ok r') e =
        let r = fields_got s next ty e in
        let f = alone (record { ty = ty; a = r.a; b = r.b; c = r.c; d = r.d; at = r.start; len = r.len; token = r.token; x = r.x; y = r.y; z = r.z }) n in
        ap (λ (g : Frame). read_as g r'.ty r'.next) (r.made ∙ sym f ∙ ap exchanged_frame (sym r.made))
    go (Err r) e = refl

pub itself : Itself
itself role s at kind h = record { head = refl; admission = λ ty next e. (h ty next e).1; fields = λ ty next e. fields_alone s next ty (h ty next e).0 }

-- ---- two payloads whose frame at a place is of one type

with_type : (role : Role) (s r : List ℕ) (at : ℕ) (kind : Kind) (ty next : ℕ) → head_at s at ≡ Ok (ty, next) → head_at r at ≡ Ok (ty, next)
    → admitted (other_of role) kind ty ≡ admitted role kind ty → fields_at r next ty ≡ exchanged_reading (fields_at s next ty) → Exchanged role s r at kind
with_type role s r at kind ty next hs hr a f = record {
  head = hr ∙ sym hs;
  admission = λ t n e.
      let w : (ty, next) ≡ (t, n) = cc in
      let p : ty ≡ t = ap (λ (x : ℕ × ℕ). x.0) w in subst (λ (x : ℕ). admitted (other_of role) kind x ≡ admitted role kind x) p a;
  fields = λ t n e.
      let w : (ty, next) ≡ (t, n) = cc in
      let p : ty ≡ t = ap (λ (x : ℕ × ℕ). x.0) w in
      let q : next ≡ n = ap (λ (x : ℕ × ℕ). x.1) w in
      subst (λ (x : ℕ). fields_at r x t ≡ exchanged_reading (fields_at s x t)) q (subst (λ (x : ℕ). fields_at r next x ≡ exchanged_reading (fields_at s next x)) p f);
}

pub pairs : Pairs
unfolding big_endian field_at values_in number_at form_of size_of shortest layouts layout_of known optional_at numbers_at sized_at counted_at remainder_at above_of fault_of ended_at parts_at head_at frame_of fields_at admitted exchanged_of
pairs = record {
  stream = with_type _ _ _ _ _ 0x0e 1 refl refl refl refl;
  stream_long = with_type _ _ _ _ _ 0x0a 1 refl refl refl refl;
  stream_back = with_type _ _ _ _ _ 0x09 1 refl refl refl refl;
  reset = with_type _ _ _ _ _ 0x04 1 refl refl refl refl;
  stop = with_type _ _ _ _ _ 0x05 1 refl refl refl refl;
  allow = with_type _ _ _ _ _ 0x11 1 refl refl refl refl;
  blocked = with_type _ _ _ _ _ 0x15 1 refl refl refl refl;
  inside = with_type _ _ _ _ _ 0x05 2 refl refl refl refl;
  torn = with_type _ _ _ _ _ 0x04 1 refl refl refl refl;
}
