-- The columns and the rows hold by computation; the two laws are the order of a frame's tests (crate frames, `Order`) for this type.
-- Assumes nothing.
use Prim.Native.Nat.{◌+◌}
use mathlib.Core.Path.{◌≡◌, refl}
use mathlib.Core.Bool.{true, false}
use borrow.Author.Tests.{eq-eqb}
use Rattle.wire.specs.Number.{big_endian, field_at, values_in, number_at, form_of, size_of, shortest}
use Rattle.layouts.specs.Layout.{layouts, layout_of, known}
use Rattle.layouts.specs.Body.{optional_at, numbers_at, sized_at, identity_at}
use Rattle.fields.specs.Faults.{misissued_of, fault_of}
use Rattle.fields.specs.Parts.{ended_at, parts_at}
use Rattle.fields.specs.Heads.{head_at}
use Rattle.kinds.specs.declared.Kind.TheVariants.{ZeroRtt, OneRtt}
use Rattle.kinds.specs.declared.Role.{Role}
use Rattle.kinds.specs.declared.Role.TheVariants.{Server, Client}
use Rattle.frames.specs.Fields.{frame_of, fields_at}
use Rattle.admission.specs.Admission.{admitted}
use Rattle.frames.specs.Reading.{frame_at}
use Rattle.frames.proofs.Order.{not_admitted, admission_only}
use Rattle.figures.specs.ByKind.{is_on, ByKind}

-- RETIRE_CONNECTION_ID, at either end
early : (role : Role) → admitted role ZeroRtt 0x19 ≡ false
unfolding admitted
early Server = refl
early Client = refl

late : (role : Role) → admitted role OneRtt 0x19 ≡ true
unfolding admitted
late Server = refl
late Client = refl

pub by_kind : ByKind
unfolding is_on big_endian field_at values_in number_at form_of size_of shortest layouts layout_of known optional_at numbers_at sized_at identity_at misissued_of fault_of ended_at parts_at head_at frame_of fields_at admitted frame_at
by_kind = record {
  in_initial = refl;
  in_handshake = refl;
  in_early = refl;
  in_late = refl;
  table_3 = refl;
  retire_whole = refl;
  retire_torn = refl;
  retire_padded = refl;
  identity_whole = refl;
  neighbours = refl;
  retire_early = λ role s at e. not_admitted role s at ZeroRtt e (eq-eqb (at + 1) (at + 1) refl) refl (early role);
  retire_late = λ role s at e. admission_only role s at OneRtt e (late role);
}
