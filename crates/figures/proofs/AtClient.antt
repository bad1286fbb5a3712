-- The rows hold by computation; the laws by the order of a frame's tests (crate frames, `Order`), of which admission alone looks at the role.
-- Assumes nothing.
use Prim.Native.Nat.{ℕ}
use mathlib.Core.Path.{◌≡◌, refl}
use mathlib.Core.Bool.{true, false}
use lib.Dec.{eqb}
use Rattle.wire.specs.Number.{big_endian, field_at, values_in, number_at, form_of, size_of, shortest}
use Rattle.ranges.specs.Ranges.{below_of, range_at, ranges_at}
use Rattle.layouts.specs.Layout.{layouts, layout_of, known}
use Rattle.layouts.specs.Body.{optional_at, numbers_at, sized_at, counted_at, remainder_at, identity_at, ranged_at}
use Rattle.fields.specs.Faults.{above_of, too_many, misissued_of, fault_of}
use Rattle.fields.specs.Parts.{ended_at, parts_at}
use Rattle.fields.specs.Heads.{head_at}
use Rattle.kinds.specs.declared.Kind.{Kind}
use Rattle.kinds.specs.declared.Kind.TheVariants.{ZeroRtt}
use Rattle.kinds.specs.declared.Role.TheVariants.{Server, Client}
use Rattle.frames.specs.Fields.{frame_of, fields_at}
use Rattle.admission.specs.Admission.{except_early, admitted}
use Rattle.frames.specs.Reading.{frame_at}
use Rattle.frames.proofs.Order.{not_admitted, same_admission}
use Rattle.figures.specs.AtClient.{AtClient}

-- all types but the two that servers alone send
others : (kind : Kind) (ty : ℕ) → except_early kind ≡ true → eqb ty 0x07 ≡ false → eqb ty 0x1e ≡ false → admitted Client kind ty ≡ admitted Server kind ty
unfolding admitted
others kind ty e a b = rw (e, a, b)

pub at_client : AtClient
unfolding big_endian field_at values_in number_at form_of size_of shortest below_of range_at ranges_at layouts layout_of known optional_at numbers_at sized_at counted_at remainder_at identity_at ranged_at above_of too_many misissued_of fault_of ended_at parts_at head_at frame_of fields_at admitted frame_at
at_client = record {
  table = refl;
  in_initial = refl;
  in_handshake = refl;
  in_early = refl;
  in_late = refl;
  alone = refl;
  token = refl;
  token_empty = refl;
  token_torn = refl;
  token_padded = refl;
  done = refl;
  done_padded = refl;
  not_at_servers = refl;
  padding = refl;
  padding_server = refl;
  before_admission = refl;
  nothing_early = λ s at ty next e f g. not_admitted Client s at ZeroRtt e f g refl;
  as_at_servers = others;
  read_alike = λ s at kind ty next. same_admission Client Server s at kind;
}
