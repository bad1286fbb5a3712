-- The borders of the fields hold by computation.
-- Assumes nothing.
use mathlib.Core.Path.{refl}
use Rattle.wire.specs.Number.{big_endian, field_at, values_in, number_at, form_of, size_of, shortest}
use Rattle.ranges.specs.Ranges.{below_of, range_at, ranges_at}
use Rattle.layouts.specs.Layout.{layouts, layout_of, known}
use Rattle.layouts.specs.Body.{optional_at, numbers_at, sized_at, counted_at, remainder_at, identity_at, ranged_at}
use Rattle.fields.specs.Faults.{above_of, too_many, misissued_of, fault_of}
use Rattle.fields.specs.Parts.{ended_at, parts_at}
use Rattle.fields.specs.Heads.{head_at}
use Rattle.frames.specs.Fields.{frame_of, fields_at}
use Rattle.frames.specs.Reading.{any_frame_at}
use Rattle.figures.specs.Faults.{Faults}

pub faults : Faults
unfolding big_endian field_at values_in number_at form_of size_of shortest below_of range_at ranges_at layouts layout_of known optional_at numbers_at sized_at counted_at remainder_at identity_at ranged_at above_of too_many misissued_of fault_of ended_at parts_at head_at frame_of fields_at any_frame_at
faults = record {
  stream_end = refl;
  stream_rest = refl;
  crypto_end = refl;
  first_run = refl;
  gap = refl;
  run = refl;
  second_run = refl;
  run_ecn = refl;
  many_streams_law = refl;
  too_many_law = refl;
  id_length = refl;
  id_plain = refl;
  retires = refl;
  empty_token = refl;
  numbers_cut = refl;
  bytes_cut = refl;
  rest_empty = refl;
  path_cut = refl;
  id_cut = refl;
  ranges_cut = refl;
  said = refl;
}
