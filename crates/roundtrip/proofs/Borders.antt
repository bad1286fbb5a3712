-- The borders of writing frames hold by computation.
-- Assumes nothing.
use mathlib.Core.Path.{refl}
use Rattle.wire.specs.Number.{big_endian, field_at, values_in, number_at, spelled, form_of, size_of, bytes_of}
use Rattle.wire.specs.Writing.{writes, number_draft}
use Rattle.row.specs.Row.{in_range, bytes_all}
use Rattle.ranges.specs.Listed.{listed, fits}
use Rattle.layouts.specs.Layout.{layouts, layout_of}
use Rattle.fields.specs.Faults.{above_of, too_many, misissued_of, fault_of}
use Rattle.contents.specs.Parts.{stream_type, way_type}
use Rattle.contents.specs.Content.{inside_of}
use Rattle.contents.specs.Taken.{takes}
use Rattle.sizes.specs.Spelled.{four_bytes, spelled_frame, frame_draft}
use Rattle.sizes.specs.Measure.{measured_of}
use Rattle.bodies.specs.Bodies.{identity_draft, place_after}
use Rattle.roundtrip.specs.Borders.{Borders}

pub borders : Borders
unfolding big_endian field_at values_in number_at spelled form_of size_of bytes_of writes number_draft in_range bytes_all listed fits layouts layout_of above_of too_many misissued_of fault_of stream_type way_type inside_of takes four_bytes spelled_frame frame_draft measured_of identity_draft place_after
borders = record {
  highest = refl;
  outside = refl;
  measured = refl;
  measured_said = refl;
  longest_id = refl;
  places = refl;
}
