-- Each row holds by computation.
-- Assumes nothing.
use mathlib.Core.Path.{refl}
use Rattle.wire.specs.Number.{big_endian, field_at, values_in, number_at, spelled, form_of, size_of, bytes_of}
use Rattle.wire.specs.Writing.{writes}
use Rattle.row.specs.Row.{in_range, bytes_all, row_draft}
use Rattle.ranges.specs.Listed.{listed, fits}
use Rattle.layouts.specs.Layout.{layouts, layout_of}
use Rattle.fields.specs.Faults.{above_of, too_many, misissued_of, fault_of}
use Rattle.contents.specs.Parts.{stream_type, way_type}
use Rattle.contents.specs.Content.{inside_of}
use Rattle.contents.specs.Taken.{takes}
use Rattle.sizes.specs.Spelled.{four_bytes, spelled_frame, frame_draft}
use Rattle.ring.specs.Bits.{bit, bit_at, unmarked}
use Rattle.ring.specs.Runs.{lowest, next_run, after_run, runs_down}
use Rattle.records.specs.Marks.{recorded, none_of, sound_of}
use Rattle.acks.specs.Ack.{ranges_of, frame_of, ack_of, ack_draft}
use Rattle.bench.specs.Writers.{AckWritten, FramesWritten, FramesRefused}

pub ack_written : AckWritten
unfolding big_endian field_at values_in number_at spelled form_of size_of bytes_of writes in_range bytes_all row_draft bit bit_at unmarked lowest next_run after_run runs_down recorded none_of sound_of ranges_of frame_of ack_of ack_draft
ack_written = record {
  bytes = refl;
  delayed = refl;
  room = refl;
  no_room = refl;
  no_room_there = refl;
  unfit_first = refl;
  unfit = refl;
  nothing_then = refl;
  unwritable_then = refl;
  no_room_last = refl;
  runs_32 = refl;
  runs_33 = refl;
  runs = refl;
  over_words = refl;
}

pub frames_written : FramesWritten
unfolding big_endian field_at values_in number_at spelled form_of size_of bytes_of writes in_range bytes_all row_draft listed fits layouts layout_of above_of too_many misissued_of fault_of stream_type way_type inside_of takes four_bytes spelled_frame frame_draft
frames_written = record {
  row_order = refl;
  row_bytes = refl;
  row_room = refl;
  stream_0a = refl;
  stream_0b = refl;
  stream_0e = refl;
  stream_0f = refl;
  stream_empty = refl;
  plain = refl;
  limits = refl;
  blocked = refl;
  counted = refl;
  paths = refl;
  new_connection_id = refl;
  ack = refl;
  ack_ecn = refl;
}

pub frames_refused : FramesRefused
unfolding big_endian field_at values_in number_at spelled form_of size_of bytes_of writes in_range bytes_all row_draft listed fits layouts layout_of above_of too_many misissued_of fault_of stream_type way_type inside_of takes four_bytes spelled_frame frame_draft
frames_refused = record {
  values = refl;
  counts = refl;
  ends = refl;
  streams = refl;
  most_streams = refl;
  identities = refl;
  retires = refl;
  tokens = refl;
  runs = refl;
  outside = refl;
  unwritable_first = refl;
  frame_room = refl;
}
