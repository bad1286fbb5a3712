-- The figures hold by computation.
-- Assumes nothing.
use mathlib.Core.Path.{refl}
use Rattle.wire.specs.Number.{big_endian, field_at, values_in, number_at, form_of, size_of, shortest}
use Rattle.ranges.specs.Ranges.{below_of, range_at, ranges_at}
use Rattle.ranges.specs.Walk.{first_of, step_of}
use Rattle.layouts.specs.Layout.{layouts, layout_of, known}
use Rattle.layouts.specs.Body.{optional_at, numbers_at, sized_at, counted_at, remainder_at, identity_at, ranged_at}
use Rattle.fields.specs.Faults.{above_of, too_many, misissued_of, fault_of}
use Rattle.fields.specs.Parts.{ended_at, parts_at}
use Rattle.fields.specs.Heads.{head_at}
use Rattle.frames.specs.Fields.{frame_of, fields_at}
use Rattle.frames.specs.Reading.{any_frame_at}
use Rattle.figures.specs.Figures.{Figures}

pub figures : Figures
unfolding big_endian field_at values_in number_at form_of size_of shortest below_of range_at ranges_at first_of step_of layouts layout_of known optional_at numbers_at sized_at counted_at remainder_at identity_at ranged_at above_of too_many misissued_of fault_of ended_at parts_at head_at frame_of fields_at any_frame_at
figures = record {
  padding = refl;
  ping = refl;
  ack = refl;
  runs = refl;
  first_run = refl;
  next_run = refl;
  no_run = refl;
  ack_ecn = refl;
  reset_stream = refl;
  stop_sending = refl;
  crypto = refl;
  new_token = refl;
  stream_08 = refl;
  stream_09 = refl;
  stream_0a = refl;
  stream_0b = refl;
  stream_0c = refl;
  stream_0d = refl;
  stream_0e = refl;
  stream_0f = refl;
  max_data = refl;
  max_stream_data = refl;
  max_streams_12 = refl;
  max_streams_13 = refl;
  data_blocked = refl;
  stream_data_blocked = refl;
  streams_blocked_16 = refl;
  streams_blocked_17 = refl;
  new_connection_id = refl;
  retire_connection_id = refl;
  path_challenge = refl;
  path_response = refl;
  connection_close = refl;
  application_close = refl;
  handshake_done = refl;
  longer = refl;
  inside = refl;
  apart = refl;
  bodies_outside = refl;
  no_layout = refl;
}
