-- Each row holds by computation.
-- Assumes nothing.
use mathlib.Core.Path.{refl}
use Rattle.wire.specs.Number.{number_at, field_at, values_in, big_endian, shortest, size_of, form_of}
use Rattle.ranges.specs.Ranges.{below_of, range_at, ranges_at}
use Rattle.layouts.specs.Layout.{layouts, layout_of, known}
use Rattle.layouts.specs.Body.{numbers_at, optional_at, sized_at, counted_at, remainder_at, identity_at, ranged_at}
use Rattle.fields.specs.Faults.{fault_of, above_of, too_many, misissued_of}
use Rattle.fields.specs.Parts.{ended_at, parts_at}
use Rattle.fields.specs.Heads.{head_at}
use Rattle.admission.specs.Admission.{admitted}
use Rattle.frames.specs.Fields.{frame_of, fields_at}
use Rattle.frames.specs.Reading.{frame_at}
use Rattle.halves.specs.Stream.{id_of, listed, place_of}
use Rattle.entries.specs.Entry.{final_of, reached}
use Rattle.entries.specs.Fitting.{is_fresh, entry_fits_as}
use Rattle.streams.specs.Conn.{count_of, limits_fit}
use Rattle.views.specs.View.{end_of}
use Rattle.rules.specs.Rules.{rule1, rule2, rule3, rule4, rule5, ends_of, blocked_of, for_sender_of}
use Rattle.verdicts.specs.Verdict.{verdict_of, conn_heard, entry_heard, settled_of, judged_of}
use Rattle.limits.specs.Fits.{open_fit, conn_fits, sum_to, all_to, fits}
use Rattle.steps.specs.Gate.{gate_of}
use Rattle.steps.specs.Step.{request_of, request_at, decided_of, shown_of, shown_at}
use Rattle.single.specs.Single.{decided_at}
use Rattle.single.specs.Single.{took_frame_of, frame_table}
use Rattle.hosts.specs.Showing.{Showing}

pub showing : Showing
unfolding number_at field_at values_in big_endian shortest size_of form_of below_of range_at ranges_at layouts layout_of known numbers_at optional_at sized_at counted_at remainder_at identity_at ranged_at fault_of above_of too_many misissued_of ended_at parts_at head_at admitted frame_of fields_at frame_at id_of listed place_of final_of reached is_fresh entry_fits_as count_of limits_fit end_of rule1 rule2 rule3 rule4 rule5 ends_of blocked_of for_sender_of verdict_of conn_heard entry_heard settled_of judged_of open_fit conn_fits sum_to all_to fits gate_of request_of request_at decided_of shown_of shown_at decided_at took_frame_of frame_table
showing = record {
  stream = refl;
  stream_left = refl;
  inside = refl;
  close = refl;
  ack = refl;
  retire = refl;
  identity_early = refl;
  credit = refl;
  count = refl;
  state = refl;
  size = refl;
  not_handed_out = refl;
  field = refl;
  padded = refl;
  unknown = refl;
  not_admitted = refl;
  retire_early = refl;
  unreadable = refl;
  outside = refl;
  closed = refl;
  does_not_fit = refl;
}
