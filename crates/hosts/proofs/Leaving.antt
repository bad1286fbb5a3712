-- Each row holds by computation.
-- Assumes nothing.
use mathlib.Core.Path.{refl}
use Rattle.wire.specs.Number.{number_at, field_at, values_in, big_endian, shortest, size_of, form_of}
use Rattle.ranges.specs.Ranges.{below_of, range_at, ranges_at}
use Rattle.layouts.specs.Layout.{layouts, layout_of, known}
use Rattle.layouts.specs.Body.{numbers_at, optional_at, sized_at, counted_at, remainder_at, identity_at, ranged_at}
use Rattle.fields.specs.Faults.{fault_of, above_of, too_many, misissued_of}
use Rattle.fields.specs.Parts.{ended_at, parts_at}
use Rattle.fields.specs.Heads.{head_at}
use Rattle.admission.specs.Admission.{admitted}
use Rattle.frames.specs.Fields.{frame_of, fields_at}
use Rattle.frames.specs.Reading.{frame_at}
use Rattle.halves.specs.Stream.{id_of, listed, place_of}
use Rattle.entries.specs.Entry.{final_of, reached}
use Rattle.entries.specs.Fitting.{is_fresh, entry_fits_as}
use Rattle.streams.specs.Conn.{count_of, limits_fit, handed_out_of}
use Rattle.views.specs.View.{end_of}
use Rattle.rules.specs.Rules.{rule1, rule2, rule3, rule4, rule5, ends_of, blocked_of, for_sender_of}
use Rattle.verdicts.specs.Verdict.{verdict_of, conn_heard, entry_heard, settled_of, judged_of}
use Rattle.calls.specs.Calls.{raise_of, reply_of}
use Rattle.replies.specs.Replies.{ruled_of, replied_of}
use Rattle.limits.specs.Fits.{open_fit, conn_fits, sum_to, all_to, fits}
use Rattle.steps.specs.Gate.{gate_of}
use Rattle.steps.specs.Step.{request_of, request_at, decided_of}
use Rattle.local.specs.Calling.{called_at, called_table}
use Rattle.single.specs.Single.{decided_at}
use Rattle.single.specs.Single.{took_frame_of, frame_table}
use Rattle.replies.specs.Replies as replies
use Rattle.hosts.specs.Leaving.{Leaving}

pub leaving : Leaving
unfolding number_at field_at values_in big_endian shortest size_of form_of below_of range_at ranges_at layouts layout_of known numbers_at optional_at sized_at counted_at remainder_at identity_at ranged_at fault_of above_of too_many misissued_of ended_at parts_at head_at admitted frame_of fields_at frame_at id_of listed place_of final_of reached is_fresh entry_fits_as count_of limits_fit handed_out_of end_of rule1 rule2 rule3 rule4 rule5 ends_of blocked_of for_sender_of verdict_of conn_heard entry_heard settled_of judged_of raise_of reply_of ruled_of replied_of open_fit conn_fits sum_to all_to fits gate_of request_of request_at decided_of called_at called_table decided_at took_frame_of frame_table replies.settled_of
leaving = record {
  stream_hosts = refl;
  reset_hosts = refl;
  naming_hosts = refl;
  other_hosts = refl;
  raise_hosts = refl;
  raise_numbers = refl;
  no_raise_answers = refl;
  no_raise_hosts = refl;
  handed_hosts = refl;
  handed_numbers = refl;
  handed_none = refl;
  handed_answers = refl;
}
