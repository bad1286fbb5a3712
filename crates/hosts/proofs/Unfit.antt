-- Each clause holds by computation.
-- Assumes nothing.
use mathlib.Core.Path.{refl}
use Rattle.wire.specs.Number.{number_at, field_at, values_in, big_endian, shortest, size_of, form_of}
use Rattle.ranges.specs.Ranges.{below_of, range_at, ranges_at}
use Rattle.layouts.specs.Layout.{layouts, layout_of, known}
use Rattle.layouts.specs.Body.{numbers_at, optional_at, sized_at, counted_at, remainder_at, identity_at, ranged_at}
use Rattle.fields.specs.Faults.{fault_of, above_of, too_many, misissued_of}
use Rattle.fields.specs.Parts.{ended_at, parts_at}
use Rattle.fields.specs.Heads.{head_at}
use Rattle.admission.specs.Admission.{admitted}
use Rattle.frames.specs.Fields.{frame_of, fields_at}
use Rattle.frames.specs.Reading.{frame_at}
use Rattle.numbers.specs.Numbers.{nearest_of, recovered_of}
use Rattle.ring.specs.Bits.{bit, bit_at, unmarked}
use Rattle.records.specs.Marks.{recorded, none_of, test_of, sound_of}
use Rattle.records.specs.Ring.{word_of, list_of, slot_of, ring_of, with_mark, taken_of}
use Rattle.halves.specs.Stream.{id_of, listed, place_of}
use Rattle.entries.specs.Entry.{final_of, reached}
use Rattle.entries.specs.Fitting.{is_fresh, entry_fits_as}
use Rattle.streams.specs.Conn.{count_of, limits_fit, handed_out_of}
use Rattle.opening.specs.Opening.{opening_of, opening_when, entries_of}
use Rattle.views.specs.View.{end_of}
use Rattle.rules.specs.Rules.{rule1, rule2, rule3, rule4, rule5, ends_of, blocked_of, for_sender_of}
use Rattle.verdicts.specs.Verdict.{verdict_of, conn_heard, entry_heard, settled_of, judged_of}
use Rattle.calls.specs.Calls.{raise_of, reply_of}
use Rattle.replies.specs.Replies.{ruled_of, replied_of}
use Rattle.limits.specs.Fits.{open_fit, conn_fits, sum_to, all_to, fits}
use Rattle.headers.specs.First.{header_of, size_in, reserved_of}
use Rattle.spaces.specs.Spaces.{records_fit, recorded_of}
use Rattle.packets.specs.Begin.{refused_of, closes_of, tested_of, in_space_of, begin_of}
use Rattle.steps.specs.Gate.{gate_of}
use Rattle.steps.specs.Step.{request_of, request_at, decided_of}
use Rattle.tables.specs.Opened.{filled_to, opened_table}
use Rattle.local.specs.Calling.{called_at, called_table}
use Rattle.walks.specs.Walk.{walk_from}
use Rattle.single.specs.Single.{decided_at}
use Rattle.endings.specs.Finish.{finish_of}
use Rattle.receive.specs.Taking.{took_of, took_table}
use Rattle.single.specs.Single.{took_frame_of, frame_table}
use Rattle.replies.specs.Replies as replies
use Rattle.hosts.specs.Unfit.{Unfit}

pub unfit : Unfit
unfolding number_at field_at values_in big_endian shortest size_of form_of below_of range_at ranges_at layouts layout_of known numbers_at optional_at sized_at counted_at remainder_at identity_at ranged_at fault_of above_of too_many misissued_of ended_at parts_at head_at admitted frame_of fields_at frame_at nearest_of recovered_of bit bit_at unmarked recorded none_of test_of sound_of word_of list_of slot_of ring_of with_mark taken_of id_of listed place_of final_of reached is_fresh entry_fits_as count_of limits_fit handed_out_of opening_of opening_when entries_of end_of rule1 rule2 rule3 rule4 rule5 ends_of blocked_of for_sender_of verdict_of conn_heard entry_heard settled_of judged_of raise_of reply_of ruled_of replied_of open_fit conn_fits sum_to all_to fits header_of size_in reserved_of records_fit recorded_of refused_of closes_of tested_of in_space_of begin_of gate_of request_of request_at decided_of filled_to opened_table called_at called_table decided_at walk_from finish_of took_frame_of frame_table took_of took_table replies.settled_of
unfit = record {
  ends = refl;
  sizes = refl;
  far_sizes = refl;
  unopened_credits = refl;
  unopened_ends = refl;
  unopened_sizes = refl;
  unopened_borders = refl;
  open_ones = refl;
  totals = refl;
  far_sum = refl;
  total_within = refl;
  ceiling_credit = refl;
  ceiling_counts = refl;
  ceiling_initial = refl;
  ceiling_entries = refl;
  ceiling_ours = refl;
  more_open = refl;
  not_192 = refl;
  opening_192 = refl;
  accepted = refl;
  refused = refl;
  same_hosts = refl;
  same_records = refl;
  handing_out = refl;
  far_numbers = refl;
  no_numbers = refl;
  odd_marks = refl;
  records_fit_law = refl;
  records_stray = refl;
  records_unmarked = refl;
  records_above = refl;
  records_same = refl;
  records_kept = refl;
}
