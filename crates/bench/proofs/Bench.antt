-- The bench examples hold by computation.
-- Assumes nothing.
use mathlib.Core.Path.{refl}
use Rattle.wire.specs.Number.{number_at, field_at, values_in, big_endian, shortest, size_of, form_of}
use Rattle.layouts.specs.Layout.{layouts, layout_of, known}
use Rattle.admission.specs.Admission.{admitted}
use Rattle.layouts.specs.Body.{numbers_at, optional_at, sized_at, counted_at, ranged_at}
use Rattle.fields.specs.Faults.{fault_of, above_of}
use Rattle.fields.specs.Parts.{ended_at, parts_at}
use Rattle.frames.specs.Fields.{frame_of, fields_at}
use Rattle.fields.specs.Heads.{head_at}
use Rattle.frames.specs.Reading.{frame_at}
use Rattle.numbers.specs.Numbers.{nearest_of, recovered_of}
use Rattle.ring.specs.Bits.{bit, bit_at, unmarked}
use Rattle.records.specs.Marks.{recorded, none_of, test_of, sound_of}
use Rattle.records.specs.Ring.{word_of, list_of, slot_of, ring_of, with_mark, taken_of}
use Rattle.halves.specs.Stream.{id_of, listed, place_of}
use Rattle.entries.specs.Entry.{final_of, reached}
use Rattle.streams.specs.Conn.{count_of}
use Rattle.opening.specs.Opening.{opening_of}
use Rattle.streams.specs.Conn.{limits_fit}
use Rattle.rules.specs.Rules.{rule1, rule2, rule3, rule4, rule5, ends_of}
use Rattle.views.specs.View.{end_of}
use Rattle.verdicts.specs.Verdict.{verdict_of, conn_heard, entry_heard, settled_of, judged_of}
use Rattle.limits.specs.Fits.{open_fit, conn_fits, sum_to, all_to, fits}
use Rattle.entries.specs.Fitting.{is_fresh, entry_fits_as}
use Rattle.steps.specs.Gate.{gate_of}
use Rattle.opening.specs.Opening.{opening_when, entries_of}
use Rattle.steps.specs.Step.{request_of, request_at, decided_of}
use Rattle.tables.specs.Opened.{filled_to, opened_table}
use Rattle.single.specs.Single.{decided_at}
use Rattle.single.specs.Single.{took_frame_of, frame_table}
use Rattle.demands.specs.Hosts.{hosted}
use Rattle.bench.specs.Bench.{taken, Bench}

pub bench : Bench
unfolding number_at field_at values_in big_endian shortest size_of form_of layouts layout_of known admitted numbers_at optional_at sized_at counted_at ranged_at fault_of above_of frame_of ended_at parts_at fields_at head_at frame_at nearest_of recovered_of bit bit_at recorded none_of test_of unmarked sound_of word_of list_of slot_of ring_of with_mark taken_of id_of listed place_of final_of reached count_of limits_fit opening_of rule1 rule2 rule3 rule4 rule5 ends_of end_of verdict_of conn_heard entry_heard settled_of judged_of is_fresh entry_fits_as open_fit conn_fits sum_to all_to fits gate_of opening_when entries_of request_of request_at decided_of filled_to opened_table decided_at took_frame_of frame_table hosted taken
bench = record {
  small_is = refl;
  small_two = refl;
  small_four = refl;
  c1 = refl;
  c2 = refl;
  c3 = refl;
  c4 = refl;
  c5 = refl;
  c6 = refl;
  c7 = refl;
  c8 = refl;
  c9_3 = refl;
  c9_1 = refl;
  c10 = refl;
  c11_8 = refl;
  c11_9 = refl;
  c12 = refl;
  c13_1 = refl;
  c13_0 = refl;
  c14 = refl;
  c15 = refl;
  c16_0 = refl;
  c16_1 = refl;
}
