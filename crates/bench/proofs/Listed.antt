-- The listings hold by computation.
-- Assumes nothing.
use mathlib.Core.Path.{refl}
use Rattle.text.specs.Decimal.{digits_of, decimal_of}
use Rattle.columns.specs.Row.{field_of, type_text, row_of, closed_text}
use Rattle.report.specs.Listing.{too_long, heading_of, type_shown, taken_row_of, next_in, after_of, last_of, ending_of}
use Rattle.pages.specs.Pages.{small_of, with_row, one_more_of, page_from, page_of}
use Rattle.wire.specs.Writing.{writes}
use Rattle.wire.specs.Number.{number_at, field_at, values_in, big_endian, shortest, size_of, form_of}
use Rattle.layouts.specs.Layout.{layouts, layout_of, known}
use Rattle.admission.specs.Admission.{admitted}
use Rattle.layouts.specs.Body.{numbers_at, optional_at, sized_at, counted_at, ranged_at}
use Rattle.fields.specs.Faults.{fault_of, above_of}
use Rattle.fields.specs.Parts.{ended_at, parts_at}
use Rattle.frames.specs.Fields.{frame_of, fields_at}
use Rattle.fields.specs.Heads.{head_at}
use Rattle.frames.specs.Reading.{frame_at}
use Rattle.halves.specs.Stream.{id_of, listed, place_of}
use Rattle.entries.specs.Entry.{final_of, reached}
use Rattle.streams.specs.Conn.{count_of}
use Rattle.opening.specs.Opening.{opening_of}
use Rattle.streams.specs.Conn.{limits_fit}
use Rattle.rules.specs.Rules.{rule1, rule2, rule3, rule4, rule5, ends_of}
use Rattle.views.specs.View.{end_of}
use Rattle.verdicts.specs.Verdict.{verdict_of, conn_heard, entry_heard, settled_of, judged_of}
use Rattle.limits.specs.Fits.{open_fit, conn_fits, sum_to, all_to, fits}
use Rattle.entries.specs.Fitting.{is_fresh, entry_fits_as}
use Rattle.steps.specs.Gate.{gate_of}
use Rattle.opening.specs.Opening.{opening_when, entries_of}
use Rattle.steps.specs.Step.{request_of, request_at, decided_of, shown_of, shown_at}
use Rattle.tables.specs.Opened.{filled_to, opened_table}
use Rattle.single.specs.Single.{decided_at}
use Rattle.single.specs.Single.{took_frame_of, frame_table}
use Rattle.bench.specs.Listed.{Listed}

pub example : Listed
unfolding number_at field_at values_in big_endian shortest size_of form_of layouts layout_of known admitted numbers_at optional_at sized_at counted_at ranged_at fault_of above_of frame_of ended_at parts_at fields_at head_at frame_at id_of listed place_of final_of reached count_of limits_fit opening_of rule1 rule2 rule3 rule4 rule5 ends_of end_of verdict_of conn_heard entry_heard settled_of judged_of is_fresh entry_fits_as open_fit conn_fits sum_to all_to fits gate_of opening_when entries_of request_of request_at decided_of filled_to opened_table decided_at took_frame_of frame_table shown_of shown_at writes digits_of decimal_of field_of type_text row_of type_shown taken_row_of next_in after_of closed_text ending_of small_of with_row one_more_of page_from page_of last_of too_long heading_of
example = record {
  example = refl;
  stays_open = refl;
  none = refl;
  by_peer = refl;
  by_application = refl;
  wider = refl;
  unreadable = refl;
  unreadable_later = refl;
  unread_fields = refl;
  unknown = refl;
  not_admitted = refl;
  not_shortest = refl;
  page = refl;
  page_full = refl;
  page_waits = refl;
  page_next = refl;
  too_long_law = refl;
  heading = refl;
  sole_line = refl;
  goes_on_law = refl;
  last = refl;
}
