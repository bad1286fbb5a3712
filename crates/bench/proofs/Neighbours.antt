-- The two examples hold by computation.
-- Assumes nothing.
use mathlib.Core.Path.{refl}
use lib.Dec.{lit≤}
use Rattle.wire.specs.Number.{number_at, field_at, values_in, big_endian, shortest, size_of, form_of}
use Rattle.layouts.specs.Layout.{layouts, layout_of, known}
use Rattle.admission.specs.Admission.{admitted}
use Rattle.layouts.specs.Body.{numbers_at, optional_at, sized_at, counted_at, ranged_at}
use Rattle.fields.specs.Faults.{fault_of, above_of}
use Rattle.fields.specs.Parts.{ended_at, parts_at}
use Rattle.frames.specs.Fields.{frame_of, fields_at}
use Rattle.fields.specs.Heads.{head_at}
use Rattle.frames.specs.Reading.{frame_at}
use Rattle.halves.specs.Stream.{id_of, listed, place_of}
use Rattle.entries.specs.Entry.{final_of, reached}
use Rattle.streams.specs.Conn.{count_of}
use Rattle.opening.specs.Opening.{opening_of}
use Rattle.streams.specs.Conn.{limits_fit}
use Rattle.rules.specs.Rules.{rule1, rule2, rule3, rule4, rule5, ends_of}
use Rattle.views.specs.View.{end_of}
use Rattle.verdicts.specs.Verdict.{verdict_of, conn_heard, entry_heard, settled_of, judged_of}
use Rattle.limits.specs.Fits.{open_fit, conn_fits, sum_to, all_to, fits}
use Rattle.entries.specs.Fitting.{is_fresh, entry_fits_as}
use Rattle.steps.specs.Gate.{gate_of}
use Rattle.opening.specs.Opening.{opening_when, entries_of}
use Rattle.steps.specs.Step.{request_of, request_at, decided_of}
use Rattle.tables.specs.Opened.{filled_to, opened_table}
use Rattle.single.specs.Single.{decided_at}
use Rattle.single.specs.Single.{took_frame_of, frame_table}
use Rattle.steps.specs.Step.{shown_of, shown_at}
use Rattle.accounts.specs.Advertised.{credit_by, stream_credit_by, count_by, granted_by}
use Rattle.demands.specs.Hosts.{hosted, kept}
use Rattle.demands.specs.Heard.{onto, heard_after}
use Rattle.bench.specs.Neighbours.{Met, Suffers}

pub met : Met
unfolding number_at field_at values_in big_endian shortest size_of form_of layouts layout_of known admitted numbers_at optional_at sized_at counted_at ranged_at fault_of above_of frame_of ended_at parts_at fields_at head_at frame_at id_of listed place_of final_of reached count_of limits_fit opening_of rule1 rule2 rule3 rule4 rule5 ends_of end_of verdict_of conn_heard entry_heard settled_of judged_of is_fresh entry_fits_as open_fit conn_fits sum_to all_to fits gate_of opening_when entries_of request_of request_at decided_of filled_to opened_table decided_at took_frame_of frame_table hosted kept shown_of shown_at credit_by stream_credit_by count_by granted_by onto heard_after
met = record { was_hosted = record { accepted = refl; two = refl }; still_open = refl; for_all = lit≤ tt }

pub suffers : Suffers
unfolding number_at field_at values_in big_endian shortest size_of form_of layouts layout_of known admitted numbers_at optional_at sized_at counted_at ranged_at fault_of above_of frame_of ended_at parts_at fields_at head_at frame_at id_of listed place_of final_of reached count_of limits_fit opening_of rule1 rule2 rule3 rule4 rule5 ends_of end_of verdict_of conn_heard entry_heard settled_of judged_of is_fresh entry_fits_as open_fit conn_fits sum_to all_to fits gate_of opening_when entries_of request_of request_at decided_of filled_to opened_table decided_at took_frame_of frame_table hosted kept
suffers = record { before = refl; later = refl }
