-- The clauses of 120 hold by computation.
-- Assumes nothing.
use mathlib.Core.Path.{refl}
use Rattle.entries.specs.Entry.{final_of}
use Rattle.entries.specs.Fitting.{is_fresh, entry_fits_as}
use Rattle.streams.specs.Conn.{count_of, limits_fit}
use Rattle.limits.specs.Fits.{open_fit, conn_fits, sum_to, all_to, fits, summed_of, concluded_of}
use Rattle.limits.specs.Rest.{opened_in, rest_of}
use Rattle.accounts.specs.History.{list_to, opened}
use Rattle.accounts.specs.Fitting.{Fitting}

pub fitting : Fitting
unfolding final_of is_fresh entry_fits_as count_of limits_fit open_fit conn_fits sum_to all_to fits summed_of concluded_of opened_in rest_of list_to opened
fitting = record {
  ceilings = refl;
  ceilings_alone = refl;
  open_most = refl;
  open_above = refl;
  open_fits = refl;
  total_within = refl;
  mark_free = refl;
  next_free = refl;
  end_within = refl;
  size_same = refl;
  credit_within = refl;
  credit_unopened = refl;
  unopened = refl;
  unopened_end = refl;
  unopened_size = refl;
  open_credit = refl;
  open_end = refl;
  open_size = refl;
  open_empty = refl;
  open_last = refl;
  sums = refl;
  sums_unfit = refl;
  sums_unopened = refl;
  concludes = refl;
  concludes_conn = refl;
  concludes_above = refl;
  opened_in_law = refl;
  rest = refl;
  rest_none = refl;
  rest_sum = refl;
  rest_credit = refl;
  rest_unfit = refl;
  parts = refl;
  whole = refl;
  whole_short = refl;
  whole_total = refl;
  whole_entries = refl;
  whole_conn = refl;
}
