-- The borders of the rules of a packet record hold by computation.
-- Assumes nothing.
use mathlib.Core.Path.{refl}
use Rattle.ring.specs.Bits.{bit, bit_at, unmarked}
use Rattle.ring.specs.Runs.{lowest, next_run}
use Rattle.records.specs.Found.{found_of}
use Rattle.records.specs.Marks.{recorded, none_of, sound_of, check_of}
use Rattle.records.specs.Ring.{word_of, list_of, slot_of, ring_of, with_mark, taken_of}
use Rattle.windows.specs.History.{is_among, above_all, answer_after, taken_numbers}
use Rattle.windows.specs.Borders.{Borders}

pub borders : Borders
unfolding bit bit_at unmarked recorded none_of sound_of check_of lowest next_run found_of word_of list_of slot_of ring_of with_mark taken_of is_among above_all answer_after taken_numbers
borders = record {
  new = refl;
  stray = refl;
  below_zero = refl;
  unmarked_largest = refl;
  marked_largest = refl;
  other_marked = refl;
  highest = refl;
  above_highest = refl;
  unfit_first = refl;
  in_range_law = refl;
  window = refl;
  from_zero = refl;
  passed = refl;
  refused_left = refl;
  last_slot_law = refl;
  checked = refl;
  runs = refl;
  no_runs = refl;
  over_the_end = refl;
  at_the_edge = refl;
}
