-- The borders of a text hold by computation.
-- Assumes nothing.
use mathlib.Core.Path.{refl}
use Rattle.dumps.specs.Digits.{half_of, is_half}
use Rattle.dumps.specs.Dump.{is_gap, first_of, second_of, next_of, stepped, read_of, begun_of, taken_of}
use Rattle.dumps.specs.Borders.{Borders}

pub borders : Borders
unfolding half_of is_half is_gap first_of second_of next_of stepped read_of begun_of taken_of
borders = record {
  three = refl;
  digits = refl;
  second = refl;
  others = refl;
  others_inside = refl;
  gaps = refl;
  no_gaps = refl;
  gaps_inside = refl;
  around = refl;
  wrong = refl;
  written = refl;
  left = refl;
  carried = refl;
  halves = refl;
  empty = refl;
  room = refl;
  no_room = refl;
}
