-- The borders of the rules of packet numbers hold by computation.
-- Assumes nothing.
use mathlib.Core.Path.{refl}
use Rattle.numbers.specs.Numbers.{nearest_of, recovered_of, length_after, length_of}
use Rattle.numbers.specs.Borders.{Recovery, Sending}

pub recovery : Recovery
unfolding nearest_of recovered_of
recovery = record {
  raised_not_1 = refl;
  raised_1 = refl;
  raised_not_2 = refl;
  raised_2 = refl;
  raised_not_3 = refl;
  raised_3 = refl;
  raised_not_4 = refl;
  raised_4 = refl;
  raised_highest = refl;
  raised_no_higher = refl;
  lowered_not_1 = refl;
  lowered_1 = refl;
  lowered_not_2 = refl;
  lowered_2 = refl;
  lowered_not_3 = refl;
  lowered_3 = refl;
  lowered_not_4 = refl;
  lowered_4 = refl;
  lowered_no_lower = refl;
  above_1 = refl;
  within_1 = refl;
  above_4 = refl;
  within_4 = refl;
}

pub sending : Sending
unfolding length_after length_of
sending = record {
  before_any = refl;
  after_one = refl;
  highest = refl;
  above_highest = refl;
  below_none = refl;
  one_below = refl;
  equal = refl;
  one_above = refl;
}
