-- What each frame asks holds by computation, whatever packet carries it.
-- Assumes nothing.
use mathlib.Core.Path.{refl}
use Rattle.halves.specs.Stream.{id_of, listed, place_of}
use Rattle.views.specs.View.{end_of}
use Rattle.accounts.specs.Asked.{Asked}

pub asked : Asked
unfolding id_of listed place_of end_of
asked = record {
  ends = λ kind. refl;
  without_end = λ kind. refl;
  acknowledges = refl;
  acknowledges_counts = refl;
  closes = λ kind. refl;
  others = λ kind. refl;
  end_sums = refl;
  end_highest = refl;
  end_next = refl;
  end_long = refl;
  end_longest = refl;
  end_no_length = refl;
  end_above = refl;
  end_far_above = refl;
  streams = refl;
  ids = refl;
  ids_first = refl;
  places = refl;
  placeless = refl;
  looks_at = refl;
  looks_at_place = refl;
}
