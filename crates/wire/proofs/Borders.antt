-- The borders of the rules of numbers on the wire hold by computation.
-- Assumes nothing.
use mathlib.Core.Path.{refl}
use Rattle.wire.specs.Number.{big_endian, field_at, values_in, number_at, spelled, form_of, size_of, bytes_of}
use Rattle.wire.specs.Writing.{writes, number_draft}
use Rattle.wire.specs.Borders.{Borders}

pub borders : Borders
unfolding big_endian field_at values_in number_at spelled form_of size_of bytes_of writes number_draft
borders = record {
  sizes = refl;
  bytes_1 = refl;
  bytes_2 = refl;
  bytes_4 = refl;
  bytes_8 = refl;
  reads_1 = refl;
  reads_2 = refl;
  reads_4 = refl;
  reads_8 = refl;
  reads_later = refl;
  above_range = refl;
  no_room = refl;
  room = refl;
}
