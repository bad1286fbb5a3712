-- The borders of splitting hold by computation.
-- Assumes nothing.
use mathlib.Core.Path.{refl}
use Rattle.wire.specs.Number.{big_endian, field_at, values_in, number_at}
use Rattle.invariants.specs.Invariant.{bytes_after, invariant_of}
use Rattle.datagram.specs.Split.{negotiation_of, retry_of, numbered_of, initial_of, version_one_of, long_of, short_of, next_of}
use Rattle.splits.specs.Borders.{Borders}

pub borders : Borders
unfolding big_endian field_at values_in number_at bytes_after invariant_of negotiation_of retry_of numbered_of initial_of version_one_of long_of short_of next_of
borders = record {
  done = refl;
  torn = refl;
  torn_zero = refl;
  torn_one = refl;
  not_versions = refl;
  versions = refl;
  long_ids = refl;
  types = refl;
  fixed = refl;
  ids = refl;
  ids_retry = refl;
  ids_initial = refl;
  tokens = refl;
  lengths = refl;
  lengths_initial = refl;
  lengths_handshake = refl;
  lengths_padded = refl;
  retries = refl;
  others = refl;
  shorts = refl;
}
