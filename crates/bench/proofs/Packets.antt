-- The borders of a packet's checks hold by computation.
-- Assumes nothing.
use mathlib.Core.Path.{refl}
use Rattle.wire.specs.Number.{big_endian}
use Rattle.numbers.specs.Numbers.{nearest_of, recovered_of}
use Rattle.ring.specs.Bits.{bit, bit_at, unmarked}
use Rattle.records.specs.Marks.{recorded, none_of, test_of, sound_of}
use Rattle.records.specs.Ring.{word_of, list_of, slot_of, ring_of, with_mark, taken_of}
use Rattle.headers.specs.First.{header_of, size_in, reserved_of}
use Rattle.packets.specs.Begin.{refused_of, closes_of, tested_of, in_space_of}
use Rattle.bench.specs.Packets.{Packets}

pub packets : Packets
unfolding big_endian nearest_of recovered_of bit bit_at recorded none_of test_of unmarked sound_of word_of list_of slot_of ring_of with_mark taken_of header_of size_in reserved_of refused_of closes_of tested_of in_space_of
packets = record { kinds = refl; kinds_below = refl; kinds_said = refl; sizes = refl; reserved = refl; order = refl }
