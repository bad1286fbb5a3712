-- The examples of truncated numbers hold by computation.
-- Assumes nothing.
use Prim.Native.Nat.{ℕ, ◌+◌, ◌≤◌, ◌<◌}
use mathlib.Core.Bool.{true}
use mathlib.Core.Path.{◌≡◌, refl, ap}
use native.Mathlib.Omega.{arith}
use lib.IntN.{pos}
use Rattle.wire.specs.Number.{big_endian, spelled}
use Rattle.ring.specs.Bits.{bit, bit_at, unmarked}
use Rattle.numbers.specs.declared.Size.TheVariants.{One}
use Rattle.numbers.specs.Numbers.{nearest_of, recovered_of, length_after, length_of}
use Rattle.headers.specs.First.{header_of, size_in, reserved_of}
use Rattle.records.specs.Marks.{recorded, test_of, sound_of}
use Rattle.records.proofs.Sound.{sound_facts}
use Rattle.spaces.specs.Spaces.{records_fit}
use Rattle.packets.specs.Begin.{refused_of, closes_of, tested_of, in_space_of, begin_of}
use Rattle.arrivals.specs.Expected.{OneAbove}
use Rattle.arrivals.specs.Trusted.{Receiver}
use Rattle.arrivals.specs.Trusted.Receiver.{Behind, Ahead}
use Rattle.arrivals.specs.Borders.{only, Borders}
use Rattle.arrivals.proofs.Expected.{one_above}
use Rattle.std.specs.Prelude.{Result, Ok, Err}
use Rattle.answers.specs.declared.Answer.{Answer}

-- the number that was recovered
abbrev value : Result ℕ Answer → ℕ
value (Ok n) = n
value (Err answer) = 0

-- a receiver stands below the acknowledged number, or half of 256 or more ahead
beyond : (E : ℕ) → (10001 ≤ E → E < 10256 → ⊥) → Receiver 10128 (pos 10000) One E → ⊥
beyond E f (Behind a b) = f (omega arith) (omega arith)
beyond E f (Ahead a b) = f (omega arith) (omega arith)

-- the record of one number has it for its largest
largest : (m : ℕ) → sound_of (only m) ≡ true → OneAbove (only m) (m + 1)
largest m e = one_above (only m) (sound_facts (only m) e)

pub borders : Borders
unfolding big_endian spelled bit bit_at unmarked nearest_of recovered_of length_after length_of header_of size_in reserved_of recorded test_of sound_of records_fit refused_of closes_of tested_of in_space_of begin_of
borders = record {
  inside = (Behind (omega arith) (omega arith), Behind (omega arith) (omega arith), Ahead (omega arith) (omega arith), Ahead (omega arith) (omega arith));
  outside = (beyond 10000 (λ a b. omega arith), beyond 10256 (λ a b. omega arith));
  from_none = Behind (omega arith) (omega arith);
  one_byte = refl;
  behind = refl;
  below_acked = refl;
  ahead = refl;
  half_ahead = refl;
  half_misleads = λ e. let f : ◌≡◌ {A = ℕ} 10384 10128 = ap value e in absurd (omega arith);
  packets = refl;
  carried = refl;
  met = (
    record { of_kind = refl; length_is = refl; E = 10001; one_above = largest 10000 refl; receiver = Behind (omega arith) (omega arith) },
    record { of_kind = refl; length_is = refl; E = 10255; one_above = largest 10254 refl; receiver = Ahead (omega arith) (omega arith) },
  );
  packet_again = refl;
  first = (refl, refl);
  last = (refl, refl);
  two_bytes = refl;
  two_behind = refl;
  two_ahead = refl;
}
