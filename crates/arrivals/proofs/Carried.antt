-- The bytes read back as the low bytes of the number, and E is the top of the record; so the number is recovered, and each check after that goes by it.
-- Assumes nothing.
use Prim.Native.Nat.{ℕ, ◌+◌, ◌%◌, ◌≤◌}
use mathlib.Core.Path.{◌≡◌, ◌∙◌, ap}
use mathlib.Core.Bool.{true}
use mathlib.Core.List.{List, [], ◌++◌}
use native.Mathlib.Nat.{zero-add}
use native.Mathlib.Omega.{arith}
use lib.ListN.{length, length-append, get_or-append}
use lib.IntN.{ℤ}
use borrow.Author.Tests.{le-ltb}
use Rattle.answers.specs.declared.Answer.TheVariants.{Accepted}
use Rattle.wire.specs.Number.{big_endian, spelled, Stands}
use Rattle.wire.proofs.BigEndian.{length_spelled, read_low}
use Rattle.kinds.specs.declared.Kind.{Kind}
use Rattle.kinds.specs.Kinds.{space_of}
use Rattle.numbers.specs.Numbers.{bytes_in, window_of, recovered_of}
use Rattle.headers.specs.First.{size_in}
use Rattle.records.specs.declared.Record.{Record}
use Rattle.records.specs.Marks.{test_of}
use Rattle.records.proofs.Sound.{sound_facts}
use Rattle.records.proofs.Ring.{rec_above}
use Rattle.streams.specs.declared.Conn.{Conn}
use Rattle.streams.specs.Conn.{is_open}
use Rattle.spaces.specs.declared.Records.{Records}
use Rattle.spaces.specs.Spaces.{record_of, records_fit}
use Rattle.spaces.proofs.Each.{each}
use Rattle.packets.specs.declared.Begun.{Begun}
use Rattle.packets.specs.Begin.{begin_of}
use Rattle.arrivals.specs.Checked.{numbered, OfKind}
use Rattle.arrivals.specs.Carried.{Sent, carrying, BegunAs, OnBytes}
use Rattle.arrivals.proofs.Expected.{one_above, one_such, expected}
use Rattle.arrivals.proofs.Checked.{in_order}
use Rattle.arrivals.proofs.Trusted.{trusted}
use Rattle.std.specs.Prelude.{Ok}

-- what was put in front stands there
stands : (a b : List ℕ) → Stands (a ++ b) 0 a
stands a b = record { ends = omega (arith, length-append a b); same = λ i k. rw zero-add (get_or-append a b 0 i k) }

module _ (pn first : ℕ) (payload : List ℕ) where
  abbrev n : ℕ
  n = bytes_in (size_in first)

  low_bytes : big_endian (carrying pn first payload) 0 n ≡ pn % window_of (size_in first)
  low_bytes = read_low (carrying pn first payload) 0 n pn (stands (spelled n pn) payload)

  long : length (carrying pn first payload) ≡ n + length payload
  long = length-append (spelled n pn) payload ∙ ap (λ (k : ℕ). k + length payload) (length_spelled n pn)

  module _ (acked : ℤ) (rs : Records) (kind : Kind) (fit : records_fit rs ≡ true) (sent : Sent pn acked rs first kind) where
    abbrev R : Record
    R = record_of rs (space_of kind)

    top_is : R.top ≡ sent.E
    top_is = one_such R R.top sent.E (one_above R (sound_facts R (each rs fit (space_of kind)))) sent.one_above

    recovered : recovered_of sent.E (size_in first) (big_endian (carrying pn first payload) 0 n) ≡ Ok pn
    recovered = rw low_bytes (trusted pn acked (size_in first) sent.E sent.length_is sent.receiver)

    number_is : numbered R first (carrying pn first payload) ≡ Ok pn
    number_is = rw top_is recovered

    fresh : sent.E ≤ pn → test_of R pn ≡ Accepted
    unfolding test_of
    fresh h = simp (le-ltb (pn + 8192) R.top (omega (arith, top_is)), rec_above R pn (omega (arith, top_is)))

    module _ (c : Conn) (live : is_open c.mark ≡ true) where
      abbrev B : Begun
      B = begin_of c rs true first (carrying pn first payload)

      checks : OfKind c rs first (carrying pn first payload) kind
      checks = (in_order c rs first (carrying pn first payload) live fit).of_kind kind sent.of_kind

      alone : B.answer ≡ Accepted → B.number ≡ pn
      alone e =
          let x = expected c rs true first (carrying pn first payload) e in
          let k : B.kind ≡ kind = let f = x.kind in let g = sent.of_kind in cc in
          let same : x.E ≡ sent.E = one_such R x.E sent.E (rw k at x.one_above) sent.one_above in
          let f : recovered_of sent.E (size_in first) (big_endian (carrying pn first payload) 0 n) ≡ Ok B.number = rw same at x.number in
          let g = recovered in
          cc

      begun_as : BegunAs pn c rs first kind payload
      begun_as = record {
        begun = λ new bits more. checks.goes_on (omega (arith, long)) pn number_is new bits;
        not_new = λ old. checks.not_new (omega (arith, long)) pn number_is old;
        no_other = alone;
      }

pub on_bytes : OnBytes
on_bytes = record {
  begun_as = λ pn acked c rs first kind payload live fit sent. begun_as pn first payload acked rs kind fit sent c live;
  new_behind = λ pn acked rs first kind fit sent. fresh pn first [] acked rs kind fit sent;
}
