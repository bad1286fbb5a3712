-- The checks before the frames go one after the other, and only the last leaves an acceptance, with the number that was recovered from the top of the record; and the top of a record that fits is one above its largest number.
-- Assumes nothing.
use Prim.Native.Nat.{ℕ, ◌+◌, ◌-◌, ◌^◌, ◌<◌}
use mathlib.Core.Path.{◌≡◌, refl, sym, ◌∙◌, ap}
use mathlib.Core.Bool.{true, not, ◌&&◌, true≢false, and-eq-true_iff}
use mathlib.Core.List.{List}
use native.Mathlib.Omega.{arith}
use lib.ListN.{length}
use lib.Dec.{ltb, leb, eqb}
use borrow.Author.Tests.{not-true, not-false, ltb-true, leb-false, eq-eqb}
use Rattle.answers.specs.Answers.{accepts}
use Rattle.answers.specs.declared.Answer.{Answer}
use Rattle.answers.specs.declared.Answer.TheVariants.{Accepted, NoPacket, NoSuchNumber}
use Rattle.answers.proofs.Choice.{holds, below_or_not}
use Rattle.answers.proofs.Accepts.{accepts_true}
use Rattle.answers.proofs.Distinct.{impossible}
use Rattle.wire.specs.Number.{big_endian}
use Rattle.kinds.specs.declared.Kind.{Kind}
use Rattle.numbers.specs.Numbers.{bytes_in, window_of, nearest_of, recovered_of}
use Rattle.numbers.specs.declared.Size.{Size}
use Rattle.headers.specs.First.{header_of, size_in, reserved_of}
use Rattle.ring.specs.Bits.{bit_at}
use Rattle.records.specs.declared.Record.{Record}
use Rattle.records.specs.Marks.{recorded, test_of, sound_of, Sound}
use Rattle.records.proofs.Sound.{sound_facts}
use Rattle.records.proofs.Ring.{rec_in, rec_above}
use Rattle.streams.specs.declared.Conn.{Conn}
use Rattle.kinds.specs.declared.Space.{Space}
use Rattle.streams.specs.Conn.{is_open}
use Rattle.kinds.specs.Kinds.{space_of}
use Rattle.spaces.specs.declared.Records.{Records}
use Rattle.spaces.specs.Spaces.{record_of, records_fit}
use Rattle.spaces.proofs.Each.{each}
use Rattle.packets.specs.declared.Begun.{Begun}
use Rattle.packets.specs.Begin.{refused_of, closes_of, tested_of, with_recovered, in_space_of, with_kind, begin_of}
use Rattle.arrivals.specs.Expected.{OneAbove, Numbered, Expected}
use Rattle.std.specs.Prelude.{Option, Some, None, Result, Ok, Err}

-- ---- the top of a record that fits

pub below_top : (R : Record) (m : ℕ) → recorded R m ≡ true → m < R.top
unfolding recorded
below_top R m e = ltb-true m R.top ((and-eq-true_iff (ltb m R.top) (leb R.top (m + 8192) && eqb (bit_at R.words m) 1)).0 e).0

pub one_above : (R : Record) → Sound R → OneAbove R R.top
one_above R s = record {
  above_all = below_top R;
  is_recorded = λ p. rec_in R (R.top - 1) (omega arith) (omega arith) ∙ eq-eqb _ 1 (s.last p);
  if_none = λ z m. rec_above R m (omega (arith, z));
}

-- there is one number above the largest recorded
pub one_such : (R : Record) (D E : ℕ) → OneAbove R D → OneAbove R E → D ≡ E
one_such R D E d e =
    below_or_not D E (λ l. absurd (omega (arith, d.above_all (E - 1) (e.is_recorded (omega arith))))) (λ l.
    below_or_not E D (λ m. absurd (omega (arith, e.above_all (D - 1) (d.is_recorded (omega arith))))) (λ m. omega arith))

-- ---- the checks one after the other

-- no number is no acceptance
no_number : (E t : ℕ) (size : Size) (a : Answer) → recovered_of E size t ≡ Err a → a ≡ Accepted → ⊥
unfolding recovered_of
no_number E t size a = holds (λ (r : Result ℕ Answer). r ≡ Err a → a ≡ Accepted → ⊥) (ltb (nearest_of E (window_of size) t) (2 ^ 62)) (Ok _) (Err NoSuchNumber) (λ b q e. impossible cc) (λ b q e. impossible cc)

module _ (c : Conn) (rs : Records) (first : ℕ) (s : List ℕ) (sound : (space : Space) → sound_of (record_of rs space) ≡ true) where
  abbrev Passes : Begun → Type 0
  Passes begun = begun.answer ≡ Accepted → Numbered rs first s begun

  abbrev n : ℕ
  n = bytes_in (size_in first)

  -- a number that was recovered
  tested : (kind : Kind) (number : ℕ) → header_of first ≡ Some kind → recovered_of (record_of rs (space_of kind)).top (size_in first) (big_endian s 0 n) ≡ Ok number
      → Passes (tested_of c (test_of (record_of rs (space_of kind)) number) kind number first n (length s))
  unfolding tested_of refused_of closes_of
  tested kind number h r =
      let R = record_of rs (space_of kind) in
      holds Passes (not (accepts (test_of R number))) _ _ (λ t e. absurd (true≢false (sym (ap accepts e) ∙ not-true _ t))) (λ t.
      holds Passes (reserved_of first) _ _ (λ b e. impossible cc) (λ b.
      holds Passes (leb (length s) n) _ _ (λ l e. impossible cc) (λ l e. record {
        kind = h;
        there = leb-false (length s) n l;
        behind = refl;
        E = R.top;
        one_above = one_above R (sound_facts R (sound (space_of kind)));
        number = r;
        new = accepts_true _ (not-false _ t);
      })))

  in_space : (kind : Kind) → header_of first ≡ Some kind → Passes (in_space_of c (record_of rs (space_of kind)) kind first s)
  unfolding in_space_of refused_of
  in_space kind h =
      let R = record_of rs (space_of kind) in
      holds Passes (ltb (length s) n) _ _ (λ l e. impossible cc) (λ l. recovered (recovered_of R.top (size_in first) (big_endian s 0 n)) refl)
    where
      recovered : (r : Result ℕ Answer) → recovered_of (record_of rs (space_of kind)).top (size_in first) (big_endian s 0 n) ≡ r
          → Passes (with_recovered r (λ answer. refused_of c answer (length s)) (λ number. tested_of c (test_of (record_of rs (space_of kind)) number) kind number first n (length s)))
      recovered (Ok number) q = tested kind number h q
      recovered (Err answer) q = λ e. absurd (no_number _ _ _ answer q e)

  kinds : (x : Option Kind) → header_of first ≡ x → Passes (with_kind x (refused_of c NoPacket (length s)) (λ kind. in_space_of c (record_of rs (space_of kind)) kind first s))
  unfolding refused_of
  kinds (Some kind) h = in_space kind h
  kinds None h = λ e. impossible cc

pub expected : Expected
unfolding begin_of refused_of
expected c rs fits first s =
    holds (λ (b : Begun). b.answer ≡ Accepted → Numbered rs first s b) (not (fits && records_fit rs)) _ _ (λ t e. impossible cc) (λ t.
    holds (λ (b : Begun). b.answer ≡ Accepted → Numbered rs first s b) (not (is_open c.mark)) _ _ (λ o e. impossible cc) (λ o.
    kinds c rs first s (each rs ((and-eq-true_iff fits (records_fit rs)).0 (not-false _ t)).1) (header_of first) refl))
