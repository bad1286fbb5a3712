-- An accepted packet's number is recorded: every check was passed, so that its record takes it.
-- Assumes nothing.
use Prim.Native.Nat.{ℕ, ◌^◌, ◌<◌}
use mathlib.Core.Path.{◌≡◌, refl, sym, ◌∙◌, ap}
use mathlib.Core.Bool.{Bool, true, false, not, ◌&&◌, and-eq-true_iff, true≢false}
use mathlib.Core.List.{List}
use native.Mathlib.Omega.{arith}
use borrow.Author.Tests.{not-true, not-false, ltb-true}
use lib.Dec.{ltb, leb}
use lib.ListN.{length}
use Rattle.answers.specs.declared.Answer.{Answer}
use Rattle.answers.specs.declared.Answer.TheVariants.{Accepted, ProtocolViolation, Closed, NoPacket, DoesNotFit, NoSuchNumber}
use Rattle.answers.proofs.Choice.{holds}
use Rattle.wire.specs.Number.{big_endian}
use Rattle.kinds.specs.declared.Kind.{Kind}
use Rattle.numbers.specs.Numbers.{bytes_in, window_of, nearest_of, recovered_of}
use Rattle.records.specs.declared.Record.{Record}
use Rattle.records.specs.declared.Taken.{Taken}
use Rattle.records.specs.Marks.{test_of, check_of}
use Rattle.records.specs.Ring.{taken_of}
use Rattle.records.proofs.Taking.{take_new, added}
use Rattle.streams.specs.declared.Conn.{Conn}
use Rattle.kinds.specs.declared.Space.{Space}
use Rattle.kinds.specs.declared.Space.TheVariants.{Initial, Handshake, Application}
use Rattle.streams.specs.Conn.{is_open}
use Rattle.kinds.specs.Kinds.{space_of}
use Rattle.limits.specs.Fits.{fits}
use Rattle.answers.specs.Answers.{accepts}
use Rattle.answers.proofs.Accepts.{accepts_true}
use Rattle.packets.specs.declared.Begun.{Begun}
use Rattle.spaces.specs.declared.Records.{Records}
use Rattle.steps.specs.declared.Stopped.{Stopped}
use Rattle.headers.specs.First.{header_of, size_in, reserved_of}
use Rattle.spaces.specs.Spaces.{record_of, with_record, records_fit, recorded_of}
use Rattle.spaces.proofs.Each.{each}
use Rattle.packets.specs.Begin.{refused_of, closes_of, tested_of, with_recovered, in_space_of, with_kind, begin_of}
use Rattle.endings.specs.Finish.{finish_of}
use Rattle.receive.specs.Taking.{begun_of, took_of}
use Rattle.walks.specs.Walk.{stopped_of}
use Rattle.demands.specs.Recorded.{NumberRecorded}
use Rattle.std.specs.Prelude.{Option, Some, None, Result, Ok, Err}

module _ (c : Conn) (rs : Records) (byte : ℕ) (s : List ℕ) where
  -- what is known of the number of a packet that goes on to its frames
  abbrev pub Sure : Begun → Type 0
  Sure g = accepts g.answer ≡ true → (taken_of (record_of rs (space_of g.kind)) g.number).answer ≡ Accepted

  left_sure : (d : Conn) (answer : Answer) → accepts answer ≡ false → Sure (refused_of d answer (length s))
  unfolding refused_of
  left_sure d answer f e = absurd (true≢false (sym e ∙ f))

  closes_sure : Sure (closes_of c (length s))
  unfolding closes_of
  closes_sure = left_sure _ ProtocolViolation refl

  module _ (fit : records_fit rs ≡ true) where
    taken_new : (kind : Kind) (number : ℕ) → number < 2 ^ 62 → test_of (record_of rs (space_of kind)) number ≡ Accepted → (taken_of (record_of rs (space_of kind)) number).answer ≡ Accepted
    unfolding check_of
    taken_new kind number l t = ap (λ (x : Taken). x.answer) (sym (take_new (record_of rs (space_of kind)) number (rw (each rs fit (space_of kind)) refl) (omega (arith, l)) t))

    numbered_sure : (kind : Kind) (number n : ℕ) → number < 2 ^ 62 → Sure (tested_of c (test_of (record_of rs (space_of kind)) number) kind number byte n (length s))
    unfolding tested_of
    numbered_sure kind number n l =
        holds Sure (not (accepts (test_of (record_of rs (space_of kind)) number))) _ _ (λ e. left_sure c _ (not-true _ e)) (λ e.
        holds Sure (reserved_of byte) _ _ (λ _. closes_sure) (λ _.
        holds Sure (leb (length s) n) _ _ (λ _. closes_sure) (λ _ _. taken_new kind number l (accepts_true _ (not-false _ e)))))

    space_sure : (kind : Kind) → Sure (in_space_of c (record_of rs (space_of kind)) kind byte s)
    unfolding in_space_of recovered_of
    space_sure kind =
        holds Sure (ltb (length s) (bytes_in (size_in byte))) _ _ (λ _. left_sure c NoPacket refl) (λ _.
        holds (λ (r : Result ℕ Answer). Sure (with_recovered r (λ answer. refused_of c answer (length s)) (λ number. tested_of c (test_of (record_of rs (space_of kind)) number) kind number byte (bytes_in (size_in byte)) (length s))))
        (ltb (nearest_of (record_of rs (space_of kind)).top (window_of (size_in byte)) (big_endian s 0 (bytes_in (size_in byte)))) (2 ^ 62)) (Ok _) (Err NoSuchNumber)
        (λ b. numbered_sure kind _ _ (ltb-true _ _ b)) (λ _. left_sure c NoSuchNumber refl))

    kind_sure : (r : Option Kind) → Sure (with_kind r (refused_of c NoPacket (length s)) (λ kind. in_space_of c (record_of rs (space_of kind)) kind byte s))
    kind_sure (Some kind) = space_sure kind
    kind_sure None = left_sure c NoPacket refl

  pub begin_sure : (whole : Bool) → Sure (begin_of c rs whole byte s)
  unfolding begin_of
  begin_sure whole =
      holds Sure (not (whole && records_fit rs)) _ _ (λ _. left_sure c DoesNotFit refl) (λ e.
      holds Sure (not (is_open c.mark)) _ _ (λ _. left_sure c Closed refl) (λ _.
      kind_sure ((and-eq-true_iff whole (records_fit rs)).0 (not-false _ e)).1 (header_of byte)))

-- an accepted packet went on to its frames, and its number was handed to the record
module _ (g : Begun) (w : Stopped) (rs : Records) where
  pub finished : (finish_of g w rs).answer ≡ Accepted → (accepts g.answer ≡ true) × ((finish_of g w rs).records ≡ recorded_of rs (space_of g.kind) g.number)
  unfolding finish_of
  finished = go (accepts g.answer) (accepts w.answer) refl refl
    where
      go : (a b : Bool) → accepts g.answer ≡ a → accepts w.answer ≡ b → (finish_of g w rs).answer ≡ Accepted → (accepts g.answer ≡ true) × ((finish_of g w rs).records ≡ recorded_of rs (space_of g.kind) g.number)
      go true true p q = rw (p, q) (λ e. (refl, refl))
      go true false p q = rw (p, q) (λ e. absurd (true≢false (ap accepts (sym e) ∙ q)))
      go false b p q = rw p (λ e. absurd (true≢false (ap accepts (sym e) ∙ p)))

-- a record that is put in a space, and the others
put_own : (rs : Records) (space : Space) (R : Record) → record_of (with_record rs space R) space ≡ R
put_own rs Initial R = refl
put_own rs Handshake R = refl
put_own rs Application R = refl

put_other : (rs : Records) (space other : Space) (R : Record) → (other ≡ space → ⊥) → record_of (with_record rs space R) other ≡ record_of rs other
put_other rs Initial Initial R h = absurd (h refl)
put_other rs Initial Handshake R h = refl
put_other rs Initial Application R h = refl
put_other rs Handshake Initial R h = refl
put_other rs Handshake Handshake R h = absurd (h refl)
put_other rs Handshake Application R h = refl
put_other rs Application Initial R h = refl
put_other rs Application Handshake R h = refl
put_other rs Application Application R h = absurd (h refl)

pub number_recorded : NumberRecorded
unfolding took_of recorded_of
number_recorded h rs first s e =
    let c = h.conn in
    let g = begun_of c rs h.table first s in
    let f = finished g (stopped_of g.conn h.table s g.at g.kind) rs e in
    let R = record_of rs (space_of g.kind) in
    let S = (taken_of R g.number).«record» in
    record {
      own = λ m. rw (f.1, put_own rs (space_of g.kind) S) (added R g.number (begin_sure c rs first s (fits c h.table) f.0) m);
      others = λ other k. rw f.1 (put_other rs (space_of g.kind) other S k);
    }
