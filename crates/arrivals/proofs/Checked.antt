-- The checks go one after the other: where those before one have passed, it decides.
-- Assumes nothing.
use Prim.Native.Nat.{ℕ, ◌≤◌, ◌<◌}
use mathlib.Core.Path.{◌≡◌, refl, ◌∙◌, ap}
use mathlib.Core.Bool.{Bool, true, false}
use mathlib.Core.List.{List}
use native.Mathlib.Omega.{arith}
use lib.ListN.{length}
use lib.Dec.{leb}
use borrow.Author.Tests.{lt-ltb, le-ltb, le-leb, lt-leb}
use Rattle.answers.specs.declared.Answer.{Answer}
use Rattle.answers.specs.declared.Answer.TheVariants.{Accepted, ProtocolViolation, NoPacket}
use Rattle.kinds.specs.declared.Kind.{Kind}
use Rattle.numbers.specs.Numbers.{bytes_in}
use Rattle.headers.specs.First.{header_of, size_in, reserved_of}
use Rattle.records.specs.declared.Record.{Record}
use Rattle.records.specs.Marks.{test_of}
use Rattle.streams.specs.declared.Conn.{Conn}
use Rattle.streams.specs.Conn.{is_open}
use Rattle.kinds.specs.Kinds.{space_of}
use Rattle.spaces.specs.declared.Records.{Records}
use Rattle.spaces.specs.Spaces.{record_of, records_fit}
use Rattle.packets.specs.declared.Begun.{Begun}
use Rattle.packets.specs.Begin.{refused_of, closes_of, tested_of, with_recovered, in_space_of, with_kind, begin_of}
use Rattle.arrivals.specs.Checked.{numbered, OfKind, InOrder}
use Rattle.std.specs.Prelude.{Option, Some, None, Result, Ok, Err}

module _ (c : Conn) (rs : Records) (first : ℕ) (s : List ℕ) (live : is_open c.mark ≡ true) (fit : records_fit rs ≡ true) where
  -- past 120 and 101
  header : begin_of c rs true first s ≡ with_kind (header_of first) (refused_of c NoPacket (length s)) (λ kind. in_space_of c (record_of rs (space_of kind)) kind first s)
  unfolding begin_of
  header = rw (fit, live) refl

  module _ (kind : Kind) (h : header_of first ≡ Some kind) where
    abbrev R : Record
    R = record_of rs (space_of kind)

    abbrev size : ℕ
    size = bytes_in (size_in first)

    in_space : begin_of c rs true first s ≡ in_space_of c R kind first s
    in_space = header ∙ ap (λ (x : Option Kind). with_kind x (refused_of c NoPacket (length s)) (λ kind. in_space_of c (record_of rs (space_of kind)) kind first s)) h

    short : length s < size → (begin_of c rs true first s).answer ≡ NoPacket
    unfolding in_space_of refused_of
    short l = ap (λ (b : Begun). b.answer) in_space ∙ rw (lt-ltb (length s) size l) refl

    -- the bytes of the number are there
    recovered : size ≤ length s → begin_of c rs true first s ≡ with_recovered (numbered R first s) (λ answer. refused_of c answer (length s)) (λ number. tested_of c (test_of R number) kind number first size (length s))
    unfolding in_space_of
    recovered l = in_space ∙ rw (le-ltb (length s) size l) refl

    after : size ≤ length s → (r : Result ℕ Answer) → numbered R first s ≡ r → begin_of c rs true first s ≡ with_recovered r (λ answer. refused_of c answer (length s)) (λ number. tested_of c (test_of R number) kind number first size (length s))
    after l r e = recovered l ∙ ap (λ (x : Result ℕ Answer). with_recovered x (λ answer. refused_of c answer (length s)) (λ number. tested_of c (test_of R number) kind number first size (length s))) e

    -- reserved bits or no frames: the same answer
    either : (b : Bool) (n : ℕ) → reserved_of first ≡ b → leb (length s) size ≡ true → (tested_of c Accepted kind n first size (length s)).answer ≡ ProtocolViolation
    unfolding refused_of closes_of tested_of
    either true n e l = rw e refl
    either false n e l = rw (e, l) refl

    of_kind : OfKind c rs first s kind
    unfolding refused_of closes_of tested_of
    of_kind = record {
      too_short = short;
      no_number = λ l answer e. ap (λ (b : Begun). b.answer) (after l (Err answer) e);
      not_new = λ l n e t. ap (λ (b : Begun). b.answer) (after l (Ok n) e) ∙ rw t refl;
      reserved = λ l n e t b. ap (λ (x : Begun). x.answer) (after l (Ok n) e ∙ ap (λ (y : Answer). tested_of c y kind n first size (length s)) t) ∙ rw b refl;
      no_frames = λ l n e t. ap (λ (x : Begun). x.answer) (after (omega arith) (Ok n) e ∙ ap (λ (y : Answer). tested_of c y kind n first size (length s)) t) ∙ either (reserved_of first) n refl (le-leb (length s) size (omega arith));
      goes_on = λ l n e t b. after (omega arith) (Ok n) e ∙ ap (λ (y : Answer). tested_of c y kind n first size (length s)) t ∙ rw (b, lt-leb (length s) size l) refl;
    }

pub in_order : InOrder
unfolding refused_of
in_order c rs first s live fit = record { no_packet = none; of_kind = of_kind c rs first s live fit }
  where
    none : header_of first ≡ None → (begin_of c rs true first s).answer ≡ NoPacket
    none h = ap (λ (b : Begun). b.answer) (header c rs first s live fit ∙ ap (λ (x : Option Kind). with_kind x (refused_of c NoPacket (length s)) (λ kind. in_space_of c (record_of rs (space_of kind)) kind first s)) h)
