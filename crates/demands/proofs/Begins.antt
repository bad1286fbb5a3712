-- A packet up to its frames, by what it does to the connection: it goes on with it as it was, closes it with code 10, or leaves it.
-- Each check of the order names its answer, and only the reserved bits and the missing frames close.
-- Assumes nothing.
use Prim.Native.Nat.{ℕ, ◌+◌, ◌^◌}
use mathlib.Core.Path.{◌≡◌, refl}
use mathlib.Core.Bool.{Bool, true, false, not, ◌&&◌}
use mathlib.Core.List.{List}
use lib.Dec.{ltb, leb, eqb}
use lib.ListN.{length}
use borrow.Author.Tests.{not-true, not-false}
use Rattle.answers.specs.Answers.{number_of}
use Rattle.answers.specs.declared.Answer.{Answer}
use Rattle.answers.specs.declared.Answer.TheVariants.{Accepted, Closed, BelowRecord, InRecord, NoPacket, NoSuchNumber, DoesNotFit}
use Rattle.answers.proofs.Choice.{holds}
use Rattle.wire.specs.Number.{big_endian}
use Rattle.kinds.specs.declared.Kind.{Kind}
use Rattle.numbers.specs.Numbers.{bytes_in, window_of, nearest_of, recovered_of}
use Rattle.records.specs.declared.Record.{Record}
use Rattle.records.specs.Marks.{recorded, test_of}
use Rattle.streams.specs.declared.Conn.{Conn}
use Rattle.streams.specs.Conn.{is_open}
use Rattle.kinds.specs.Kinds.{space_of}
use Rattle.answers.specs.Answers.{accepts}
use Rattle.accounts.proofs.Tests.{not_both}
use Rattle.headers.specs.First.{header_of, size_in, reserved_of}
use Rattle.spaces.specs.Spaces.{record_of, records_fit}
use Rattle.packets.specs.Begin.{refused_of, closes_of, tested_of, with_recovered, in_space_of, with_kind, begin_of}
use Rattle.packets.specs.declared.Begun.{Begun}
use Rattle.spaces.specs.declared.Records.{Records}
use Rattle.demands.specs.Demand1.{closes}
use Rattle.std.specs.Prelude.{Option, Some, None, Result, Ok, Err}

-- an answer that neither accepts nor closes; and it is 120 only where something does not fit
pub record Quiet (whole : Bool) (answer : Answer) : Type 0 where
  pub refuses : accepts answer ≡ false
  pub leaves : closes answer ≡ false
  pub fitting : whole ≡ true → eqb (number_of answer) 120 ≡ false

-- live: the table fits and the connection is open; whole: the table and the records fit
pub data Begins (c : Conn) (end : ℕ) (live whole : Bool) : Begun → Type 0 where
  goes : (kind : Kind) (at number : ℕ) → live ≡ true → Begins c end live whole (record { answer = Accepted; conn = c; kind = kind; at = at; number = number })
  shuts : live ≡ true → Begins c end live whole (closes_of c end)
  stays : (answer : Answer) → Quiet whole answer → Begins c end live whole (refused_of c answer end)

-- what a number that was tested can be answered
record Tested (answer : Answer) : Type 0 where
  leaves : closes answer ≡ false
  fitting : eqb (number_of answer) 120 ≡ false

tested : (R : Record) (n : ℕ) → Tested (test_of R n)
unfolding test_of
tested R n =
    holds Tested (ltb (n + 8192) R.top) BelowRecord _ (λ e. record { leaves = refl; fitting = refl }) (λ e.
    holds Tested (recorded R n) InRecord Accepted (λ f. record { leaves = refl; fitting = refl }) (λ f. record { leaves = refl; fitting = refl }))

with_kind_law : (P : Begun → Type 0) (m : Option Kind) (x : Begun) (k : Kind → Begun) → P x → ((kind : Kind) → P (k kind)) → P (with_kind m x k)
with_kind_law P (Some kind) x k p q = q kind
with_kind_law P None x k p q = p

both : (a b : Bool) → a && b ≡ true → a ≡ true
both true b e = refl
both false b e = e

module _ (c : Conn) (live whole : Bool) (l : live ≡ true) where
  numbered : (test : Answer) (kind : Kind) (number first n end : ℕ) → Tested test → Begins c end live whole (tested_of c test kind number first n end)
  unfolding tested_of
  numbered test kind number first n end t =
      holds (Begins c end live whole) (not (accepts test)) _ _ (λ e. stays test (record { refuses = not-true _ e; leaves = t.leaves; fitting = λ f. t.fitting })) (λ e.
      holds (Begins c end live whole) (reserved_of first) _ _ (λ r. shuts l) (λ r.
      holds (Begins c end live whole) (leb end n) _ _ (λ m. shuts l) (λ m. goes kind n number l)))

  in_space : (R : Record) (kind : Kind) (first : ℕ) (s : List ℕ) → Begins c (length s) live whole (in_space_of c R kind first s)
  unfolding in_space_of recovered_of
  in_space R kind first s =
      holds (Begins c (length s) live whole) (ltb (length s) (bytes_in (size_in first))) _ _ (λ e. stays NoPacket (record { refuses = refl; leaves = refl; fitting = λ f. refl })) (λ e.
      holds (λ (r : Result ℕ Answer). Begins c (length s) live whole (with_recovered r (λ answer. refused_of c answer (length s)) (λ number. tested_of c (test_of R number) kind number first (bytes_in (size_in first)) (length s))))
      (ltb (nearest_of R.top (window_of (size_in first)) (big_endian s 0 (bytes_in (size_in first)))) (2 ^ 62)) (Ok _) (Err NoSuchNumber)
      (λ b. numbered _ kind _ first _ (length s) (tested R _)) (λ b. stays NoSuchNumber (record { refuses = refl; leaves = refl; fitting = λ f. refl })))

pub begins : (c : Conn) (rs : Records) (fit : Bool) (first : ℕ) (s : List ℕ) → Begins c (length s) (fit && is_open c.mark) (fit && records_fit rs) (begin_of c rs fit first s)
unfolding begin_of
begins c rs fit first s =
    holds (Begins c (length s) (fit && is_open c.mark) (fit && records_fit rs)) (not (fit && records_fit rs)) _ _
    (λ e. stays DoesNotFit (record { refuses = refl; leaves = refl; fitting = λ f. absurd (not_both _ f (not-true _ e)) })) (λ e.
    holds (Begins c (length s) (fit && is_open c.mark) (fit && records_fit rs)) (not (is_open c.mark)) _ _
    (λ u. stays Closed (record { refuses = refl; leaves = refl; fitting = λ f. refl })) (λ u.
    with_kind_law (Begins c (length s) (fit && is_open c.mark) (fit && records_fit rs)) (header_of first) _ _
    (stays NoPacket (record { refuses = refl; leaves = refl; fitting = λ f. refl })) (λ kind.
    in_space c (fit && is_open c.mark) (fit && records_fit rs) (rw (both fit (records_fit rs) (not-false _ e), not-false (is_open c.mark) u)) (record_of rs (space_of kind)) kind first s)))
