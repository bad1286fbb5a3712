-- The fields of a row: how long they are at most, how they make the row, and what stands at the front of a line that they were written to.
-- Assumes nothing.
use mathlib.Core.Path.{◌≡◌, refl, sym, ◌∙◌, ap}
use mathlib.Core.List.{List, [], ◌∷◌, ◌++◌, append_assoc}
use Prim.Native.Nat.{ℕ, zero, suc, ◌+◌, ◌/◌, ◌≤◌, ◌<◌}
use native.Mathlib.Omega.{arith}
use lib.Dec.{eqb}
use lib.ListN.{length, set, take, replicate, length-append}
use lib.Seq.{sets, sets-eq, length-sets, take-append_seam}
use Rattle.answers.proofs.Choice.{holds}
use Rattle.answers.specs.declared.Answer.{Answer}
use Rattle.wire.specs.Writing.{Bytes, writes, Written}
use Rattle.wire.proofs.Standing.{sets_append}
use Rattle.wire.proofs.Writing.{all_written, bytes_written, bytes_unrefused}
use Rattle.text.specs.Decimal.{digits_of, decimal_of}
use Rattle.columns.specs.Row.{field_of, type_text, type_field, row_of}
use Rattle.columns.specs.Row.{closed_text}
use Rattle.std.specs.Prelude.{Option, Some, None, Result, Ok, Err}

digits_size : (k n : ℕ) → length (digits_of k n) ≤ k
unfolding digits_of
digits_size zero n = omega arith
digits_size (suc k) n =
    holds (λ (l : List ℕ). length l ≤ suc k) (eqb n 0) _ _
    (λ p. omega arith)
    (λ p. rw length-append (omega (arith, digits_size k (n / 10))))

decimal_size : (n : ℕ) → length (decimal_of n) ≤ 20
unfolding decimal_of
decimal_size n = rw length-append (omega (arith, digits_size 19 (n / 10)))

field_length : (n behind : ℕ) → length (field_of n behind) ≡ length (decimal_of n) + 1
unfolding field_of
field_length n behind = length-append (decimal_of n) (behind ∷ [])

field_size : (n behind : ℕ) → length (field_of n behind) ≤ 21
field_size n behind = omega (arith, field_length n behind, decimal_size n)

-- a type is a field like a number, or a dash and a blank
pub type_number : (ty : ℕ) → type_field (Some ty) ≡ field_of ty 32
unfolding type_field type_text field_of
type_number ty = refl

pub type_dash : type_field None ≡ 45 ∷ 32 ∷ []
unfolding type_field type_text
type_dash = refl

type_size : (ty : Option ℕ) → length (type_field ty) ≤ 21
type_size (Some ty) = rw type_number (field_size ty 32)
type_size None = rw type_dash (omega arith)

-- where there is room for the longest field, a number is written, and the byte after it makes it a field
module _ (line : List ℕ) (at n : ℕ) (room : at + 21 ≤ length line) {r : Result ℕ Answer} {after : List ℕ} (e : (r, after) ≡ writes (Bytes (decimal_of n)) line at) where
  pub unrefused : {a : Answer} → r ≡ Err a → ⊥
  unrefused = bytes_unrefused (decimal_of n) line at e (omega (arith, decimal_size n))

  module _ {next : ℕ} (p : r ≡ Ok next) where
    wrote : Written (decimal_of n) line at next after
    wrote = bytes_written (decimal_of n) line at e p

    pub next_within : next < length line
    next_within = omega (arith, wrote.ends, decimal_size n)

    pub next_stored : next < length after
    next_stored = rw (wrote.holds, length-sets) next_within

    pub field_written : (behind : ℕ) → (next + 1 ≡ at + length (field_of n behind)) × (set after next behind ≡ sets line at (field_of n behind))
    unfolding field_of
    field_written behind = (omega (arith, wrote.ends, length-append (decimal_of n) (behind ∷ [])), rw (wrote.holds, wrote.ends) (sym (sets_append line at (decimal_of n) (behind ∷ []))))

-- a line that was blank and now begins with l, of k bytes at most
record Begun (blank l : List ℕ) (k to : ℕ) (line : List ℕ) : Type 0 where
  ends : to ≡ length l
  holds : line ≡ sets blank 0 l
  short : length l ≤ k

begin : (blank : List ℕ) → Begun blank [] 0 0 blank
begin blank = record { ends = refl; holds = refl; short = omega arith }

module _ {blank l : List ℕ} {k to : ℕ} {line : List ℕ} (b : Begun blank l k to line) where
  -- one field more
  more : (m : List ℕ) {to' : ℕ} {line' : List ℕ} → length m ≤ 21 → (to' ≡ to + length m) × (line' ≡ sets line to m) → Begun blank (l ++ m) (k + 21) to' line'
  more m h e = record {
    ends = e.0 ∙ rw length-append (omega (arith, b.ends));
    holds = e.1 ∙ rw (b.ends, b.holds) (let z : 0 + length l ≡ length l = omega arith in sym (rw z at (sets_append blank 0 l m)));
    short = rw length-append (omega (arith, b.short));
  }

  room : k + 21 ≤ length blank → to + 21 ≤ length line
  room h = rw (b.holds, length-sets) (omega (arith, b.ends, b.short))

  within : k ≤ length blank → to ≤ length line
  within h = rw (b.holds, length-sets) (omega (arith, b.ends, b.short))

  -- what it begins with is its front
  front : k ≤ length blank → take to line ≡ l
  front h = rw (b.ends, b.holds, sets-eq l blank 0 (omega (arith, b.short))) (take-append_seam l _)

-- the four fields of a row, one after the other on a line with room for the longest: each has room, and together they are the row
module _ (place : ℕ) (ty : Option ℕ) (code total : ℕ) where
  row_fields : ((field_of place 32 ++ type_field ty) ++ field_of code 32) ++ field_of total 10 ≡ row_of place ty code total
  unfolding field_of type_field row_of
  row_fields = simp append_assoc

  module _ {a : ℕ} {la : List ℕ} (ea : (a ≡ 0 + length (field_of place 32)) × (la ≡ sets (replicate 84 0) 0 (field_of place 32))) where
    with_place : Begun (replicate 84 0) (field_of place 32) 21 a la
    with_place = more (begin (replicate 84 0)) (field_of place 32) (field_size place 32) ea

    pub room_for_type : a + 21 ≤ length la
    room_for_type = room with_place (omega arith)

    module _ {b : ℕ} {lb : List ℕ} (eb : (b ≡ a + length (type_field ty)) × (lb ≡ sets la a (type_field ty))) where
      with_type : Begun (replicate 84 0) (field_of place 32 ++ type_field ty) 42 b lb
      with_type = more with_place (type_field ty) (type_size ty) eb

      pub room_for_code : b + 21 ≤ length lb
      room_for_code = room with_type (omega arith)

      module _ {d : ℕ} {ld : List ℕ} (ed : (d ≡ b + length (field_of code 32)) × (ld ≡ sets lb b (field_of code 32))) where
        with_code : Begun (replicate 84 0) ((field_of place 32 ++ type_field ty) ++ field_of code 32) 63 d ld
        with_code = more with_type (field_of code 32) (field_size code 32) ed

        pub room_for_total : d + 21 ≤ length ld
        room_for_total = room with_code (omega arith)

        module _ {e : ℕ} {le : List ℕ} (ee : (e ≡ d + length (field_of total 10)) × (le ≡ sets ld d (field_of total 10))) where
          whole : Begun (replicate 84 0) (((field_of place 32 ++ type_field ty) ++ field_of code 32) ++ field_of total 10) 84 e le
          whole = more with_code (field_of total 10) (field_size total 10) ee

          pub row_within : e ≤ length le
          row_within = within whole (omega arith)

          pub row_front : take e le ≡ row_of place ty code total
          row_front = front whole (omega arith) ∙ row_fields

-- the last line of a connection that was closed with a code: the text, and the code after it
module _ (code : ℕ) {r : Result ℕ Answer} {la : List ℕ} (ea : (r, la) ≡ writes (Bytes closed_text) (replicate 42 0) 0) where
  with_text : Begun (replicate 42 0) closed_text 21 7 la
  unfolding closed_text
  with_text = more (begin (replicate 42 0)) closed_text (omega arith) (refl, ap (λ (o : Result ℕ Answer × List ℕ). o.1) (ea ∙ all_written (replicate 42 0) 0 closed_text (omega arith)))

  pub room_for_number : 7 + 21 ≤ length la
  room_for_number = room with_text (omega arith)

  module _ {e : ℕ} {le : List ℕ} (ee : (e ≡ 7 + length (field_of code 10)) × (le ≡ sets la 7 (field_of code 10))) where
    with_number_law : Begun (replicate 42 0) (closed_text ++ field_of code 10) 42 e le
    with_number_law = more with_text (field_of code 10) (field_size code 10) ee

    pub closed_within : e ≤ length le
    closed_within = within with_number_law (omega arith)

    pub closed_front : take e le ≡ closed_text ++ field_of code 10
    closed_front = front with_number_law (omega arith)
