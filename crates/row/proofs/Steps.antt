-- What is left of a row from a place on: the number there and the rest; and nothing at its end.
-- Assumes nothing.
use mathlib.Core.Path.{◌≡◌, sym, ◌∙◌}
use mathlib.Core.Bool.{true, ◌&&◌, and_assoc, and-eq-true_iff}
use mathlib.Core.List.{List, [], ◌∷◌, ◌++◌}
use Prim.Native.Nat.{ℕ, ◌+◌, ◌-◌, ◌^◌, ◌≤◌, ◌<◌}
use native.Mathlib.Numerals.{add-one}
use native.Mathlib.Omega.{arith}
use native.Mathlib.Decide.{dec_le}
use borrow.Author.Tests.{leb-true, le-leb, lt-leb}
use lib.Bits.{bit_or, or_lt, or_add_and, and_le_l, and_le_r}
use lib.Dec.{leb}
use lib.ListN.{length, get_or, drop}
use lib.Seq.{sets, drop-cons, drop-length}
use Rattle.answers.specs.declared.Answer.{Answer}
use Rattle.wire.specs.Number.{bytes_of, size_of}
use Rattle.wire.specs.Writing.{writes, number_draft}
use Rattle.wire.proofs.Standing.{sets_append}
use Rattle.wire.proofs.Writing.{same_length}
use Rattle.wire.proofs.Exit.{length_bytes, unrefused, accepted}
use Rattle.row.specs.Row.{in_range, size_all, bytes_all}
use Rattle.std.specs.Prelude.{Result, Ok, Err}

-- two numbers joined are in range exactly if both are
or_range : (a b : ℕ) → leb (bit_or a b) (2 ^ 62 - 1) ≡ (leb a (2 ^ 62 - 1) && leb b (2 ^ 62 - 1))
or_range a b = go (dec_le a (2 ^ 62 - 1)) (dec_le b (2 ^ 62 - 1))
  where
    go : Dec (a ≤ 2 ^ 62 - 1) → Dec (b ≤ 2 ^ 62 - 1) → leb (bit_or a b) (2 ^ 62 - 1) ≡ (leb a (2 ^ 62 - 1) && leb b (2 ^ 62 - 1))
    go (yes p) (yes q) = rw (le-leb a (2 ^ 62 - 1) p, le-leb b (2 ^ 62 - 1) q) (le-leb (bit_or a b) (2 ^ 62 - 1) (omega (arith, or_lt 62 a b (omega arith) (omega arith))))
    go (yes p) (no q) = rw (le-leb a (2 ^ 62 - 1) p, lt-leb b (2 ^ 62 - 1) (omega arith)) (lt-leb (bit_or a b) (2 ^ 62 - 1) (omega (arith, or_add_and a b, and_le_l a b, and_le_r a b)))
    go (no p) d = rw (lt-leb a (2 ^ 62 - 1) (omega arith)) (lt-leb (bit_or a b) (2 ^ 62 - 1) (omega (arith, or_add_and a b, and_le_l a b, and_le_r a b)))

module _ (vs : List ℕ) (i : ℕ) where
  pub step : i < length vs → drop i vs ≡ get_or vs i 0 ∷ drop (i + 1) vs
  step h = rw (add-one, drop-cons vs i 0 h)

  pub range_step : i < length vs → in_range (drop i vs) ≡ (leb (get_or vs i 0) (2 ^ 62 - 1) && in_range (drop (i + 1) vs))
  unfolding in_range
  range_step h = rw (step h)

  -- those before the place are told by all their bits together
  pub range_joined : (all : ℕ) → i < length vs
      → (leb all (2 ^ 62 - 1) && in_range (drop i vs)) ≡ (leb (bit_or all (get_or vs i 0)) (2 ^ 62 - 1) && in_range (drop (i + 1) vs))
  range_joined all h = rw (range_step h, or_range all (get_or vs i 0)) (sym (and_assoc (leb all (2 ^ 62 - 1)) (leb (get_or vs i 0) (2 ^ 62 - 1)) (in_range (drop (i + 1) vs))))

  pub size_step : i < length vs → size_all (drop i vs) ≡ size_of (get_or vs i 0) + size_all (drop (i + 1) vs)
  unfolding size_all
  size_step h = rw (step h)

  pub bytes_step : i < length vs → bytes_all (drop i vs) ≡ bytes_of (get_or vs i 0) ++ bytes_all (drop (i + 1) vs)
  unfolding bytes_all
  bytes_step h = rw (step h)

  pub ended : i ≤ length vs → length vs ≤ i → drop i vs ≡ []
  ended h k = let e : i ≡ length vs = omega arith in rw (e, drop-length)

-- where a writer stands that has written i of the numbers, up to a place: what is left to write makes all of it, and there is room for it
pub record Left (out₀ : List ℕ) (at : ℕ) (vs out : List ℕ) (place i : ℕ) : Type 0 where
  pub within : i ≤ length vs
  pub range : in_range (drop i vs) ≡ true
  pub size : place + size_all (drop i vs) ≡ at + size_all vs
  pub long : length out ≡ length out₀
  pub room : at + size_all vs ≤ length out₀
  pub rest : sets out place (bytes_all (drop i vs)) ≡ sets out₀ at (bytes_all vs)

module _ (out₀ : List ℕ) (at : ℕ) (vs out : List ℕ) (place i : ℕ) (l : Left out₀ at vs out place i) (h : i < length vs) where
  -- the next number is in range and has room
  both : (leb (get_or vs i 0) (2 ^ 62 - 1) ≡ true) × (in_range (drop (i + 1) vs) ≡ true)
  both = (and-eq-true_iff (leb (get_or vs i 0) (2 ^ 62 - 1)) (in_range (drop (i + 1) vs))).0 (sym (range_step vs i h) ∙ l.range)

  low : get_or vs i 0 < 2 ^ 62
  low = omega (arith, leb-true (get_or vs i 0) (2 ^ 62 - 1) both.0)

  fits : place + length (bytes_of (get_or vs i 0)) ≤ length out
  fits = omega (arith, length_bytes (get_or vs i 0), size_step vs i h, l.size, l.long, l.room)

  -- the next number, written: it is not refused, and leaves one number less
  module _ {r : Result ℕ Answer} {after : List ℕ} (e : (r, after) ≡ writes (number_draft (get_or vs i 0)) out place) where
    pub never_refused : {a : Answer} → r ≡ Err a → ⊥
    never_refused = unrefused (get_or vs i 0) out place e low fits

    pub turn : {next : ℕ} → r ≡ Ok next → Left out₀ at vs after next (i + 1)
    turn p =
        let a = (accepted (get_or vs i 0) out place e p).1 in
        record {
          within = omega arith;
          range = both.1;
          size = omega (arith, a.ends, length_bytes (get_or vs i 0), size_step vs i h, l.size);
          long = same_length (number_draft (get_or vs i 0)) out place e ∙ l.long;
          room = l.room;
          rest = rw (a.holds, a.ends) (sym (sets_append out place (bytes_of (get_or vs i 0)) (bytes_all (drop (i + 1) vs))) ∙ rw (← bytes_step vs i h) l.rest);
        }

-- all numbers are written
pub finished : (out₀ : List ℕ) (at : ℕ) (vs out : List ℕ) (place i : ℕ) → Left out₀ at vs out place i → length vs ≤ i → (place ≡ at + size_all vs) × (out ≡ sets out₀ at (bytes_all vs))
unfolding size_all bytes_all
finished out₀ at vs out place i l h =
    let e = ended vs i l.within h in
    (omega (arith, rw e at l.size), rw e at l.rest)
