-- Numbers that are read and written one after the other: what is left to write makes all of it, and each turn writes one.
-- Assumes nothing.
use mathlib.Core.Path.{◌≡◌, sym, ◌∙◌, ap}
use mathlib.Core.List.{List, [], ◌++◌}
use Prim.Native.Nat.{ℕ, ◌+◌, ◌-◌, ◌≤◌, ◌<◌}
use native.Mathlib.Omega.{arith}
use lib.ListN.{length}
use lib.Seq.{sets}
use Rattle.wire.specs.Number.{number_at, bytes_of}
use Rattle.wire.specs.Writing.{writes, number_draft}
use Rattle.wire.proofs.Sound.{sound}
use Rattle.wire.proofs.Standing.{sets_append}
use Rattle.wire.proofs.Writing.{same_length}
use Rattle.wire.proofs.Exit.{length_bytes, unrefused, accepted}
use Rattle.row.specs.Row.{size_all, bytes_all}
use Rattle.ranges.specs.Listed.{listed}
use Rattle.sizes.proofs.Listing.{listed_more, size_more}
use Rattle.std.specs.Prelude.{Some, Result, Ok, Err}
use Rattle.answers.specs.declared.Answer.{Answer}

pub bytes_more : (s : List ℕ) (at n : ℕ) {v next : ℕ} → 0 < n → number_at s at ≡ Some (v, next) → bytes_all (listed s at n) ≡ bytes_of v ++ bytes_all (listed s next (n - 1))
unfolding bytes_all
bytes_more s at n h e = rw (listed_more s at n h e)

-- where a writer of the numbers vs stands that has those from a place on left: what is left to write makes all of it, and there is room for it
pub record Left (out₀ : List ℕ) (at : ℕ) (vs s out : List ℕ) (place to left : ℕ) : Type 0 where
  pub size : to + size_all (listed s place left) ≡ at + size_all vs
  pub long : length out ≡ length out₀
  pub room : at + size_all vs ≤ length out₀
  pub rest : sets out to (bytes_all (listed s place left)) ≡ sets out₀ at (bytes_all vs)

module _ (out₀ : List ℕ) (at : ℕ) (vs s out : List ℕ) (place to left : ℕ) (l : Left out₀ at vs s out place to left) where
  -- the number, written: it is in range and there is room for it, so that it is not refused, and one less is left
  module _ {v next : ℕ} (h : 0 < left) (e : number_at s place ≡ Some (v, next)) {r : Result ℕ Answer} {after : List ℕ} (f : (r, after) ≡ writes (number_draft v) out to) where
    pub never_refused : {a : Answer} → r ≡ Err a → ⊥
    never_refused = unrefused v out to f (sound s place e).low (omega (arith, length_bytes v, size_more s place left h e, l.size, l.long, l.room))

    pub turn : {n : ℕ} → r ≡ Ok n → Left out₀ at vs s after next n (left - 1)
    turn p =
        let w = (accepted v out to f p).1 in
        record {
          size = omega (arith, w.ends, length_bytes v, size_more s place left h e, l.size);
          long = same_length (number_draft v) out to f ∙ l.long;
          room = l.room;
          rest = rw (w.holds, w.ends) (sym (sets_append out to (bytes_of v) (bytes_all (listed s next (left - 1)))) ∙ rw (← bytes_more s place left h e) l.rest);
        }

  -- nothing is left
  pub finished : listed s place left ≡ [] → (◌≡◌ {A = Result ℕ Answer} (Ok to) (Ok (at + size_all vs))) × (out ≡ sets out₀ at (bytes_all vs))
  unfolding size_all bytes_all
  finished e = (ap Ok (omega (arith, rw e at l.size)), rw e at l.rest)
