-- The law of writing, once for all that is written: what was refused left the output as it was, what was accepted stands at its place and ends where it was answered, and all else stays.
-- Assumes nothing.
use mathlib.Core.Path.{◌≡◌, refl, sym, ◌∙◌, ap, subst}
use mathlib.Core.Bool.{Bool, true, false}
use mathlib.Core.List.{List, [], ◌∷◌, ◌++◌}
use mathlib.Core.Logic.{◌⊎◌, inl, inr, ⊎_elim}
use Prim.Native.Nat.{ℕ, suc, ◌+◌, ◌≤◌, ◌<◌}
use native.Mathlib.Omega.{arith}
use borrow.Author.Tests.{ltb-true, ltb-false, lt-ltb, le-ltb, leb-true, leb-false}
use lib.Dec.{ltb, leb}
use lib.ListN.{length, get_or, set, length-append}
use lib.Seq.{sets, length-sets, get_or-set_other}
use Rattle.answers.specs.Choice.{◌⇒◌∣◌}
use Rattle.answers.specs.declared.Answer.{Answer}
use Rattle.answers.specs.declared.Answer.TheVariants.{NoRoom}
use Rattle.answers.proofs.Choice.{holds}
use Rattle.answers.proofs.Distinct.{impossible}
use Rattle.wire.specs.Writing.{Draft, Bytes, Never, writes, Written}
use Rattle.wire.proofs.Standing.{stored, sets_append}
use Rattle.std.specs.Prelude.{Result, Ok, Err}

-- a run of stores leaves what is outside of it
sets_other : (l : List ℕ) (at : ℕ) (vs : List ℕ) (i : ℕ) → (i < at) ⊎ (at + length vs ≤ i) → get_or (sets l at vs) i 0 ≡ get_or l i 0
sets_other l at [] i h = refl
sets_other l at (x ∷ vs) i h =
    sets_other (set l at x) (suc at) vs i (⊎_elim (λ p. inl (omega arith)) (λ q. inr (omega arith)) h)
    ∙ get_or-set_other l at i x 0 (⊎_elim (λ p. omega arith) (λ q. omega arith) h)

module _ (out : List ℕ) (at : ℕ) where
  -- what can never be written is refused before any room is asked: 109 comes before 108
  pub never : (a : Answer) → writes (Never a) out at ≡ (Err a, out)
  unfolding writes
  never a = refl

  pub no_room : (l : List ℕ) → length out < at + length l → writes (Bytes l) out at ≡ (Err NoRoom, out)
  unfolding writes
  no_room l h = simp (lt-ltb (length out) (at + length l) h)

  pub all_written : (l : List ℕ) → at + length l ≤ length out → writes (Bytes l) out at ≡ (Ok (at + length l), sets out at l)
  unfolding writes
  all_written l h = simp (le-ltb (length out) (at + length l) h)

  -- the same by a test for the room of n bytes, which are all that is to be written
  module _ (l : List ℕ) (n : ℕ) (long : length l ≡ n) {room : Bool} (told : room ≡ leb (at + n) (length out)) where
    pub lacked : room ≡ false → (Err NoRoom, out) ≡ writes (Bytes l) out at
    lacked e = let h = leb-false (at + n) (length out) (sym told ∙ e) in sym (no_room l (omega arith))

    pub room_for : room ≡ true → at + n ≤ length out
    room_for e = leb-true (at + n) (length out) (sym told ∙ e)

    pub filled : room ≡ true → writes (Bytes l) out at ≡ (Ok (at + n), sets out at l)
    filled e = rw (all_written l (omega (arith, room_for e)), long)

-- by the outcome: what holds of a refusal, and of what was accepted
abbrev Outcome : Draft → List ℕ → ℕ → Result ℕ Answer × List ℕ → Type 0
Outcome d out at (Ok n, after) = (l : List ℕ) × (d ≡ Bytes l) × Written l out at n after
Outcome d out at (Err a, after) = (after ≡ out) × ((l : List ℕ) → d ≡ Bytes l → (a ≡ NoRoom) × (length out < at + length l))

outcome : (d : Draft) (out : List ℕ) (at : ℕ) → Outcome d out at (writes d out at)
unfolding writes
outcome (Never a) out at = (refl, λ l e. impossible cc)
outcome (Bytes l) out at =
    holds (Outcome (Bytes l) out at) (ltb (length out) (at + length l)) (Err NoRoom, out) (Ok (at + length l), sets out at l)
    (λ e. (refl, λ m f. let g : l ≡ m = cc in (refl, rw g at (ltb-true (length out) (at + length l) e))))
    (λ e. let h = ltb-false (length out) (at + length l) e in (l, refl, record { ends = refl; room = h; holds = refl; stands = stored out at l h }))

-- of a call that answered r and left the output `after`
module _ (d : Draft) (out : List ℕ) (at : ℕ) {r : Result ℕ Answer} {after : List ℕ} (e : (r, after) ≡ writes d out at) where
  so : {w : Result ℕ Answer} → r ≡ w → Outcome d out at (w, after)
  so p = subst (λ (w : Result ℕ Answer). Outcome d out at (w, after)) p (subst (Outcome d out at) (sym e) (outcome d out at))

  -- a refusal leaves the output as it was
  pub refused : {a : Answer} → r ≡ Err a → after ≡ out
  refused p = (so p).0

  -- what is accepted are bytes, and they were written
  pub accepted : {n : ℕ} → r ≡ Ok n → (l : List ℕ) × (d ≡ Bytes l) × Written l out at n after
  accepted p = so p

  -- of bytes, only for want of room
  pub only_room : {a : Answer} → r ≡ Err a → (l : List ℕ) → d ≡ Bytes l → (a ≡ NoRoom) × (length out < at + length l)
  only_room p = (so p).1

  pub same_length : length after ≡ length out
  same_length = go r refl
    where
      go : (w : Result ℕ Answer) → r ≡ w → length after ≡ length out
      go (Ok n) p = rw (accepted p).2.holds (length-sets out at (accepted p).0)
      go (Err a) p = ap length (refused p)

  -- outside of what was written all stays
  pub kept : {n : ℕ} → r ≡ Ok n → (i : ℕ) → (i < at) ⊎ (n ≤ i) → get_or after i 0 ≡ get_or out i 0
  kept p i h =
      let a = accepted p in
      rw a.2.holds (sets_other out at a.0 i (⊎_elim inl (λ q. inr (omega (arith, a.2.ends))) h))

-- bytes that were accepted were written
pub bytes_written : (l out : List ℕ) (at : ℕ) {r : Result ℕ Answer} {after : List ℕ} → (r, after) ≡ writes (Bytes l) out at → {n : ℕ} → r ≡ Ok n → Written l out at n after
bytes_written l out at {r} {after} e {n} p =
    let a = accepted (Bytes l) out at e p in
    let f : a.0 ≡ l = let g = a.1 in cc in
    subst (λ (m : List ℕ). Written m out at n after) f a.2

-- what was accepted was not refused: the test for it does not hold, and what is written is what stands after it
pub past : (b : Bool) (a : Answer) (d : Draft) (out : List ℕ) (at : ℕ) {r : Result ℕ Answer} {after : List ℕ} → (r, after) ≡ writes (b ⇒ Never a ∣ d) out at → {n : ℕ} → r ≡ Ok n
    → (b ≡ false) × ((r, after) ≡ writes d out at)
unfolding writes
past true a d out at {r} e p =
    let f : r ≡ Err a = ap (λ (x : Result ℕ Answer × List ℕ). x.0) e in
    impossible cc
past false a d out at e p = (refl, e)

-- with room for them bytes are not refused
pub bytes_unrefused : (l out : List ℕ) (at : ℕ) {r : Result ℕ Answer} {after : List ℕ} → (r, after) ≡ writes (Bytes l) out at → at + length l ≤ length out → {a : Answer} → r ≡ Err a → ⊥
bytes_unrefused l out at e h p = omega (arith, only_room (Bytes l) out at e p l refl)

-- two writes one after the other are one, of the bytes of both
pub together : (a b out : List ℕ) (at : ℕ) {n k : ℕ} {mid after : List ℕ} → (Ok n, mid) ≡ writes (Bytes a) out at → (Ok k, after) ≡ writes (Bytes b) mid n → (Ok k, after) ≡ writes (Bytes (a ++ b)) out at
together a b out at {n} {k} {mid} {after} e f =
    let v = bytes_written a out at e refl in
    let w = bytes_written b mid n f refl in
    let s = same_length (Bytes a) out at e in
    let g : at + length (a ++ b) ≡ k = rw length-append (omega (arith, v.ends, w.ends)) in
    let h : sets out at (a ++ b) ≡ after = sets_append out at a b ∙ rw (w.holds, v.holds, v.ends) in
    sym (all_written out at (a ++ b) (rw g (omega (arith, w.room))) ∙ rw (g, h))
