-- What the contracts of `offer` and `hand` mean for what is held, place by place: an offer that holds adds the frame's bytes and changes no byte that is held,
-- a refusal leaves everything, and a read hands over the held bytes up to the first place where none is.
-- Assumes nothing.
use Prim.Native.Nat.{ℕ, ◌+◌, ◌-◌, ◌<◌, max}
use mathlib.Core.Path.{◌≡◌, refl, sym, ◌∙◌, ap}
use mathlib.Core.Bool.{Bool, true, false, not, ◌&&◌, false≢true}
use mathlib.Core.List.{List}
use native.Mathlib.Omega.{arith}
use lib.ListN.{length, get_or}
use lib.Dec.{ltb}
use Rattle.answers.specs.Choice.{◌⇒◌∣◌}
use Rattle.places.specs.Places.{marked, run_of, within}
use Rattle.places.proofs.Places.{marks_whole}
use Rattle.seams.specs.Seam.{read_of}
use Rattle.seams.proofs.Stored.{bytes_long}
use Rattle.seams.proofs.Taking.{read_at}
use Rattle.clashes.specs.Held.{nothing, byte, held_at, clash_of, room_for}
use Rattle.clashes.specs.Parts.{Room}
use Rattle.clashes.proofs.Fitting.{room_told}
use Rattle.keeping.specs.After.{ring_after, marks_after}
use Rattle.keeping.proofs.Meaning as kept
use Rattle.holding.specs.Kept.{offered_of, keeps, ring_kept, marks_kept, can_hand, handed_of}
use Rattle.std.specs.Prelude.{Option, Some, None, Result, Ok, Err}
use Rattle.holding.specs.declared.OfferError.{OfferError}
use Rattle.holding.specs.declared.OfferError.TheVariants.{Outside, Contradicts}

-- whether an answer is that a frame is held, and of what; whether a read hands over bytes, and how many
abbrev pub is_holds : Result ℕ OfferError → Bool
is_holds (Err why) = false
is_holds (Ok top) = true

abbrev top_of : Result ℕ OfferError → ℕ
top_of (Err why) = 0
top_of (Ok top) = top

abbrev is_bytes : Option ℕ → Bool
is_bytes None = false
is_bytes (Some n) = true

abbrev count_of : Option ℕ → ℕ
count_of None = 0
count_of (Some n) = n

module _ (ring marks : List ℕ) (read held : ℕ) (s : List ℕ) (from len offset : ℕ) where
  -- an offer that holds is kept: it fits and contradicts nothing
  pub record Kept (top : ℕ) : Type 0 where
    pub room : Room ring marks read held s from len offset
    pub agrees : clash_of (held_at ring marks read held) s from len offset ≡ false
    pub top_is : top ≡ max held (offset + len)
    pub ring_is : ring_kept ring marks read held s from len offset ≡ ring_after ring read s from len offset
    pub marks_is : marks_kept ring marks read held s from len offset ≡ marks_after marks read held len offset

  pub holds_kept : (top : ℕ) → offered_of ring marks read held s from len offset ≡ Ok top → Kept top
  unfolding offered_of ring_kept marks_kept keeps
  holds_kept top e = go (room_for ring marks read held s from len offset) (clash_of (held_at ring marks read held) s from len offset) refl refl e
    where
      go : (r c : Bool) → room_for ring marks read held s from len offset ≡ r → clash_of (held_at ring marks read held) s from len offset ≡ c
          → (not r ⇒ Err Outside ∣ c ⇒ Err Contradicts ∣ Ok (max held (offset + len))) ≡ Ok top → Kept top
      go false c a b x = absurd (false≢true (ap is_holds x))
      go true true a b x = absurd (false≢true (ap is_holds x))
      go true false a b x = record { room = room_told _ _ _ _ _ _ _ _ a; agrees = b; top_is = sym (ap top_of x); ring_is = simp (a, b); marks_is = simp (a, b) }

  -- a refusal leaves both
  pub refused_leaves : ((top : ℕ) → offered_of ring marks read held s from len offset ≡ Ok top → ⊥)
      → (ring_kept ring marks read held s from len offset ≡ ring) × (marks_kept ring marks read held s from len offset ≡ marks)
  unfolding offered_of ring_kept marks_kept keeps
  refused_leaves f = go (room_for ring marks read held s from len offset) (clash_of (held_at ring marks read held) s from len offset) refl refl f
    where
      go : (r c : Bool) → room_for ring marks read held s from len offset ≡ r → clash_of (held_at ring marks read held) s from len offset ≡ c
          → ((top : ℕ) → (not r ⇒ Err Outside ∣ c ⇒ Err Contradicts ∣ Ok (max held (offset + len))) ≡ Ok top → ⊥)
          → ((r && not c ⇒ ring_after ring read s from len offset ∣ ring) ≡ ring) × ((r && not c ⇒ marks_after marks read held len offset ∣ marks) ≡ marks)
      go false c a b g = (refl, refl)
      go true true a b g = (refl, refl)
      go true false a b g = absurd (g (max held (offset + len)) refl)

  -- either way there are as many bytes and words as before
  pub ring_long : length (ring_kept ring marks read held s from len offset) ≡ length ring
  unfolding ring_kept keeps ring_after
  ring_long = go (room_for ring marks read held s from len offset) (clash_of (held_at ring marks read held) s from len offset) refl
    where
      go : (r c : Bool) → room_for ring marks read held s from len offset ≡ r → length (r && not c ⇒ ring_after ring read s from len offset ∣ ring) ≡ length ring
      go false c a = refl
      go true true a = refl
      go true false a = bytes_long read _ ∙ sym (room_told _ _ _ _ _ _ _ _ a).bytes

  pub marks_long : length (marks_kept ring marks read held s from len offset) ≡ length marks
  unfolding marks_kept keeps marks_after
  marks_long = go (room_for ring marks read held s from len offset) (clash_of (held_at ring marks read held) s from len offset) refl
    where
      go : (r c : Bool) → room_for ring marks read held s from len offset ≡ r → length (r && not c ⇒ marks_after marks read held len offset ∣ marks) ≡ length marks
      go false c a = refl
      go true true a = refl
      go true false a = (marks_whole read _).long ∙ sym (room_told _ _ _ _ _ _ _ _ a).words

  module _ (top : ℕ) (answer : offered_of ring marks read held s from len offset ≡ Ok top) where
    -- after an offer that holds the frame's places from `read` on are held, with its bytes, and every other place holds what it held
    pub held_after : (p : ℕ) → held_at (ring_kept ring marks read held s from len offset) (marks_kept ring marks read held s from len offset) read top p
        ≡ (within (max read offset) (offset + len) p ⇒ byte (get_or s (from + (p - offset)) 0) ∣ held_at ring marks read held p)
    held_after p =
        let k = holds_kept top answer in
        rw (k.ring_is, k.marks_is, k.top_is) (kept.held_after ring marks read held s from len offset k.room.reach k.room.fits p)

    -- and no byte that is held changes
    pub held_stays : (p b : ℕ) → held_at ring marks read held p ≡ byte b
        → held_at (ring_kept ring marks read held s from len offset) (marks_kept ring marks read held s from len offset) read top p ≡ byte b
    held_stays p b e =
        let k = holds_kept top answer in
        rw (k.ring_is, k.marks_is, k.top_is) (kept.held_stays ring marks read held s from len offset k.room.reach k.room.fits k.agrees p b e)

-- a read hands over the longest run
module _ (ring marks : List ℕ) (read held room n : ℕ) (answer : handed_of ring marks read held room ≡ Some n) where
  handed_count : can_hand ring marks read held ≡ true → n ≡ run_of (marked marks) read (held - read)
  unfolding handed_of
  handed_count can = go (ltb room (run_of (marked marks) read (held - read))) (sym (simp can) ∙ answer)
    where
      go : (b : Bool) → (b ⇒ None ∣ Some (run_of (marked marks) read (held - read))) ≡ Some n → n ≡ run_of (marked marks) read (held - read)
      go true x = absurd (false≢true (ap is_bytes x))
      go false x = sym (ap count_of x)

  handed_none : can_hand ring marks read held ≡ false → n ≡ 0
  unfolding handed_of
  handed_none can = let e : Some 0 ≡ Some n = sym (simp can) ∙ answer in sym (ap count_of e)

  -- each byte of it is the one that is held at its place
  pub handed_held : (k : ℕ) → k < n → held_at ring marks read held (read + k) ≡ byte (get_or (read_of ring read n) k 0)
  handed_held k h = go (can_hand ring marks read held) refl
    where
      go : (b : Bool) → can_hand ring marks read held ≡ b → held_at ring marks read held (read + k) ≡ byte (get_or (read_of ring read n) k 0)
      go false e = absurd (omega (arith, handed_none e))
      go true e = let c = handed_count e in kept.run_held ring marks read held (read + k) (omega arith) (omega (arith, c)) ∙ ap byte (sym (read_at ring read n k h))

  -- and nothing is held at the place after it
  pub handed_whole : can_hand ring marks read held ≡ true → held_at ring marks read held (read + n) ≡ nothing
  handed_whole e = rw (handed_count e) (kept.run_ends ring marks read held)
