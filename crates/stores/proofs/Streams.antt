-- Each stream for itself: after an offer its own part is that of one stream, every other part and what is held there are as they were, and a refusal leaves everything.
-- Assumes nothing.
use Prim.Native.Nat.{ℕ, ◌+◌, ◌-◌, ◌*◌, ◌≤◌, ◌<◌, max}
use mathlib.Core.Path.{◌≡◌, refl, ◌∙◌, ap, ap₂}
use mathlib.Core.Bool.{Bool, true, false, false≢true}
use mathlib.Core.List.{List}
use native.Mathlib.Omega.{arith}
use lib.ListN.{length, get_or}
use Rattle.answers.specs.Choice.{◌⇒◌∣◌}
use Rattle.places.specs.Places.{within}
use Rattle.clashes.specs.Held.{byte, held_at}
use Rattle.holding.specs.Kept.{offered_of, ring_kept, marks_kept}
use Rattle.holding.proofs.Meaning.{is_holds, refused_leaves, ring_long, marks_long, held_after}
use Rattle.stores.specs.Stores.{part_of, with_part, stores_fit, offered_in, rings_kept, marks_kept_in}
use Rattle.stores.proofs.Parts.{part_long, with_long, own_part, other_part, same_part}
use Rattle.stores.proofs.Stores.{fit_told}
use Rattle.std.specs.Prelude.{Ok, Err}
use Rattle.holding.specs.declared.OfferError.TheVariants.{Outside}

module _ (rings marks : List ℕ) (place read held : ℕ) (s : List ℕ) (from len offset : ℕ) where
  abbrev ring_part : List ℕ
  ring_part = ring_kept (part_of 4096 rings place) (part_of 64 marks place) read held s from len offset

  abbrev marks_part : List ℕ
  marks_part = marks_kept (part_of 4096 rings place) (part_of 64 marks place) read held s from len offset

  module _ (fit : stores_fit rings marks place ≡ true) where
    rings_are : rings_kept rings marks place read held s from len offset ≡ with_part 4096 rings place ring_part
    unfolding rings_kept
    rings_are = simp fit

    marks_are : marks_kept_in rings marks place read held s from len offset ≡ with_part 64 marks place marks_part
    unfolding marks_kept_in
    marks_are = simp fit

    rings_room : place * 4096 + 4096 ≤ length rings
    rings_room = let f = fit_told rings marks place fit in omega (arith, f.bytes, f.there)

    marks_room : place * 64 + 64 ≤ length marks
    marks_room = let f = fit_told rings marks place fit in omega (arith, f.words, f.there)

    ring_size : length ring_part ≡ 4096
    ring_size = ring_long _ _ read held s from len offset ∙ part_long 4096 rings place rings_room

    marks_size : length marks_part ≡ 64
    marks_size = marks_long (part_of 4096 rings place) _ read held s from len offset ∙ part_long 64 marks place marks_room

    -- its own part is that of one stream
    pub rings_own : part_of 4096 (rings_kept rings marks place read held s from len offset) place ≡ ring_part
    rings_own = ap (λ (x : List ℕ). part_of 4096 x place) rings_are ∙ own_part 4096 rings place ring_part rings_room ring_size

    pub marks_own : part_of 64 (marks_kept_in rings marks place read held s from len offset) place ≡ marks_part
    marks_own = ap (λ (x : List ℕ). part_of 64 x place) marks_are ∙ own_part 64 marks place marks_part marks_room marks_size

  -- where the stores do not fit nothing changes
  rings_left : stores_fit rings marks place ≡ false → rings_kept rings marks place read held s from len offset ≡ rings
  unfolding rings_kept
  rings_left e = simp e

  marks_left : stores_fit rings marks place ≡ false → marks_kept_in rings marks place read held s from len offset ≡ marks
  unfolding marks_kept_in
  marks_left e = simp e

  -- there are as many bytes and words as before
  pub rings_long : length (rings_kept rings marks place read held s from len offset) ≡ length rings
  rings_long = go (stores_fit rings marks place) refl
    where
      go : (b : Bool) → stores_fit rings marks place ≡ b → length (rings_kept rings marks place read held s from len offset) ≡ length rings
      go true e = ap (λ (x : List ℕ). length x) (rings_are e) ∙ with_long 4096 rings place ring_part (rings_room e) (ring_size e)
      go false e = ap (λ (x : List ℕ). length x) (rings_left e)

  pub all_marks_long : length (marks_kept_in rings marks place read held s from len offset) ≡ length marks
  all_marks_long = go (stores_fit rings marks place) refl
    where
      go : (b : Bool) → stores_fit rings marks place ≡ b → length (marks_kept_in rings marks place read held s from len offset) ≡ length marks
      go true e = ap (λ (x : List ℕ). length x) (marks_are e) ∙ with_long 64 marks place marks_part (marks_room e) (marks_size e)
      go false e = ap (λ (x : List ℕ). length x) (marks_left e)

  -- every other part is as it was
  module _ (other : ℕ) (apart : other ≡ place → ⊥) (there : other < 192) where
    pub rings_other : part_of 4096 (rings_kept rings marks place read held s from len offset) other ≡ part_of 4096 rings other
    rings_other = go (stores_fit rings marks place) refl
      where
        go : (b : Bool) → stores_fit rings marks place ≡ b → part_of 4096 (rings_kept rings marks place read held s from len offset) other ≡ part_of 4096 rings other
        go true e =
            ap (λ (x : List ℕ). part_of 4096 x other) (rings_are e)
            ∙ other_part 4096 rings place ring_part (rings_room e) (ring_size e) other apart (omega (arith, (fit_told rings marks place e).bytes))
        go false e = ap (λ (x : List ℕ). part_of 4096 x other) (rings_left e)

    pub marks_other : part_of 64 (marks_kept_in rings marks place read held s from len offset) other ≡ part_of 64 marks other
    marks_other = go (stores_fit rings marks place) refl
      where
        go : (b : Bool) → stores_fit rings marks place ≡ b → part_of 64 (marks_kept_in rings marks place read held s from len offset) other ≡ part_of 64 marks other
        go true e =
            ap (λ (x : List ℕ). part_of 64 x other) (marks_are e)
            ∙ other_part 64 marks place marks_part (marks_room e) (marks_size e) other apart (omega (arith, (fit_told rings marks place e).words))
        go false e = ap (λ (x : List ℕ). part_of 64 x other) (marks_left e)

    -- so what is held of that stream is what it was
    pub held_other : (from_place up_to_lem p : ℕ)
        → held_at (part_of 4096 (rings_kept rings marks place read held s from len offset) other) (part_of 64 (marks_kept_in rings marks place read held s from len offset) other) from_place up_to_lem p
        ≡ held_at (part_of 4096 rings other) (part_of 64 marks other) from_place up_to_lem p
    held_other a b p = ap₂ (λ (x y : List ℕ). held_at x y a b p) rings_other marks_other

  -- a refusal leaves everything
  pub refused_all : ((top : ℕ) → offered_in rings marks place read held s from len offset ≡ Ok top → ⊥)
      → (rings_kept rings marks place read held s from len offset ≡ rings) × (marks_kept_in rings marks place read held s from len offset ≡ marks)
  unfolding offered_in
  refused_all f = go (stores_fit rings marks place) refl f
    where
      go : (b : Bool) → stores_fit rings marks place ≡ b → ((top : ℕ) → (b ⇒ offered_of (part_of 4096 rings place) (part_of 64 marks place) read held s from len offset ∣ Err Outside) ≡ Ok top → ⊥)
          → (rings_kept rings marks place read held s from len offset ≡ rings) × (marks_kept_in rings marks place read held s from len offset ≡ marks)
      go false e g = (rings_left e, marks_left e)
      go true e g =
          let l = refused_leaves (part_of 4096 rings place) (part_of 64 marks place) read held s from len offset g in (
            rings_are e ∙ ap (with_part 4096 rings place) l.0 ∙ same_part 4096 rings place,
            marks_are e ∙ ap (with_part 64 marks place) l.1 ∙ same_part 64 marks place,
          )

  -- after an offer that holds the frame's places from `read` on are held, with its bytes, and every other place of the stream holds what it held
  pub held_own : (top : ℕ) → offered_in rings marks place read held s from len offset ≡ Ok top → (p : ℕ)
      → held_at (part_of 4096 (rings_kept rings marks place read held s from len offset) place) (part_of 64 (marks_kept_in rings marks place read held s from len offset) place) read top p
      ≡ (within (max read offset) (offset + len) p ⇒ byte (get_or s (from + (p - offset)) 0) ∣ held_at (part_of 4096 rings place) (part_of 64 marks place) read held p)
  unfolding offered_in
  held_own top f p = go (stores_fit rings marks place) refl f
    where
      go : (b : Bool) → stores_fit rings marks place ≡ b → (b ⇒ offered_of (part_of 4096 rings place) (part_of 64 marks place) read held s from len offset ∣ Err Outside) ≡ Ok top
          → held_at (part_of 4096 (rings_kept rings marks place read held s from len offset) place) (part_of 64 (marks_kept_in rings marks place read held s from len offset) place) read top p
          ≡ (within (max read offset) (offset + len) p ⇒ byte (get_or s (from + (p - offset)) 0) ∣ held_at (part_of 4096 rings place) (part_of 64 marks place) read held p)
      go false e x = absurd (false≢true (ap is_holds x))
      go true e x = ap₂ (λ (r m : List ℕ). held_at r m read top p) (rings_own e) (marks_own e) ∙ held_after (part_of 4096 rings place) (part_of 64 marks place) read held s from len offset top x p
