-- The one content that a kept frame leaves: the ring and the marks, from what storing and painting leave.
-- Assumes nothing.
use Prim.Native.Nat.{ℕ, ◌+◌, ◌-◌, ◌%◌, ◌^◌, ◌≤◌, ◌<◌, max}
use mathlib.Core.Path.{◌≡◌, sym, ◌∙◌, ap}
use mathlib.Core.Bool.{true, false}
use mathlib.Core.List.{List}
use native.Mathlib.Omega.{arith}
use native.Mathlib.Decide.{dec_le}
use lib.ListN.{length, get_or}
use Rattle.answers.specs.Choice.{◌⇒◌∣◌}
use Rattle.ring.specs.Bits.{as_bit}
use Rattle.places.specs.Places.{mark_at, marked, within, painted_of}
use Rattle.places.specs.Parts.{Whole, Marked}
use Rattle.places.proofs.Slots.{same_place}
use Rattle.places.proofs.Bounds.{in_bounds, below_bounds, above_bounds, mark_bit}
use Rattle.places.proofs.Places.{marks_is, marks_of_law, painted_whole, painted_marked}
use Rattle.seams.specs.Seam.{stored_of}
use Rattle.seams.specs.Parts.{Stored}
use Rattle.seams.proofs.Stored.{bytes_at, bytes_are, stored_told}
use Rattle.clashes.specs.Held.{room_for}
use Rattle.keeping.specs.After.{ring_after, mark_after, marks_after}

module _ (ring marks : List ℕ) (read held : ℕ) (s : List ℕ) (from len offset : ℕ) where
  abbrev byte_after : ℕ → ℕ
  byte_after p = within offset (offset + len) p ⇒ get_or s (from + (p - offset)) 0 ∣ get_or ring (p % 4096) 0

  -- the byte and the mark of each place from `read` on
  pub ring_after_law : (p : ℕ) → read ≤ p → p < read + 4096 → get_or (ring_after ring read s from len offset) (p % 4096) 0 ≡ byte_after p
  unfolding ring_after
  ring_after_law = bytes_at read byte_after

  pub marks_after_law : (p : ℕ) → read ≤ p → p < read + 4096 → marked (marks_after marks read held len offset) p ≡ mark_after marks held len offset p
  unfolding marks_after
  marks_after_law = marks_of_law read (mark_after marks held len offset)

  -- the mark of a place, by where it lies
  pub mark_in : (p : ℕ) → offset ≤ p → p < offset + len → mark_after marks held len offset p ≡ true
  unfolding mark_after
  mark_in p a b = simp (in_bounds offset (offset + len) p a b)

  pub mark_gap : (p : ℕ) → held ≤ p → p < offset → mark_after marks held len offset p ≡ false
  unfolding mark_after
  mark_gap p a b = simp (below_bounds offset (offset + len) p b, in_bounds held offset p a b)

  pub mark_low : (p : ℕ) → p < held → p < offset → mark_after marks held len offset p ≡ marked marks p
  unfolding mark_after
  mark_low p a b = simp (below_bounds offset (offset + len) p b, below_bounds held offset p a)

  pub mark_high : (p : ℕ) → offset + len ≤ p → mark_after marks held len offset p ≡ marked marks p
  unfolding mark_after
  mark_high p a = simp (above_bounds offset (offset + len) p a, above_bounds held offset p (omega arith))

  -- a frame whose bytes were all read changes nothing
  module _ (past : offset + len ≤ read) where
    pub ring_left : length ring ≡ 4096 → ring ≡ ring_after ring read s from len offset
    unfolding ring_after
    ring_left long = bytes_are read byte_after ring long (λ p a b. simp (above_bounds offset (offset + len) p (omega arith)))

    pub marks_left : Whole marks → marks ≡ marks_after marks read held len offset
    unfolding marks_after
    marks_left whole = marks_is read (mark_after marks held len offset) marks whole (λ p a b. sym (mark_bit marks p) ∙ ap as_bit (sym (mark_high p (omega arith))))

  -- any other frame, from its first place that was not read
  module _ (start gap : ℕ) (first : start ≡ max offset read) (free : gap ≡ max held read) (room : held ≤ read + 4096) (fits : offset + len ≤ read + 4096) (some : read < offset + len) where
    ring_with : (t : List ℕ) → Stored ring start s (from + (start - offset)) (len - (start - offset)) t → t ≡ ring_after ring read s from len offset
    unfolding ring_after
    ring_with t k = bytes_are read byte_after t k.long (λ p a b. go p a b (dec_le offset p) (dec_le (offset + len) p))
      where
        go : (p : ℕ) → read ≤ p → p < read + 4096 → Dec (offset ≤ p) → Dec (offset + len ≤ p) → get_or t (p % 4096) 0 ≡ byte_after p
        go p a b (no l) h =
            let e : p % 4096 ≡ (p + 4096) % 4096 = omega arith in
            simp (below_bounds offset (offset + len) p (omega arith))
            (ap (λ (x : ℕ). get_or t x 0) e ∙ k.rest (p + 4096) (omega arith) (omega arith) ∙ ap (λ (x : ℕ). get_or ring x 0) (sym e))
        go p a b (yes l) (yes h) = simp (above_bounds offset (offset + len) p h) (k.rest p (omega arith) (omega arith))
        go p a b (yes l) (no h) =
            let d : p % 4096 ≡ (start + (p - start)) % 4096 = omega arith in
            let e : from + (start - offset) + (p - start) ≡ from + (p - offset) = omega arith in
            simp (in_bounds offset (offset + len) p l (omega arith))
            (ap (λ (x : ℕ). get_or t x 0) d ∙ k.inside (p - start) (omega arith) ∙ ap (λ (x : ℕ). get_or s x 0) e)

    pub ring_kept : length ring ≡ 4096 → from + len ≤ length s → (t : List ℕ) → t ≡ stored_of ring start s (from + (start - offset)) (len - (start - offset)) → t ≡ ring_after ring read s from len offset
    ring_kept long there t e = ring_with t (rw e (stored_told _ _ _ _ _ (record { long = long; few = omega arith; room = omega arith })))

    marks_with : (v t : List ℕ) → Whole t → Marked marks gap start false v → Marked v start (offset + len) true t → t ≡ marks_after marks read held len offset
    unfolding marks_after
    marks_with v t whole clear set = marks_is read (mark_after marks held len offset) t whole (λ p a b. go p a b (dec_le offset p) (dec_le (offset + len) p) (dec_le held p))
      where
        turn : (w : List ℕ) (p : ℕ) → mark_at w p ≡ mark_at w (p + 4096)
        turn w p = same_place w p (p + 4096) (omega arith) (omega arith)

        -- outside the frame the second marking leaves what the first one left
        outside : (p : ℕ) → read ≤ p → p < read + 4096 → (start ≤ p → p < offset + len → ⊥) → mark_at t p ≡ mark_at v p
        outside p a b f = pick (dec_le start p)
          where
            pick : Dec (start ≤ p) → mark_at t p ≡ mark_at v p
            pick (yes l) = set.rest p l (high (dec_le (offset + len) p)) (omega arith)
              where
                high : Dec (offset + len ≤ p) → offset + len ≤ p
                high (yes h) = h
                high (no h) = absurd (f l (omega arith))
            pick (no l) = turn t p ∙ set.rest (p + 4096) (omega arith) (omega arith) (omega arith) ∙ sym (turn v p)

        -- and outside the gap the first one leaves what was there
        before : (p : ℕ) → read ≤ p → p < read + 4096 → (gap ≤ p → p < start → ⊥) → mark_at v p ≡ mark_at marks p
        before p a b f = pick (dec_le gap p)
          where
            pick : Dec (gap ≤ p) → mark_at v p ≡ mark_at marks p
            pick (yes l) = clear.rest p l (high (dec_le start p)) (omega arith)
              where
                high : Dec (start ≤ p) → start ≤ p
                high (yes h) = h
                high (no h) = absurd (f l (omega arith))
            pick (no l) = turn v p ∙ clear.rest (p + 4096) (omega arith) (omega arith) (omega arith) ∙ sym (turn marks p)

        go : (p : ℕ) → read ≤ p → p < read + 4096 → Dec (offset ≤ p) → Dec (offset + len ≤ p) → Dec (held ≤ p) → mark_at t p ≡ as_bit (mark_after marks held len offset p)
        go p a b (yes l) (no h) d = set.inside p (omega arith) (omega arith) ∙ ap as_bit (sym (mark_in p l (omega arith)))
        go p a b (yes l) (yes h) d = outside p a b (λ x y. omega arith) ∙ before p a b (λ x y. omega arith) ∙ sym (mark_bit marks p) ∙ ap as_bit (sym (mark_high p h))
        go p a b (no l) h (yes d) = outside p a b (λ x y. omega arith) ∙ clear.inside p (omega arith) (omega arith) ∙ ap as_bit (sym (mark_gap p d (omega arith)))
        go p a b (no l) h (no d) = outside p a b (λ x y. omega arith) ∙ before p a b (λ x y. omega arith) ∙ sym (mark_bit marks p) ∙ ap as_bit (sym (mark_low p (omega arith) (omega arith)))

    pub marks_kept : length marks ≡ 64 → read < 2 ^ 62 → (v t : List ℕ) → v ≡ painted_of marks gap start false → t ≡ painted_of v start (offset + len) true → t ≡ marks_after marks read held len offset
    marks_kept long low v t e f =
        let whole : Whole v = rw e (painted_whole marks gap start false long (omega arith) (omega arith)) in
        marks_with v t (rw f (painted_whole v start (offset + len) true whole.long (omega arith) (omega arith))) (rw e (painted_marked marks gap start false long (omega arith) (omega arith)))
        (rw f (painted_marked v start (offset + len) true whole.long (omega arith) (omega arith)))

  -- the answer, the ring and the marks, as `keep` tells and leaves them
  abbrev pub Leaves : ℕ → List ℕ → List ℕ → Type 0
  Leaves top r m =
      (top ≡ (room_for ring marks read held s from len offset ⇒ max held (offset + len) ∣ held))
      × ((r ≡ (room_for ring marks read held s from len offset ⇒ ring_after ring read s from len offset ∣ ring))
      × (m ≡ (room_for ring marks read held s from len offset ⇒ marks_after marks read held len offset ∣ marks)))

  pub keeps_none : room_for ring marks read held s from len offset ≡ false → Leaves held ring marks
  keeps_none e = (simp e, (simp e, simp e))

  pub keeps : room_for ring marks read held s from len offset ≡ true → (top : ℕ) (r m : List ℕ) → top ≡ max held (offset + len) → r ≡ ring_after ring read s from len offset
      → m ≡ marks_after marks read held len offset → Leaves top r m
  keeps e top r m a b c = (a ∙ simp e, (b ∙ simp e, c ∙ simp e))
