-- What the contracts mean for what is held, place by place: after a frame was kept, after a read, and along the longest run.
-- Assumes nothing.
use Prim.Native.Nat.{ℕ, ◌+◌, ◌-◌, ◌%◌, ◌≤◌, ◌<◌, max}
use mathlib.Core.Path.{◌≡◌, refl, sym, ◌∙◌, ap}
use mathlib.Core.Bool.{Bool, true, false}
use mathlib.Core.List.{List}
use native.Mathlib.Omega.{arith}
use native.Mathlib.Decide.{dec_le}
use lib.ListN.{get_or}
use lib.Dec.{ltb}
use borrow.Author.Tests.{lt-ltb, le-ltb, eqb-true, not-false}
use Rattle.answers.specs.Choice.{◌⇒◌∣◌}
use Rattle.places.specs.Places.{marked, run_of, within}
use Rattle.places.proofs.Bounds.{in_bounds, below_bounds, above_bounds, bounds}
use Rattle.places.proofs.Running.{run_longest}
use Rattle.seams.proofs.Compared.{none_some}
use Rattle.clashes.specs.Held.{nothing, byte, held_at, contradicts, clash_of}
use Rattle.clashes.proofs.Clashing.{held_below, held_above}
use Rattle.keeping.specs.After.{ring_after, mark_after, marks_after}
use Rattle.keeping.proofs.Keeping.{ring_after_law, marks_after_law, mark_in, mark_gap, mark_low, mark_high}

-- what is held at a place between `read` and `held`, by its mark
held_by : (ring marks : List ℕ) (read held p : ℕ) → read ≤ p → p < held → held_at ring marks read held p ≡ (marked marks p ⇒ byte (get_or ring (p % 4096) 0) ∣ nothing)
unfolding held_at
held_by ring marks read held p a b = simp (in_bounds read held p a b)

-- after a frame was kept its places from `read` on are held, with its bytes, and every other place holds what it held
module _ (ring marks : List ℕ) (read held : ℕ) (s : List ℕ) (from len offset : ℕ) (room : held ≤ read + 4096) (fits : offset + len ≤ read + 4096) where
  pub held_after : (p : ℕ) → held_at (ring_after ring read s from len offset) (marks_after marks read held len offset) read (max held (offset + len)) p
      ≡ (within (max read offset) (offset + len) p ⇒ byte (get_or s (from + (p - offset)) 0) ∣ held_at ring marks read held p)
  held_after p = go (dec_le read p) (dec_le (max held (offset + len)) p) (dec_le offset p) (dec_le (offset + len) p) (dec_le held p)
    where
      R : List ℕ
      R = ring_after ring read s from len offset

      M : List ℕ
      M = marks_after marks read held len offset

      same : read ≤ p → p < max held (offset + len) → mark_after marks held len offset p ≡ marked marks p → within offset (offset + len) p ≡ false → p < held
          → held_at R M read (max held (offset + len)) p ≡ held_at ring marks read held p
      same a b e f h =
          held_by R M read (max held (offset + len)) p a b
          ∙ (simp (marks_after_law ring marks read held s from len offset p a (omega arith) ∙ e, ring_after_law ring marks read held s from len offset p a (omega arith), f))
          ∙ sym (held_by ring marks read held p a h)

      go : Dec (read ≤ p) → Dec (max held (offset + len) ≤ p) → Dec (offset ≤ p) → Dec (offset + len ≤ p) → Dec (held ≤ p)
          → held_at R M read (max held (offset + len)) p ≡ (within (max read offset) (offset + len) p ⇒ byte (get_or s (from + (p - offset)) 0) ∣ held_at ring marks read held p)
      go (no a) b c d h = held_below R M read _ p (omega arith) ∙ simp (below_bounds (max read offset) (offset + len) p (omega arith), held_below ring marks read held p (omega arith))
      go (yes a) (yes b) c d h = held_above R M read _ p b ∙ simp (above_bounds (max read offset) (offset + len) p (omega arith), held_above ring marks read held p (omega arith))
      go (yes a) (no b) (yes c) (no d) h =
          held_by R M read _ p a (omega arith)
          ∙ simp (
            marks_after_law ring marks read held s from len offset p a (omega arith) ∙ mark_in ring marks read held s from len offset p c (omega arith),
            ring_after_law ring marks read held s from len offset p a (omega arith),
            in_bounds offset (offset + len) p c (omega arith),
            in_bounds (max read offset) (offset + len) p (omega arith) (omega arith),
          )
      go (yes a) (no b) (yes c) (yes d) h =
          same a (omega arith) (mark_high ring marks read held s from len offset p d) (above_bounds offset (offset + len) p d) (omega arith)
          ∙ simp (above_bounds (max read offset) (offset + len) p d)
      go (yes a) (no b) (no c) d (yes h) =
          held_by R M read _ p a (omega arith)
          ∙ simp (
            marks_after_law ring marks read held s from len offset p a (omega arith) ∙ mark_gap ring marks read held s from len offset p h (omega arith),
            below_bounds (max read offset) (offset + len) p (omega arith),
            held_above ring marks read held p h,
          )
      go (yes a) (no b) (no c) d (no h) =
          same a (omega arith) (mark_low ring marks read held s from len offset p (omega arith) (omega arith)) (below_bounds offset (offset + len) p (omega arith)) (omega arith)
          ∙ simp (below_bounds (max read offset) (offset + len) p (omega arith))

  -- a frame that contradicts nothing changes no byte that is held
  pub held_stays : clash_of (held_at ring marks read held) s from len offset ≡ false → (p b : ℕ) → held_at ring marks read held p ≡ byte b
      → held_at (ring_after ring read s from len offset) (marks_after marks read held len offset) read (max held (offset + len)) p ≡ byte b
  unfolding clash_of
  held_stays none p b e = held_after p ∙ go (within (max read offset) (offset + len) p) refl
    where
      go : (t : Bool) → within (max read offset) (offset + len) p ≡ t → (t ⇒ byte (get_or s (from + (p - offset)) 0) ∣ held_at ring marks read held p) ≡ byte b
      go false w = e
      go true w =
          let i = bounds (max read offset) (offset + len) p w in
          let k : offset + (p - offset) ≡ p = omega (arith, i) in
          let x : contradicts (held_at ring marks read held (offset + (p - offset))) (get_or s (from + (p - offset)) 0) ≡ false = none_some len _ none (p - offset) (omega (arith, i)) in
          let y : held_at ring marks read held (offset + (p - offset)) ≡ byte b = ap (held_at ring marks read held) k ∙ e in
          ap byte (sym (eqb-true b _ (not-false _ (rw y at x))))

-- reading on to `next` lets go of what is below it and of nothing else
pub held_read : (ring marks : List ℕ) (read held next p : ℕ) → read ≤ next → held_at ring marks next held p ≡ (ltb p next ⇒ nothing ∣ held_at ring marks read held p)
held_read ring marks read held next p h = go (dec_le next p) (dec_le held p)
  where
    go : Dec (next ≤ p) → Dec (held ≤ p) → held_at ring marks next held p ≡ (ltb p next ⇒ nothing ∣ held_at ring marks read held p)
    go (no a) b = held_below ring marks next held p (omega arith) ∙ simp (lt-ltb p next (omega arith))
    go (yes a) (yes b) = held_above ring marks next held p b ∙ simp (le-ltb p next a, held_above ring marks read held p b)
    go (yes a) (no b) = held_by ring marks next held p a (omega arith) ∙ simp (le-ltb p next a, held_by ring marks read held p (omega arith) (omega arith))

-- the run: every place of it is held, and the place after it is not
module _ (ring marks : List ℕ) (read held : ℕ) where
  abbrev len : ℕ
  len = run_of (marked marks) read (held - read)

  pub run_held : (p : ℕ) → read ≤ p → p < read + len → held_at ring marks read held p ≡ byte (get_or ring (p % 4096) 0)
  run_held p a b =
      let l = run_longest (marked marks) (held - read) read in
      held_by ring marks read held p a (omega (arith, l.fits)) ∙ simp (l.all p a b)

  pub run_ends : held_at ring marks read held (read + len) ≡ nothing
  run_ends = go (dec_le held (read + len))
    where
      go : Dec (held ≤ read + len) → held_at ring marks read held (read + len) ≡ nothing
      go (yes h) = held_above ring marks read held (read + len) h
      go (no h) = held_by ring marks read held (read + len) (omega arith) (omega arith) ∙ simp ((run_longest (marked marks) (held - read) read).stop (omega arith))
