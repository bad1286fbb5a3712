-- What is kept of a line is the line, in however many pieces it comes; and each turn uses some of what comes: a piece without a newline, and the newline if there is one.
-- Assumes nothing.
use mathlib.Core.Path.{◌≡◌, refl, sym, ◌∙◌, ap}
use mathlib.Core.Bool.{true, false}
use mathlib.Core.List.{List, [], ◌∷◌, ◌++◌}
use Prim.Native.Nat.{ℕ, ◌+◌, ◌≤◌, ◌<◌}
use native.Mathlib.Nat.{zero-add}
use native.Mathlib.Omega.{arith}
use borrow.Author.Tests.{ltb-true, ltb-false, lt-ltb, le-ltb}
use lib.ListN.{length, get_or, drop, length-append}
use lib.Seq.{sets, length-sets, sets-eq, split_at, take_all, take_at, get_or-take, length-take-le}
use Rattle.answers.proofs.Choice.{below_or_not}
use Rattle.search.specs.Words.{before}
use Rattle.wire.proofs.Writing.{no_room, all_written}
use Rattle.search.proofs.Search.{found}
use Rattle.lines.specs.Gathered.{grown_of, piece_of, ends_in, used_of, gathered_of, Keeps}
use Rattle.lines.specs.declared.gather.Gathered.{Gathered}
use Rattle.std.specs.Prelude.{Option, Some, None}

module _ (len : ℕ) (l row : List ℕ) where
  grown_kept : len + length l ≤ length row → grown_of (Some len) l row ≡ (Some (len + length l), sets row len l)
  unfolding grown_of
  grown_kept h = rw (all_written row len l h)

  grown_long : length row < len + length l → grown_of (Some len) l row ≡ (None, row)
  unfolding grown_of
  grown_long h = rw (no_room row len l h)

-- a line from its start
first_kept : (l row : List ℕ) → length l ≤ length row → (grown_of (Some 0) l row).0 ≡ Some (length l)
first_kept l row h = rw (grown_kept 0 l row (omega arith), zero-add)

first_long : (l row : List ℕ) → length row < length l → (grown_of (Some 0) l row).0 ≡ None
first_long l row h = rw (grown_long 0 l row (omega arith))

-- a line begins with nothing kept
pub begins : (row : List ℕ) → Keeps row (Some 0) []
begins row = record { known = sym (first_kept [] row (omega arith)); there = λ h. refl }

module _ (row : List ℕ) (line : Option ℕ) (l p : List ℕ) (k : Keeps row line l) where
  -- the text is kept, and the row holds the piece too
  holds_both : length l + length p ≤ length row → Keeps (grown_of line p row).1 (grown_of line p row).0 (l ++ p)
  holds_both h =
      let e = length-append l p in
      let z : line ≡ Some (length l) = k.known ∙ first_kept l row (omega arith) in
      rw (z, grown_kept (length l) p row h) record {
        known = sym (first_kept (l ++ p) (sets row (length l) p) (rw length-sets (omega arith)) ∙ rw e);
        there = λ q. rw (sets-eq p row (length l) h, k.there (omega arith)) (take_at (l ++ p) _ (length (l ++ p)) refl);
      }

  -- it is not kept, or the row does not hold the piece
  holds_no_more : length row < length l + length p → Keeps (grown_of line p row).1 (grown_of line p row).0 (l ++ p)
  unfolding grown_of
  holds_no_more h =
      let e = length-append l p in
      let after : (grown_of (Some 0) (l ++ p) row).0 ≡ None = first_long (l ++ p) row (omega arith) in
      below_or_not (length row) (length l)
      (λ q.
      let z : line ≡ None = k.known ∙ first_long l row q in
      rw z record { known = sym after; there = λ o. absurd (omega arith) })
      (λ q.
      let z : line ≡ Some (length l) = k.known ∙ first_kept l row q in
      rw (z, no_room row (length l) p h) record { known = sym after; there = λ o. absurd (omega arith) })

  -- the law: with a piece more, what is kept is the text with the piece
  pub grows : Keeps (grown_of line p row).1 (grown_of line p row).0 (l ++ p)
  grows = below_or_not (length row) (length l + length p) holds_no_more holds_both

module _ (s : List ℕ) where
  -- the first newline ends the piece, and what is used goes past it
  pub ended : ends_in s ≡ true → s ≡ piece_of s ++ 10 ∷ drop (used_of s) s
  unfolding ends_in used_of piece_of
  ended e =
      let h = ltb-true (before 10 s) (length s) e in
      rw e (rw ((found 10 s).1 h) at (split_at s (before 10 s) 0 h))

  -- without one all is the piece
  pub still_open : ends_in s ≡ false → (piece_of s ≡ s) × (used_of s ≡ length s)
  unfolding ends_in used_of piece_of
  still_open e = (take_all (before 10 s) s (ltb-false (before 10 s) (length s) e), rw e)

  -- no piece has a newline
  pub no_newline : (i : ℕ) → i < length (piece_of s) → get_or (piece_of s) i 0 ≡ 10 → ⊥
  unfolding piece_of
  no_newline i h e =
      let n = length-take-le (before 10 s) s (found 10 s).0 in
      (found 10 s).2 i (omega arith) (sym (get_or-take (before 10 s) s i 0 (omega arith)) ∙ e)

  -- some is used, and no more than there is
  pub progress : 0 < length s → (0 < used_of s) × (used_of s ≤ length s)
  unfolding ends_in used_of
  progress h = below_or_not (before 10 s) (length s) (λ q. rw (lt-ltb (before 10 s) (length s) q) (omega arith, q)) (λ q. rw (le-ltb (before 10 s) (length s) q) (h, omega arith))

  -- the same of a call's answer
  pub uses : (line : Option ℕ) (row : List ℕ) {r : Gathered} {after : List ℕ} → (r, after) ≡ gathered_of line s row → 0 < length s → (0 < r.used) × (r.used ≤ length s)
  unfolding gathered_of
  uses line row {r} e h = let u : r.used ≡ used_of s = ap (λ (o : Gathered × List ℕ). o.0.used) e in rw u (progress h)
