-- A text up to the first of a byte and what stands after it, and the words of a line one after the other.
-- Assumes nothing.
use mathlib.Core.Path.{◌≡◌, refl, sym, ◌∙◌}
use mathlib.Core.List.{List}
use Prim.Native.Nat.{ℕ, zero, suc, ◌+◌, ◌-◌, ◌≤◌, ◌<◌}
use native.Mathlib.Nat.{zero-add}
use native.Mathlib.Numerals.{add-one}
use native.Mathlib.Omega.{arith}
use lib.ListN.{length, take, drop, length-drop}
use lib.Seq.{take_all, length-take-le}
use Rattle.search.specs.Words.{before, find_of}
use Rattle.text.proofs.Steps.{ended}
use Rattle.search.proofs.Search.{found}
use Rattle.lines.specs.Words.{behind_blank, from_word, first_word}

module _ (s : List ℕ) (b end : ℕ) (e : end ≡ find_of s 0 b) where
  -- searching from the start
  pub from_start : end ≡ before b s
  unfolding find_of
  from_start = e ∙ zero-add (before b s)

  pub up_to : take end s ≡ take (before b s) s
  up_to = rw from_start

  pub within : end ≤ length s
  within = rw from_start (found b s).0

  -- all of the part up to there is there
  pub part : end ≡ length (take end s)
  part = sym (length-take-le end s within)

module _ (s : List ℕ) where
  -- all from a place on
  pub rest_of : (at : ℕ) → take (length s - at) (drop at s) ≡ drop at s
  rest_of at = take_all (length s - at) (drop at s) (omega (arith, length-drop at s))

  pub behind_found : (end : ℕ) → end ≡ find_of s 0 32 → drop (end + 1) s ≡ behind_blank s
  unfolding behind_blank
  behind_found end e = rw (add-one, from_start s 32 end e)

  pub behind_none : (end : ℕ) → end ≡ find_of s 0 32 → length s ≤ end → drop end s ≡ behind_blank s
  unfolding behind_blank
  behind_none end e h = ended s end h ∙ sym (ended s (suc (before 32 s)) (omega (arith, from_start s 32 end e)))

  pub word_less : (left at : ℕ) → 0 < left → drop at s ≡ behind_blank s → from_word (take (length s - at) (drop at s)) (left - 1) ≡ from_word s left
  unfolding from_word
  word_less zero at h e = absurd (omega arith)
  word_less (suc left) at h e = let z : suc left - 1 ≡ left = omega arith in rw (rest_of at, e, z) refl

  pub word_here : (left end : ℕ) → left ≤ 0 → end ≡ find_of s 0 32 → take end s ≡ first_word (from_word s left)
  unfolding from_word first_word
  word_here zero end h e = up_to s 32 end e
  word_here (suc left) end h e = absurd (omega arith)
