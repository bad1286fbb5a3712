-- What is left of a text from a place on: the character there and the rest; and nothing at its end.
-- Assumes nothing.
use mathlib.Core.Path.{◌≡◌, sym, ◌∙◌}
use mathlib.Core.Bool.{Bool, ◌&&◌}
use mathlib.Core.List.{List, [], ◌∷◌}
use Prim.Native.Nat.{ℕ, ◌+◌, ◌-◌, ◌≤◌, ◌<◌}
use native.Mathlib.Numerals.{add-one}
use native.Mathlib.Omega.{arith}
use lib.Dec.{leb}
use lib.ListN.{length, get_or, drop, drop_of_length-le}
use borrow.Rule.Slice.PartMut.{put_mid}
use lib.Seq.{sets, drop-cons}
use Rattle.std.proofs.lemmas.List.Edits.{sets-eq}
use Rattle.std.proofs.lemmas.List.{drop-drop}
use mathlib.Core.List.{append_assoc}
use borrow.Author.Tests.{le-leb, lt-leb}
use Rattle.answers.proofs.Choice.{below_or_not}
use Rattle.text.specs.Text.{every}

module _ (l : List ℕ) (i : ℕ) (h : i < length l) where
  pub step : drop i l ≡ get_or l i 0 ∷ drop (i + 1) l
  step = rw (add-one, drop-cons l i 0 h)

  pub every_step : (test : ℕ → Bool) → every test (drop i l) ≡ (test (get_or l i 0) && every test (drop (i + 1) l))
  unfolding every
  every_step test = rw step

-- a text in the place of as many bytes
pub copied : (out : List ℕ) (at : ℕ) (l : List ℕ) → at + length l ≤ length out → put_mid at (at + length l - at) out l ≡ sets out at l
copied out at l h =
    let e : at + length l - at ≡ length l = omega arith in
    rw (sets-eq l out at h, append_assoc, e, drop-drop)

pub ended : (l : List ℕ) (i : ℕ) → length l ≤ i → drop i l ≡ []
ended l i h = drop_of_length-le l h

-- room for so many from a place on, asked without the sum
pub room : (n at size : ℕ) → at ≤ n → leb size (n - at) ≡ leb (at + size) n
room n at size h = below_or_not (n - at) size
    (λ p. lt-leb size (n - at) p ∙ sym (lt-leb (at + size) n (omega arith)))
    (λ p. le-leb size (n - at) p ∙ sym (le-leb (at + size) n (omega arith)))
