-- The pieces of a frame stored one after the other are stored as one run, the frame's bytes.
-- Assumes nothing.
use mathlib.Core.Path.{◌≡◌, ◌∙◌}
use mathlib.Core.Bool.{true}
use mathlib.Core.List.{List, [], ◌∷◌, ◌++◌, append_assoc}
use Prim.Native.Nat.{ℕ, ◌+◌, ◌-◌, ◌^◌, ◌≤◌, ◌<◌}
use native.Mathlib.Numerals.{add-one}
use native.Mathlib.Omega.{arith}
use borrow.Author.Tests.{le-leb}
use lib.ListN.{length, take, length-append}
use lib.Seq.{length-sets}
use Rattle.wire.specs.Number.{bytes_of}
use Rattle.wire.specs.Writing.{Bytes, writes, Written}
use Rattle.wire.proofs.Writing.{bytes_written, bytes_unrefused}
use Rattle.row.specs.Row.{in_range, bytes_all, row_draft}
use Rattle.row.proofs.Back as row
use Rattle.layouts.specs.Layout.{layout_of}
use Rattle.contents.specs.Content.{Content}
use Rattle.contents.specs.Taken.{takes}
use Rattle.contents.proofs.Taking as taking
use Rattle.bodies.proofs.Joined.{joined}
use Rattle.sizes.specs.Spelled.{four_bytes, spelled_frame}
use Rattle.sizes.proofs.Spelling.{front, middle, back}
use Rattle.std.specs.Prelude.{Result, Ok, Err}
use Rattle.answers.specs.declared.Answer.{Answer}

-- a frame's type and the numbers before its body, as one row
module _ (f : Content) where
  abbrev pub head : List ℕ
  head = bytes_of f.ty ++ front f

  abbrev pub heading : List ℕ
  heading = f.ty ∷ f.a ∷ f.b ∷ f.c ∷ f.d ∷ []

  pub head_row : bytes_all (take ((layout_of f.ty).numbers + 1) heading) ≡ head
  unfolding bytes_all four_bytes
  head_row = simp add-one

  pub spelled_pieces : spelled_frame f ≡ head ++ (middle f ++ back f)
  unfolding spelled_frame
  spelled_pieces = rw append_assoc

pub range_more : (v : ℕ) (vs : List ℕ) → v < 2 ^ 62 → in_range vs ≡ true → in_range (v ∷ vs) ≡ true
unfolding in_range
range_more v vs h r = rw (le-leb v (2 ^ 62 - 1) (omega arith), r)

pub range_four : (a b c d : ℕ) → a < 2 ^ 62 → b < 2 ^ 62 → c < 2 ^ 62 → d < 2 ^ 62 → in_range (a ∷ b ∷ c ∷ d ∷ []) ≡ true
unfolding in_range
range_four a b c d h i j k =
    rw (le-leb a (2 ^ 62 - 1) (omega arith), le-leb b (2 ^ 62 - 1) (omega arith), le-leb c (2 ^ 62 - 1) (omega arith), le-leb d (2 ^ 62 - 1) (omega arith))

-- the pieces of a frame that can be written, one after the other into an output with room for all: each has room after those before it, and together they are the frame
module _ (f : Content) (low : f.ty < 2 ^ 62) (t : takes f ≡ true) (out : List ℕ) (at : ℕ) (room : at + length (spelled_frame f) ≤ length out) where
  lengths : length (spelled_frame f) ≡ length (head f) + length (middle f) + length (back f)
  lengths = rw (spelled_pieces f) (omega (arith, length-append (head f) (middle f ++ back f), length-append (middle f) (back f)))

  head_draft : row_draft (take ((layout_of f.ty).numbers + 1) (heading f)) ≡ Bytes (head f)
  head_draft =
      let r = row.range_take ((layout_of f.ty).numbers + 1) (heading f) (range_more f.ty _ low (range_four _ _ _ _ (taking.low f t).a (taking.low f t).b (taking.low f t).c (taking.low f t).d)) in
      rw (row.in_range_law _ r, head_row f)

  module _ {w : Result ℕ Answer} {one : List ℕ} (e : (w, one) ≡ writes (row_draft (take ((layout_of f.ty).numbers + 1) (heading f))) out at) where
    pub head_unrefused : {a : Answer} → w ≡ Err a → ⊥
    head_unrefused = bytes_unrefused (head f) out at (rw head_draft at e) (omega (arith, lengths))

    pub head_put : {q : ℕ} → w ≡ Ok q → Written (head f) out at q one
    head_put = bytes_written (head f) out at (rw head_draft at e)

  module _ {one : List ℕ} {q : ℕ} (x : Written (head f) out at q one) where
    pub room_one : q + length (middle f) ≤ length one
    room_one = rw (x.holds, length-sets) (omega (arith, x.ends, lengths))

    module _ {two : List ℕ} {r : ℕ} (y : Written (middle f) one q r two) where
      pub back_put : {w : Result ℕ Answer} {three : List ℕ} → (w, three) ≡ writes (row_draft (take (layout_of f.ty).after (f.x ∷ f.y ∷ f.z ∷ 0 ∷ []))) two r → (w, three) ≡ writes (Bytes (spelled_frame f)) out at
      unfolding four_bytes
      back_put e =
          let u = row.range_take (layout_of f.ty).after (f.x ∷ f.y ∷ f.z ∷ 0 ∷ []) (range_four _ _ _ _ (taking.low f t).x (taking.low f t).y (taking.low f t).z (omega arith)) in
          let k = rw (spelled_pieces f) at room in
          let n = joined (middle f) (back f) one q y.holds y.ends (rw (x.holds, length-sets) (omega (arith, x.ends, lengths))) in
          let h = joined (head f) (middle f ++ back f) out at x.holds x.ends (omega (arith, k, length-append (head f) (middle f ++ back f))) in
          rw (row.in_range_law _ u) at e ∙ n ∙ h ∙ rw (← spelled_pieces f)
