-- The bytes of a frame from those of its pieces: how many they are, and whether they are to be written at all.
-- Assumes nothing.
use mathlib.Core.Path.{◌≡◌, sym}
use mathlib.Core.Bool.{true, false}
use mathlib.Core.List.{List, [], ◌∷◌, ◌++◌}
use Prim.Native.Nat.{ℕ, ◌+◌, ◌≤◌}
use native.Mathlib.Omega.{arith}
use lib.ListN.{length, take, length-append}
use lib.Seq.{length-take-le}
use Rattle.answers.specs.declared.Answer.TheVariants.{Unwritable}
use Rattle.wire.specs.Number.{bytes_of, size_of}
use Rattle.wire.specs.Writing.{Bytes, Never}
use Rattle.wire.proofs.Exit.{length_bytes}
use Rattle.row.specs.Row.{size_all}
use Rattle.row.proofs.Back as row
use Rattle.layouts.specs.Layout.{layout_of}
use Rattle.contents.specs.Content.{Content}
use Rattle.contents.specs.Taken.{takes}
use Rattle.sizes.specs.Spelled.{four_bytes, body_bytes, spelled_frame, frame_draft}

module _ (f : Content) where
  abbrev pub front : List ℕ
  front = four_bytes (layout_of f.ty).numbers f.a f.b f.c f.d

  abbrev pub middle : List ℕ
  middle = body_bytes (layout_of f.ty).tail f.len f.body f.token

  abbrev pub back : List ℕ
  back = four_bytes (layout_of f.ty).after f.x f.y f.z 0

  pub spelled_length : length (spelled_frame f) ≡ size_of f.ty + length front + length middle + length back
  unfolding spelled_frame
  spelled_length =
      omega (arith, length_bytes f.ty, length-append (bytes_of f.ty) (front ++ (middle ++ back)), length-append front (middle ++ back), length-append middle back)

-- what is to be written of it, by whether it can be
module _ (f : Content) where
  pub unwritable : takes f ≡ false → frame_draft f ≡ Never Unwritable
  unfolding frame_draft
  unwritable e = rw e

  pub writable : takes f ≡ true → frame_draft f ≡ Bytes (spelled_frame f)
  unfolding frame_draft
  writable e = rw e

-- the first of four numbers have as many bytes as the writer counts, and few
pub four_size : (n a b c d : ℕ) → n ≤ 4 → (size_all (take n (a ∷ b ∷ c ∷ d ∷ [])) ≡ length (four_bytes n a b c d)) × (size_all (take n (a ∷ b ∷ c ∷ d ∷ [])) ≤ 32)
unfolding four_bytes
four_size n a b c d h =
    let vs = take n (a ∷ b ∷ c ∷ d ∷ []) in
    let l : length vs ≡ n = length-take-le n (a ∷ b ∷ c ∷ d ∷ []) h in
    (sym (row.length_all vs), omega (arith, row.size_most vs, l))
