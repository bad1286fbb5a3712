-- The pieces of a frame make the frame: the row of its type and first numbers, its body, and the row of the numbers after that are its bytes one after the other.
-- Assumes nothing.
use mathlib.Core.Path.{◌≡◌, sym}
use mathlib.Core.List.{List, ◌++◌}
use Prim.Native.Nat.{ℕ}
use Rattle.row.specs.Row.{bytes_all}
use Rattle.layouts.specs.Layout.{layout_of}
use Rattle.fields.specs.declared.Parts.{Parts}
use Rattle.contents.specs.Content.{body_of, token_of, content_of}
use Rattle.sizes.specs.Spelled.{four_bytes, body_bytes, spelled_frame}
use Rattle.bodies.specs.Bodies.{front_of, back_of}
use Rattle.writing.proofs.Spelling.{head_row, spelled_pieces}

pub joined : (s : List ℕ) (p : Parts)
    → bytes_all (front_of p) ++ (body_bytes (layout_of p.ty).tail p.len (body_of s (layout_of p.ty).tail p) (token_of s (layout_of p.ty).tail p) ++ bytes_all (back_of p)) ≡ spelled_frame (content_of s p)
unfolding four_bytes
joined s p = rw (head_row (content_of s p)) (sym (spelled_pieces (content_of s p)))
