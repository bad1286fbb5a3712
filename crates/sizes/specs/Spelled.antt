-- The bytes of a frame: its layout filled with its contents, every number in its shortest form.
use Rattle.std.specs.Prelude.{◌≡◌, ℕ, ◌^◌, ◌<◌, true, not, List, [], ◌∷◌, ◌++◌, take}
use Rattle.answers.specs.Choice.{◌⇒◌∣◌}
use Rattle.answers.specs.declared.Answer.TheVariants.{Unwritable}
use Rattle.wire.specs.Number.{bytes_of}
use Rattle.wire.specs.Writing.{Draft, Bytes, Never}
use Rattle.row.specs.Row.{bytes_all}
use Rattle.layouts.specs.Layout.{layout_of}
use Rattle.fields.specs.declared.Parts.{Parts}
use Rattle.layouts.specs.declared.Tail.{Tail}
use Rattle.layouts.specs.declared.Tail.TheVariants.{Nothing, Counted, Remainder, Eight, Identity, Ranges}
use Rattle.contents.specs.Content.{Content, inside_of}
use Rattle.contents.specs.Taken.{takes}

-- the first n of four numbers
unfoldable pub four_bytes : ℕ → ℕ → ℕ → ℕ → ℕ → List ℕ
four_bytes n a b c d = bytes_all (take n (a ∷ b ∷ c ∷ d ∷ []))

-- what stands after them
abbrev pub body_bytes : Tail → ℕ → List ℕ → List ℕ → List ℕ
body_bytes Nothing len body token = []
body_bytes Counted len body token = bytes_of len ++ body
body_bytes Remainder len body token = body
body_bytes Eight len body token = body
body_bytes Identity len body token = len ∷ (body ++ token)
body_bytes Ranges len body token = bytes_all body

unfoldable pub spelled_frame : Content → List ℕ
spelled_frame f =
    let l = layout_of f.ty in
    bytes_of f.ty ++ (four_bytes l.numbers f.a f.b f.c f.d ++ (body_bytes l.tail f.len f.body f.token ++ four_bytes l.after f.x f.y f.z 0))

-- a frame: one that cannot be written is 109
unfoldable pub frame_draft : Content → Draft
frame_draft f =
    not (takes f) ⇒ Never Unwritable
    ∣ Bytes (spelled_frame f)

-- a connection ID's length fits into its byte
abbrev pub InByte : Tail → ℕ → Type 0
InByte Nothing len = Unit
InByte Counted len = Unit
InByte Remainder len = Unit
InByte Eight len = Unit
InByte Identity len = len < 256
InByte Ranges len = Unit

-- what a body must be so that it can be written: its places lie inside a slice of n bytes, and its numbers are in range
pub record Bounded (n : ℕ) (tail : Tail) (p : Parts) : Type 0 where
  pub inside : inside_of n tail p ≡ true
  pub len : p.len < 2 ^ 62
  pub count : p.c < 2 ^ 62
  pub byte : InByte tail p.len
