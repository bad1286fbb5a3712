-- The pieces of a frame: the numbers before and after its body, bytes and their length in front of them (a length that has no form there is 109), and the place after a piece.
use Rattle.std.specs.Prelude.{ℕ, ◌+◌, ◌-◌, ◌^◌, List, [], ◌∷◌, length, take, ltb, Result, Ok, Err}
use Rattle.answers.specs.Choice.{◌⇒◌∣◌}
use Rattle.answers.specs.declared.Answer.TheVariants.{Unwritable}
use Rattle.wire.specs.Writing.{Draft, Bytes, Never}
use Rattle.layouts.specs.Layout.{layout_of}
use Rattle.fields.specs.declared.Parts.{Parts}
use Rattle.sizes.specs.Spelled.{body_bytes}
use Rattle.layouts.specs.declared.Tail.TheVariants.{Counted, Identity}
use Rattle.answers.specs.declared.Answer.{Answer}

-- a frame's type and the numbers that its layout has before its body
abbrev pub front_of : Parts → List ℕ
front_of p = take ((layout_of p.ty).numbers + 1) (p.ty ∷ p.a ∷ p.b ∷ p.c ∷ p.d ∷ [])

-- and those after it
abbrev pub back_of : Parts → List ℕ
back_of p = take (layout_of p.ty).after (p.x ∷ p.y ∷ p.z ∷ 0 ∷ [])

-- the length is a number on the wire
unfoldable pub counted_draft : List ℕ → Draft
counted_draft body =
    ltb (2 ^ 62 - 1) (length body) ⇒ Never Unwritable
    ∣ Bytes (body_bytes Counted (length body) body [])

-- a connection ID, whose length is one byte, and a token (19.15)
unfoldable pub identity_draft : List ℕ → List ℕ → Draft
identity_draft id token =
    ltb 255 (length id) ⇒ Never Unwritable
    ∣ Bytes (body_bytes Identity (length id) id token)

-- the place after what was written, 0 after a refusal
unfoldable pub place_after : Result ℕ Answer → ℕ
place_after (Ok next) = next
place_after (Err answer) = 0
