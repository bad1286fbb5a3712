-- The fields of a frame of a known type: what stands there by its layout, unless it is one of docs/RULES.md, "Fields that give 7".
use Rattle.std.specs.Prelude.{ℕ, List, Option, Some, None}
use Rattle.answers.specs.Choice.{◌⇒◌∣◌}
use Rattle.layouts.specs.Layout.{layout_of}
use Rattle.layouts.specs.Body.{numbers_at, with_numbers, body_at, with_body}
use Rattle.fields.specs.Faults.{fault_of}
use Rattle.fields.specs.declared.Parts.{Parts}

-- the numbers after a frame's bytes, and all its parts, unless they have a fault
unfoldable pub ended_at : List ℕ → ℕ → ℕ → Parts → Option (Parts × ℕ)
ended_at s at after p =
    with_numbers (numbers_at s at after) None (λ x y z rest next.
    fault_of p.ty p.a p.b p.len ⇒ None
    ∣ Some (record { ty = p.ty; a = p.a; b = p.b; c = p.c; d = p.d; at = p.at; len = p.len; token = p.token; x = x; y = y; z = z }, next))

-- the fields at a place
unfoldable pub parts_at : List ℕ → ℕ → ℕ → Option (Parts × ℕ)
parts_at s at ty =
    let l = layout_of ty in
    with_numbers (numbers_at s at l.numbers) None (λ a b c d p.
    with_body (body_at s p l.tail a c d) None (λ start len token q.
    ended_at s q l.after (record { ty = ty; a = a; b = b; c = c; d = d; at = start; len = len; token = token; x = 0; y = 0; z = 0 })))

-- goes on with the parts and the place after them, or with x
abbrev pub with_fields : {X : Type 0} → Option (Parts × ℕ) → X → (Parts → ℕ → X) → X
with_fields (Some (parts, next)) x k = k parts next
with_fields None x k = x
