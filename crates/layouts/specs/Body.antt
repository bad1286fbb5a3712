-- What stands after a frame's type: numbers, and what a tail holds. A field that cannot be read ends the frame.
use Rattle.std.specs.Prelude.{ℕ, ◌+◌, ◌-◌, Bool, List, length, get_or, ltb, Option, Some, None}
use Rattle.answers.specs.Choice.{◌⇒◌∣◌}
use Rattle.wire.specs.Number.{number_at, with_number}
use Rattle.ranges.specs.Ranges.{ranges_at, with_ranges}
use Rattle.layouts.specs.declared.Tail.{Tail}
use Rattle.layouts.specs.declared.Tail.TheVariants.{Nothing, Counted, Remainder, Eight, Identity, Ranges}
use Rattle.layouts.specs.declared.Numbers.{Numbers}
use Rattle.layouts.specs.declared.Body.{Body}

-- four numbers and the place after them
abbrev pub are : ℕ → ℕ → ℕ → ℕ → ℕ → Option Numbers
are a b c d next = Some (record { a = a; b = b; c = c; d = d; next = next })

-- the places of a body, and the place after it
abbrev pub holds_at : ℕ → ℕ → ℕ → ℕ → Option Body
holds_at at len token next = Some (record { at = at; len = len; token = token; next = next })

-- a number that is there, or 0
unfoldable pub optional_at : List ℕ → ℕ → Bool → Option (ℕ × ℕ)
optional_at s at there =
    there ⇒ number_at s at
    ∣ Some (0, at)

-- the first n of four numbers, and 0 for the others
unfoldable pub numbers_at : List ℕ → ℕ → ℕ → Option Numbers
numbers_at s at n =
    with_number (optional_at s at (ltb 0 n)) None (λ a p.
    with_number (optional_at s p (ltb 1 n)) None (λ b q.
    with_number (optional_at s q (ltb 2 n)) None (λ c r.
    with_number (optional_at s r (ltb 3 n)) None (λ d next. are a b c d next))))

-- goes on with the four numbers and the place after them, or with x
abbrev pub with_numbers : {X : Type 0} → Option Numbers → X → (ℕ → ℕ → ℕ → ℕ → ℕ → X) → X
with_numbers (Some n) x k = k n.a n.b n.c n.d n.next
with_numbers None x k = x

-- k bytes at a place of n bytes
unfoldable pub sized_at : ℕ → ℕ → ℕ → Option Body
sized_at n at k =
    ltb n (at + k) ⇒ None
    ∣ holds_at at k 0 (at + k)

-- Length (i), and so many bytes
unfoldable pub counted_at : List ℕ → ℕ → Option Body
counted_at s at = with_number (number_at s at) None (λ k next. sized_at (length s) next k)

-- the bytes from a place to the end
unfoldable pub remainder_at : ℕ → ℕ → Option Body
remainder_at n at =
    ltb n at ⇒ None
    ∣ holds_at at (n - at) 0 n

-- Length (8), Connection ID, Stateless Reset Token (128)
unfoldable pub identity_at : List ℕ → ℕ → Option Body
identity_at s at =
    ltb (length s) (at + 1 + get_or s at 0 + 16) ⇒ None
    ∣ holds_at (at + 1) (get_or s at 0) (at + 1 + get_or s at 0) (at + 1 + get_or s at 0 + 16)

-- an ACK's ranges: its first goes not below 0, nor do the further ones at the place
unfoldable pub ranged_at : List ℕ → ℕ → ℕ → ℕ → ℕ → Option Body
ranged_at s at largest count first =
    ltb largest first ⇒ None
    ∣ with_ranges (ranges_at s count at (largest - first)) None (λ next. holds_at at 0 0 next)

-- what a tail holds at a place; a, c and d are the first, third and fourth number before it
abbrev pub body_at : List ℕ → ℕ → Tail → ℕ → ℕ → ℕ → Option Body
body_at s at Nothing a c d = holds_at 0 0 0 at
body_at s at Counted a c d = counted_at s at
body_at s at Remainder a c d = remainder_at (length s) at
body_at s at Eight a c d = sized_at (length s) at 8
body_at s at Identity a c d = identity_at s at
body_at s at Ranges a c d = ranged_at s at a c d

-- goes on with the places of a body and the place after it, or with x
abbrev pub with_body : {X : Type 0} → Option Body → X → (ℕ → ℕ → ℕ → ℕ → X) → X
with_body (Some b) x k = k b.at b.len b.token b.next
with_body None x k = x
