-- What is to be written of bytes and their length, where the length has a form.
-- Assumes nothing.
use mathlib.Core.Path.{◌≡◌}
use mathlib.Core.List.{List, ◌∷◌, ◌++◌}
use Prim.Native.Nat.{ℕ, ◌-◌, ◌^◌, ◌≤◌}
use borrow.Author.Tests.{le-ltb}
use lib.ListN.{length}
use Rattle.wire.specs.Number.{bytes_of}
use Rattle.wire.specs.Writing.{Bytes}
use Rattle.bodies.specs.Bodies.{counted_draft, identity_draft}

pub counted_draft_law : (body : List ℕ) → length body ≤ 2 ^ 62 - 1 → counted_draft body ≡ Bytes (bytes_of (length body) ++ body)
unfolding counted_draft
counted_draft_law body h = simp (le-ltb (2 ^ 62 - 1) (length body) h)

pub identity_draft_law : (id token : List ℕ) → length id ≤ 255 → identity_draft id token ≡ Bytes (length id ∷ (id ++ token))
unfolding identity_draft
identity_draft_law id token h = simp (le-ltb 255 (length id) h)
