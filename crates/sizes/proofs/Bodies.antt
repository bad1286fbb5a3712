-- The bytes of a body are as many as the writer counts, for each tail, where its places lie inside.
-- Assumes nothing.
use mathlib.Core.Path.{◌≡◌}
use mathlib.Core.Bool.{true, and-eq-true_iff}
use mathlib.Core.List.{List, ◌∷◌, ◌++◌}
use mathlib.Core.Logic.{◌⊎◌, inl, inr}
use Prim.Native.Nat.{ℕ, ◌+◌, ◌≤◌}
use native.Mathlib.Omega.{arith}
use borrow.Author.Tests.{leb-true, le-leb}
use lib.Dec.{leb}
use lib.ListN.{length, length-append}
use lib.Seq.{slice, length-slice}
use Rattle.wire.specs.Number.{bytes_of, size_of}
use Rattle.wire.proofs.Exit.{length_bytes}
use Rattle.fields.specs.declared.Parts.{Parts}
use Rattle.layouts.specs.declared.Tail.{Tail}
use Rattle.layouts.specs.declared.Tail.TheVariants.{Remainder, Eight}
use Rattle.contents.specs.Content.{body_of, token_of, token_inside, inside_of}
use Rattle.sizes.specs.Spelled.{body_bytes}

-- places that lie inside
pub within : (n : ℕ) (tail : Tail) (p : Parts) → inside_of n tail p ≡ true → (p.at + p.len ≤ n) × (token_inside n tail p ≡ true)
unfolding inside_of
within n tail p e =
    let b = (and-eq-true_iff (leb (p.at + p.len) n) (token_inside n tail p)).0 e in
    (leb-true (p.at + p.len) n b.0, b.1)

-- and the other way round
pub wholly : (n : ℕ) (tail : Tail) (p : Parts) → p.at + p.len ≤ n → token_inside n tail p ≡ true → inside_of n tail p ≡ true
unfolding inside_of
wholly n tail p h k = rw (le-leb (p.at + p.len) n h, k)

pub part_length : (s : List ℕ) (from len : ℕ) → from + len ≤ length s → length (slice from (from + len) s) ≡ len
part_length s from len h = rw (length-slice from (from + len) s h) (omega arith)

pub counted_length : (s : List ℕ) (from len : ℕ) → from + len ≤ length s → length (bytes_of len ++ slice from (from + len) s) ≡ size_of len + len
counted_length s from len h = rw (length-append, length_bytes len, part_length s from len h)

pub identity_length : (s : List ℕ) (from len token : ℕ) → from + len ≤ length s → token + 16 ≤ length s
    → length (len ∷ (slice from (from + len) s ++ slice token (token + 16) s)) ≡ 1 + len + 16
identity_length s from len token h k =
    let e = length-append (slice from (from + len) s) (slice token (token + 16) s) in
    omega (arith, e, part_length s from len h, part_length s token 16 k)

-- for two tails the bytes of the frame are all that stands between its numbers
pub plain : (s : List ℕ) (tail : Tail) (p : Parts) → (tail ≡ Remainder) ⊎ (tail ≡ Eight)
    → body_bytes tail p.len (body_of s tail p) (token_of s tail p) ≡ slice p.at (p.at + p.len) s
plain s tail p (inl e) = rw e
plain s tail p (inr e) = rw e
