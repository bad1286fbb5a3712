-- A part of a slice as the code takes it is the run between its two places, and for two tails that run is all that stands between the numbers.
-- Assumes nothing.
use mathlib.Core.Path.{◌≡◌}
use mathlib.Core.Logic.{◌⊎◌, inl, inr}
use mathlib.Core.List.{List, [], ◌∷◌}
use Prim.Native.Nat.{ℕ, zero, suc, ◌+◌, ◌-◌}
use native.Mathlib.Numerals.{unary_clauses}
use native.Mathlib.Omega.{arith}
use lib.ListN.{take, drop}
use lib.Seq.{slice}
use Rattle.fields.specs.declared.Parts.{Parts}
use Rattle.layouts.specs.declared.Tail.{Tail}
use Rattle.layouts.specs.declared.Tail.TheVariants.{Remainder, Eight}
use Rattle.contents.specs.Content.{body_of, token_of}
use Rattle.sizes.specs.Spelled.{body_bytes}

dropped : (from len : ℕ) (s : List ℕ) → take len (drop from s) ≡ slice from (from + len) s
dropped zero len s = let e : 0 + len ≡ len = omega arith in rw e
dropped (suc from) zero [] = simp unary_clauses
dropped (suc from) (suc len) [] = simp unary_clauses
dropped (suc from) len (x ∷ s) = let e : suc from + len ≡ suc (from + len) = omega arith in rw e (dropped from len s)

pub part : (from len : ℕ) (s : List ℕ) → take (from + len - from) (drop from s) ≡ slice from (from + len) s
part from len s = let e : from + len - from ≡ len = omega arith in rw e (dropped from len s)

pub plain : (s : List ℕ) (tail : Tail) (p : Parts) → (tail ≡ Remainder) ⊎ (tail ≡ Eight)
    → body_bytes tail p.len (body_of s tail p) (token_of s tail p) ≡ slice p.at (p.at + p.len) s
plain s tail p (inl e) = rw e
plain s tail p (inr e) = rw e
