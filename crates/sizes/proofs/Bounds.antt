-- What a frame that can be written is bound by: its numbers are in range, its places inside, and a connection ID's length is that of NEW_CONNECTION_ID, at most 20.
-- Assumes nothing.
use mathlib.Core.Path.{◌≡◌, refl}
use mathlib.Core.Bool.{Bool, true, false, not, ◌&&◌, ◌||◌, and-eq-true_iff}
use mathlib.Core.List.{List}
use Prim.Native.Nat.{ℕ, zero, suc, ◌≤◌, ◌<◌}
use native.Mathlib.Omega.{arith}
use borrow.Author.Tests.{eqb-true, lt-ltb, le-ltb, leb-true}
use lib.Dec.{eqb, leb}
use lib.ListN.{length, get_or-eq_default}
use Rattle.answers.proofs.Choice.{below_or_not}
use Rattle.answers.proofs.Distinct.{impossible}
use Rattle.layouts.specs.Layout.{layout, layouts, layout_of, known}
use Rattle.fields.specs.Faults.{fault_of, misissued_of}
use Rattle.fields.specs.declared.Parts.{Parts}
use Rattle.frames.specs.declared.Frame.{Frame}
use Rattle.layouts.specs.declared.Tail.{Tail}
use Rattle.layouts.specs.declared.Tail.TheVariants.{Nothing, Counted, Remainder, Eight, Identity, Ranges}
use Rattle.contents.specs.Parts.{parts_of}
use Rattle.contents.specs.Content.{content_of}
use Rattle.contents.specs.Taken.{takes}
use Rattle.sizes.specs.Spelled.{InByte, Bounded}
use Rattle.contents.proofs.Taking.{taken, low}
use Rattle.contents.proofs.Settled.{settled}

-- a test holds of all numbers below n
below : ℕ → (ℕ → Bool) → Bool
below zero t = true
below (suc n) t = t n && below n t

each : (n : ℕ) (t : ℕ → Bool) → below n t ≡ true → (i : ℕ) → i < n → t i ≡ true
unfolding below
each zero t e i h = absurd (omega arith)
each (suc n) t e i h =
    let b = (and-eq-true_iff (t n) (below n t)).0 e in
    below_or_not i n (λ l. each n t b.1 i l) (λ l. let q : i ≡ n = omega arith in rw q b.0)

-- only NEW_CONNECTION_ID holds a connection ID
identity : Tail → Bool
identity Nothing = false
identity Counted = false
identity Remainder = false
identity Eight = false
identity Identity = true
identity Ranges = false

only : ℕ → Bool
only ty = not (identity (layout_of ty).tail) || eqb ty 0x18

only_below : below 31 only ≡ true
unfolding below only identity layout_of layouts
only_below = refl

pub only_identity : (ty : ℕ) → (layout_of ty).tail ≡ Identity → ty ≡ 0x18
unfolding only identity layout_of layouts
only_identity ty e =
    below_or_not ty 31
    (λ h. eqb-true ty 0x18 (rw e at (each 31 only only_below ty h)))
    (λ h.
    let d = get_or-eq_default layouts (layout 0 Nothing 0) {n = ty} h in
    impossible cc)

-- no layout has more than four numbers before its tail, or after it
few : ℕ → Bool
few ty = leb (layout_of ty).numbers 4 && leb (layout_of ty).after 4

few_below : below 31 few ≡ true
unfolding below few layout_of layouts
few_below = refl

pub at_most_four : (ty : ℕ) → ((layout_of ty).numbers ≤ 4) × ((layout_of ty).after ≤ 4)
unfolding few layout_of layouts
at_most_four ty =
    below_or_not ty 31
    (λ h. let b = (and-eq-true_iff (leb (layout_of ty).numbers 4) (leb (layout_of ty).after 4)).0 (each 31 few few_below ty h) in (leb-true _ _ b.0, leb-true _ _ b.1))
    (λ h. let d = get_or-eq_default layouts (layout 0 Nothing 0) {n = ty} h in rw d (omega arith, omega arith))

misissued_long : (a b len : ℕ) → 20 < len → misissued_of a b len ≡ true
unfolding misissued_of
misissued_long a b len h = rw (le-ltb len 1 (omega arith), lt-ltb 20 len h)

pub identity_short : (a b len : ℕ) → fault_of 0x18 a b len ≡ false → len ≤ 20
unfolding fault_of
identity_short a b len e =
    below_or_not 20 len
    (λ h. let m = misissued_long a b len h in impossible cc)
    (λ h. h)

in_byte : (tail : Tail) (len : ℕ) → (tail ≡ Identity → len < 256) → InByte tail len
in_byte Nothing len h = tt
in_byte Counted len h = tt
in_byte Remainder len h = tt
in_byte Eight len h = tt
in_byte Identity len h = h refl
in_byte Ranges len h = tt

pub bounded : (s : List ℕ) (p : Parts) → takes (content_of s p) ≡ true → Bounded (length s) (layout_of p.ty).tail p
bounded s p e =
    let t = taken (content_of s p) e in
    let l = low (content_of s p) e in
    record {
      inside = t.inside;
      len = l.len;
      count = l.c;
      byte = in_byte (layout_of p.ty).tail p.len (λ i. omega (arith, identity_short p.a p.b p.len (rw (only_identity p.ty i) at t.right)));
    }

-- the types under which frames are written are those of section 19
pub type_known : (f : Frame) → (parts_of f).ty ≤ 0x1e
unfolding known
type_known f = leb-true (parts_of f).ty 0x1e (settled f).3
