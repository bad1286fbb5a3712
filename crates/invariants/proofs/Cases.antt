-- What `bytes_after` and `invariant_of` find: as many bytes as were counted, within the rest, and both IDs in their order.
-- Assumes nothing.
use mathlib.Core.Path.{◌≡◌, refl, subst}
use mathlib.Core.List.{List}
use Prim.Native.Nat.{ℕ, ◌+◌, ◌≤◌, ◌<◌}
use native.Mathlib.Omega.{arith}
use borrow.Author.Tests.{lt-ltb, le-ltb, ltb-false}
use lib.Dec.{ltb}
use lib.ListN.{length}
use Rattle.answers.proofs.Choice.{holds}
use Rattle.wire.specs.Number.{plain_at}
use Rattle.wire.proofs.Sound.{found, with_number_law}
use Rattle.invariants.specs.declared.Part.{Part}
use Rattle.invariants.specs.declared.Invariant.{Invariant}
use Rattle.invariants.specs.Invariant.{part_of, after, bytes_after, with_bytes, invariant_of, with_invariant}
use Rattle.std.specs.Prelude.{Option, Some, None}

module _ (s : List ℕ) (at len : ℕ) where
  pub are : at + len ≤ length s → bytes_after s (Some (len, at)) ≡ Some (part_of at len)
  unfolding bytes_after
  are h = simp (le-ltb _ _ h)

  pub cut : length s < at + len → bytes_after s (Some (len, at)) ≡ None
  unfolding bytes_after
  cut h = simp (lt-ltb _ _ h)

-- bytes that were found are those that were counted, and are within the rest
pub record Counted (s : List ℕ) (n : Option (ℕ × ℕ)) (p : Part) : Type 0 where
  pub count : n ≡ Some (p.len, p.at)
  pub within : after p ≤ length s

abbrev IfCounted : List ℕ → Option (ℕ × ℕ) → Option Part → Type 0
IfCounted s n (Some p) = Counted s n p
IfCounted s n None = Unit

all_counted : (s : List ℕ) (n : Option (ℕ × ℕ)) → IfCounted s n (bytes_after s n)
unfolding bytes_after
all_counted s (Some (len, at)) =
    holds (IfCounted s (Some (len, at))) (ltb (length s) (at + len)) None (Some (part_of at len)) (λ e. tt)
    (λ e. record { count = refl; within = ltb-false _ _ e })
all_counted s None = tt

pub counted : (s : List ℕ) (n : Option (ℕ × ℕ)) {p : Part} → bytes_after s n ≡ Some p → Counted s n p
counted s n e = subst (IfCounted s n) e (all_counted s n)

-- what holds where the bytes end and wherever bytes were found holds of what goes on with them
pub with_bytes_law : {X : Type 0} (P : X → Type 0) (b : Option Part) (x : X) (k : Part → X) → P x → ((p : Part) → b ≡ Some p → P (k p)) → P (with_bytes b x k)
with_bytes_law P (Some p) x k h f = f p refl
with_bytes_law P None x k h f = h

pub with_invariant_law : {X : Type 0} (P : X → Type 0) (i : Option Invariant) (x : X) (k : ℕ → Part → Part → X) → P x → ((v : ℕ) (d u : Part) → i ≡ Some (record { version = v; destination = d; source = u }) → P (k v d u)) → P (with_invariant i x k)
with_invariant_law P (Some i) x k h f = f i.version i.destination i.source refl
with_invariant_law P None x k h f = h

-- both IDs lie after the first byte, one after the other, within the rest
pub record Ordered (s : List ℕ) (d u : Part) : Type 0 where
  pub first : 0 < d.at
  pub ids : after d ≤ u.at
  pub within : after u ≤ length s

abbrev IfOrdered : List ℕ → Option Invariant → Type 0
IfOrdered s (Some i) = Ordered s i.destination i.source
IfOrdered s None = Unit

-- a plain byte's bytes start after it
pub byte_first : (s : List ℕ) (at : ℕ) {p : Part} → bytes_after s (plain_at s at 1) ≡ Some p → p.at ≡ at + 1
byte_first s at e = (found s at 1 _ (counted s _ e).count).ends

pub ordered : (s : List ℕ) {v : ℕ} {d u : Part} → invariant_of s ≡ Some (record { version = v; destination = d; source = u }) → Ordered s d u
unfolding invariant_of
ordered s e =
    subst (IfOrdered s) e
    (with_number_law (IfOrdered s) (plain_at s 1 4) _ _ tt (λ v at h.
    with_bytes_law (IfOrdered s) (bytes_after s (plain_at s at 1)) _ _ tt (λ d f.
    with_bytes_law (IfOrdered s) (bytes_after s (plain_at s (after d) 1)) _ _ tt (λ u g.
    record { first = omega (arith, byte_first s at f); ids = omega (arith, byte_first s (after d) g); within = (counted s _ g).within }))))
