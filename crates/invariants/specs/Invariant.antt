-- What every version has in common, RFC 8999, 5.1: after the first byte of a long header the version and both connection IDs.
use Rattle.std.specs.Prelude.{ℕ, ◌+◌, List, length, ltb, Option, Some, None}
use Rattle.answers.specs.Choice.{◌⇒◌∣◌}
use Rattle.wire.specs.Number.{plain_at, with_number}
use Rattle.invariants.specs.declared.Part.{Part}
use Rattle.invariants.specs.declared.Invariant.{Invariant}

abbrev pub part_of : ℕ → ℕ → Part
part_of at len = record { at = at; len = len }

-- the place after a part
abbrev pub after : Part → ℕ
after p = p.at + p.len

-- as many bytes as a number says, from the place after it, if so many are there
unfoldable pub bytes_after : List ℕ → Option (ℕ × ℕ) → Option Part
bytes_after s count =
    with_number count None (λ len at.
    ltb (length s) (at + len) ⇒ None
    ∣ Some (part_of at len))

abbrev pub with_bytes : {X : Type 0} → Option Part → X → (Part → X) → X
with_bytes (Some part) x k = k part
with_bytes None x k = x

-- four version bytes, then destination and source connection IDs, each after a length byte (RFC 8999, 5.1)
unfoldable pub invariant_of : List ℕ → Option Invariant
invariant_of s =
    with_number (plain_at s 1 4) None (λ version at.
    with_bytes (bytes_after s (plain_at s at 1)) None (λ destination.
    with_bytes (bytes_after s (plain_at s (after destination) 1)) None (λ source.
    Some (record { version = version; destination = destination; source = source }))))

abbrev pub with_invariant : {X : Type 0} → Option Invariant → X → (ℕ → Part → Part → X) → X
with_invariant (Some i) x k = k i.version i.destination i.source
with_invariant None x k = x
