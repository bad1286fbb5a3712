-- What the exchange of ends keeps: twice is not at all, the ordinal stays, and an ID stays on its side of every multiple of four.
-- Assumes nothing.
use Prim.Native.Nat.{ℕ, ◌+◌, ◌/◌, ◌%◌}
use mathlib.Core.Path.{◌≡◌, refl}
use mathlib.Core.Logic.{◌⊎◌, inl, inr, ⊎_elim}
use native.Mathlib.Omega.{arith}
use native.Mathlib.Decide.{ℕ_discrete}
use borrow.Author.Tests.{eq-eqb, ne_eqb}
use Rattle.kinds.specs.declared.Role.{Role}
use Rattle.kinds.specs.declared.Role.TheVariants.{Server, Client}
use Rattle.halves.specs.Seat.{exchanged_of, seated_of, other_of}

-- an even ID goes one up, an odd one down
pub exchanges : (id : ℕ) → ((id % 2 ≡ 0) × (exchanged_of id ≡ id + 1)) ⊎ ((id % 2 ≡ 1) × (exchanged_of id + 1 ≡ id))
unfolding exchanged_of
exchanges id = go (ℕ_discrete (id % 2) 0)
  where
    go : Dec (id % 2 ≡ 0) → ((id % 2 ≡ 0) × (exchanged_of id ≡ id + 1)) ⊎ ((id % 2 ≡ 1) × (exchanged_of id + 1 ≡ id))
    go (yes e) = inl (e, rw (eq-eqb (id % 2) 0 e))
    go (no n) = inr (omega (arith, n), rw (ne_eqb (id % 2) 0 n) (omega (arith, n)))

pub exchanged_back : (id : ℕ) → exchanged_of (exchanged_of id) ≡ id
exchanged_back id = ⊎_elim (λ a. up a.0 a.1 (exchanges (exchanged_of id))) (λ a. down a.0 a.1 (exchanges (exchanged_of id))) (exchanges id)
  where
    up : id % 2 ≡ 0 → exchanged_of id ≡ id + 1 → ((exchanged_of id % 2 ≡ 0) × (exchanged_of (exchanged_of id) ≡ exchanged_of id + 1)) ⊎ ((exchanged_of id % 2 ≡ 1) × (exchanged_of (exchanged_of id) + 1 ≡ exchanged_of id)) → exchanged_of (exchanged_of id) ≡ id
    up e f (inl w) = omega (arith, e, f, w.0, w.1)
    up e f (inr w) = omega (arith, e, f, w.0, w.1)

    down : id % 2 ≡ 1 → exchanged_of id + 1 ≡ id → ((exchanged_of id % 2 ≡ 0) × (exchanged_of (exchanged_of id) ≡ exchanged_of id + 1)) ⊎ ((exchanged_of id % 2 ≡ 1) × (exchanged_of (exchanged_of id) + 1 ≡ exchanged_of id)) → exchanged_of (exchanged_of id) ≡ id
    down e f (inl w) = omega (arith, e, f, w.0, w.1)
    down e f (inr w) = omega (arith, e, f, w.0, w.1)

-- the ordinal stays
pub exchanged_ordinal : (id : ℕ) → exchanged_of id / 4 ≡ id / 4
exchanged_ordinal id = ⊎_elim (λ a. omega (arith, a.0, a.1)) (λ a. omega (arith, a.0, a.1)) (exchanges id)

-- an ID on the wire is that of the server's seat turned back
pub seated_back : (role : Role) (id : ℕ) → seated_of role (seated_of role id) ≡ id
seated_back Server id = refl
seated_back Client id = exchanged_back id

pub seated_ordinal : (role : Role) (id : ℕ) → seated_of role id / 4 ≡ id / 4
seated_ordinal Server id = refl
seated_ordinal Client id = exchanged_ordinal id

-- the other end calls a stream by the exchanged ID, and both mean the same half and ordinal
pub seated_other : (role : Role) (id : ℕ) → seated_of (other_of role) (exchanged_of id) ≡ seated_of role id
seated_other Server id = exchanged_back id
seated_other Client id = refl
