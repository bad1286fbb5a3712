-- The stream count of a half, by who opens its streams; and a number set in a row, looked at again.
-- Assumes nothing.
use Prim.Native.Nat.{ℕ, ◌≤◌}
use mathlib.Core.Path.{◌≡◌, refl, sym, ◌∙◌, ap}
use mathlib.Core.Bool.{true, false}
use mathlib.Core.List.{List}
use mathlib.Core.Logic.{◌⊎◌, inl, inr}
use native.Mathlib.Omega.{arith}
use native.Mathlib.Decide.{ℕ_discrete, dec_le}
use lib.ListN.{get_or, set, length, length-set, get_or-eq_default}
use lib.Seq.{get_or-set_same, get_or-set_other}
use Rattle.streams.specs.declared.Conn.{Conn}
use Rattle.halves.specs.Stream.{peers}
use Rattle.streams.specs.Conn.{advertised_of, opened_of, count_of}

pub count_peers : (c : Conn) (half : ℕ) → peers half ≡ true → count_of c half ≡ advertised_of c.limits half
unfolding count_of
count_peers c half p = rw p refl

pub count_ours : (c : Conn) (half : ℕ) → peers half ≡ false → count_of c half ≡ opened_of c half
unfolding count_of
count_ours c half p = rw p refl

-- what stands at a place after a number was set is that number, and the place is where it was set, or it is what stood there
pub set_at : (l : List ℕ) (i j x : ℕ) → ((j ≡ i) × (get_or (set l i x) j 0 ≡ x)) ⊎ (get_or (set l i x) j 0 ≡ get_or l j 0)
set_at l i j x = go (ℕ_discrete j i) (dec_le (length l) i)
  where
    go : Dec (j ≡ i) → Dec (length l ≤ i) → ((j ≡ i) × (get_or (set l i x) j 0 ≡ x)) ⊎ (get_or (set l i x) j 0 ≡ get_or l j 0)
    go (no n) d = inr (get_or-set_other l i j x 0 n)
    go (yes e) (no n) = inl (e, ap (λ (k : ℕ). get_or (set l i x) k 0) e ∙ get_or-set_same l i x 0 (omega arith))
    go (yes e) (yes m) = inr (get_or-eq_default (set l i x) 0 (omega (arith, length-set l i x)) ∙ sym (get_or-eq_default l 0 (omega arith)))
