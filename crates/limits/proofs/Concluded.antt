-- The end of the check for 120 refuses a total that is not the sum of the ends.
-- Assumes nothing.
use mathlib.Core.Path.{◌≡◌}
use mathlib.Core.Bool.{false}
use Prim.Native.Nat.{ℕ}
use borrow.Author.Tests.{ne_eqb}
use Rattle.streams.specs.declared.Conn.{Conn}
use Rattle.std.specs.Prelude.{Some}
use Rattle.limits.specs.Fits.{concluded_of}

pub not_total : (c : Conn) (sum : ℕ) → (c.total ≡ sum → ⊥) → false ≡ concluded_of c (Some sum)
unfolding concluded_of
not_total c sum h = rw (ne_eqb c.total sum h)
