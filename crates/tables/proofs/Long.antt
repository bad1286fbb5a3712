-- A table that fits has 192 entries, and every stream's place is one of them: an entry that a call or a frame looks at is there.
-- Assumes nothing.
use mathlib.Core.Path.{◌≡◌, refl}
use mathlib.Core.Bool.{Bool, true, false, and-eq-true_iff}
use mathlib.Core.List.{List}
use Prim.Native.Nat.{ℕ, ◌/◌, ◌%◌, ◌<◌}
use native.Mathlib.Omega.{arith}
use borrow.Author.Tests.{eqb-true, ltb-true}
use lib.Dec.{eqb, ltb}
use lib.ListN.{length}
use Rattle.streams.specs.declared.Conn.{Conn}
use Rattle.entries.specs.declared.Entry.{Entry}
use Rattle.halves.specs.Stream.{listed, place_of}
use Rattle.limits.specs.Fits.{fits}

pub fits_long : (c : Conn) (t : List Entry) → fits c t ≡ true → length t ≡ 192
unfolding fits
fits_long c t h = eqb-true (length t) 192 ((and-eq-true_iff (eqb (length t) 192) _).0 h).0

pub place_within : (id : ℕ) → place_of id < 192
unfolding place_of listed
place_within id = go (ltb (id % 4) 3) (ltb (id / 4) 64) refl refl
  where
    go : (a b : Bool) → ltb (id % 4) 3 ≡ a → ltb (id / 4) 64 ≡ b → place_of id < 192
    go true true p q = let r = ltb-true (id % 4) 3 p in let t = ltb-true (id / 4) 64 q in rw (p, q) (omega arith)
    go true false p q = rw (p, q) (omega arith)
    go false b p q = rw p (omega arith)
