-- What tests say: connectives, the place of a stream and the final size of an entry.
-- Assumes nothing.
use Prim.Native.Nat.{ℕ, ◌+◌, ◌-◌, ◌*◌, ◌/◌, ◌%◌, ◌^◌, ◌≤◌, ◌<◌}
use mathlib.Core.Path.{◌≡◌, refl, sym, ◌∙◌}
use mathlib.Core.Bool.{Bool, true, false, ◌&&◌, ◌||◌, and-eq-true_iff}
use mathlib.Core.Logic.{◌⊎◌, inl, inr}
use native.Mathlib.Omega.{arith}
use lib.Dec.{ltb, eqb}
use borrow.Author.Tests.{lt-ltb, ne_eqb, ltb-true, eqb-true}
use Rattle.answers.specs.Choice.{◌⇒◌∣◌}
use Rattle.answers.proofs.Distinct.{impossible}
use Rattle.halves.specs.Stream.{listed, place_of}
use Rattle.entries.specs.Entry.{final_of}
use Rattle.std.specs.Prelude.{Some, None}

-- ---- connectives

pub and_false : (a b : Bool) → a && b ≡ false → b ≡ true → a ≡ false
and_false true b e h = sym h ∙ e
and_false false b e h = refl

pub and_no : (a b : Bool) → b ≡ false → a && b ≡ false
and_no true b e = e
and_no false b e = refl

pub or_true : (a b : Bool) → a || b ≡ true → (a ≡ true) ⊎ (b ≡ true)
or_true true b e = inl refl
or_true false b e = inr e

pub or_false : (a b : Bool) → a || b ≡ false → (a ≡ false) × (b ≡ false)
or_false true b e = impossible cc
or_false false b e = (refl, e)

pub not_both : (b : Bool) → b ≡ true → b ≡ false → ⊥
not_both b p q = impossible cc

-- ---- streams that have an entry

-- by facts
abbrev pub Has : ℕ → Type 0
Has id = (id % 4 < 3) × (id / 4 < 64)

pub has_listed : (id : ℕ) → Has id → listed id ≡ true
unfolding listed
has_listed id h = simp (lt-ltb (id % 4) 3 h.0, lt-ltb (id / 4) 64 h.1)

pub listed_has : (id : ℕ) → listed id ≡ true → Has id
unfolding listed
listed_has id e = let a = (and-eq-true_iff (ltb (id % 4) 3) (ltb (id / 4) 64)).0 e in (ltb-true _ _ a.0, ltb-true _ _ a.1)

pub place_is : (id : ℕ) → Has id → place_of id ≡ 64 * (id % 4) + id / 4
unfolding place_of
place_is id h = simp (has_listed id h)

-- those that look at no entry leave the first one as it is
pub place_none : place_of 0 ≡ 0
unfolding place_of listed
place_none = refl

-- ---- final sizes

pub size_none : final_of (2 ^ 64 - 1) ≡ None
unfolding final_of
size_none = refl

pub size_known : (n : ℕ) → n ≤ 2 ^ 62 - 1 → final_of n ≡ Some n
unfolding final_of
size_known n l = simp (ne_eqb n (2 ^ 64 - 1) (omega arith))

pub unknown_size : (n : ℕ) → final_of n ≡ None → n ≡ 2 ^ 64 - 1
unfolding final_of
unknown_size n e = go (eqb n (2 ^ 64 - 1)) refl e
  where
    go : (b : Bool) → eqb n (2 ^ 64 - 1) ≡ b → (b ⇒ None ∣ Some n) ≡ None → n ≡ 2 ^ 64 - 1
    go true p q = eqb-true n (2 ^ 64 - 1) p
    go false p q = impossible cc
