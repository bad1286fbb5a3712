-- Lists that stand in a list: parts of what stands stand too, and a run of stores leaves its list standing and is made of shorter runs.
-- Assumes nothing.
use mathlib.Core.Path.{◌≡◌, sym, ◌∙◌, ap}
use mathlib.Core.List.{List, [], ◌∷◌, ◌++◌, append_assoc}
use Prim.Native.Nat.{ℕ, suc, ◌+◌, ◌-◌, ◌≤◌, ◌<◌}
use native.Mathlib.Nat.{add-zero, add-suc, suc-add, add_assoc}
use native.Mathlib.Omega.{arith}
use lib.ListN.{length, get_or, set, take, drop, length-append, get_or-append}
use lib.Seq.{sets, sets-eq, length-sets, get_or-append-add, length-take-le}
use Rattle.answers.proofs.Choice.{below_or_not}
use Rattle.wire.specs.Number.{Stands}

module _ {s : List ℕ} {at : ℕ} where
  pub left : (a b : List ℕ) → Stands s at (a ++ b) → Stands s at a
  left a b h = record {
    ends = omega (arith, h.ends, length-append a b);
    same = λ i k. h.same i (omega (arith, length-append a b)) ∙ get_or-append a b 0 i k;
  }

  pub right : (a b : List ℕ) → Stands s at (a ++ b) → Stands s (at + length a) b
  right a b h = record {
    ends = omega (arith, h.ends, length-append a b);
    same = λ i k. rw add_assoc (h.same (length a + i) (omega (arith, length-append a b)) ∙ get_or-append-add a b i 0);
  }

  pub append : (a b : List ℕ) → Stands s at a → Stands s (at + length a) b → Stands s at (a ++ b)
  append a b f g = record {
    ends = rw (length-append a b) (rw add_assoc at g.ends);
    same = λ i k. below_or_not i (length a)
        (λ p. f.same i p ∙ sym (get_or-append a b 0 i p))
        (λ p. past i (i - length a) (omega arith) (omega (arith, length-append a b)));
  }
    where
      past : (i j : ℕ) → i ≡ length a + j → j < length b → get_or s (at + i) 0 ≡ get_or (a ++ b) i 0
      past i j e h = rw (e, get_or-append-add, ← add_assoc) (g.same j h)

  -- the first element of what stands
  pub head : (x : ℕ) (l : List ℕ) → Stands s at (x ∷ l) → get_or s at 0 ≡ x
  head x l h = rw add-zero at (h.same 0 (omega arith))

-- one element stands at its place
pub one : (s : List ℕ) (at : ℕ) → at < length s → Stands s at (get_or s at 0 ∷ [])
one s at h = record { ends = omega arith; same = λ i k. let e : i ≡ 0 = omega arith in rw (e, add-zero) }

-- what was stored stands
pub stored : (l : List ℕ) (at : ℕ) (a : List ℕ) → at + length a ≤ length l → Stands (sets l at a) at a
stored l at a h = record {
  ends = rw length-sets h;
  same = λ i k.
      let n : length (take at l) ≡ at = length-take-le at l (omega arith) in
      rw (sets-eq a l at h, append_assoc)
      (ap (λ (j : ℕ). get_or (take at l ++ (a ++ drop (at + length a) l)) (j + i) 0) (sym n)
      ∙ get_or-append-add (take at l) (a ++ drop (at + length a) l) i 0 ∙ get_or-append a (drop (at + length a) l) 0 i k);
}

-- one run of stores after another is one run
pub sets_append : (l : List ℕ) (at : ℕ) (a b : List ℕ) → sets l at (a ++ b) ≡ sets (sets l at a) (at + length a) b
sets_append l at [] b = rw add-zero
sets_append l at (x ∷ a) b =
    sets_append (set l at x) (suc at) a b ∙ ap (λ (k : ℕ). sets (sets l at (x ∷ a)) k b) (suc-add at (length a) ∙ sym (add-suc at (length a)))
