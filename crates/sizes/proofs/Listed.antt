-- An ACK's ranges written anew: numbers that fit read back as the same ranges where they stand, and are no longer in their shortest forms than they were, since the form that was read holds the number.
-- Assumes nothing.
use mathlib.Core.Path.{◌≡◌, refl, ◌∙◌, ap}
use mathlib.Core.Bool.{true, and-eq-true_iff}
use mathlib.Core.List.{List, [], ◌∷◌}
use Prim.Native.Nat.{ℕ, zero, suc, ◌+◌, ◌*◌, ◌-◌, ◌/◌, ◌%◌, ◌^◌, ◌≤◌}
use native.Mathlib.Nat.{add-zero}
use native.Mathlib.Omega.{arith}
use borrow.Author.Tests.{leb-true, le-leb}
use lib.Dec.{leb}
use lib.ListN.{length, get_or}
use Rattle.answers.proofs.Distinct.{impossible}
use Rattle.wire.specs.Number.{number_at, form_at, values_in, size_of, Stands}
use Rattle.wire.proofs.Sound.{sound, found, four, with_number_law}
use Rattle.wire.proofs.Back.{by_size}
use Rattle.row.specs.Row.{in_range, size_all, bytes_all}
use Rattle.row.proofs.Back.{peel}
use Rattle.ranges.specs.Ranges.{range_at, ranges_at}
use Rattle.ranges.specs.Listed.{listed, fits}
use Rattle.ranges.proofs.Steps.{below_spans}
use Rattle.ranges.proofs.Listed.{listed_range_step}
use Rattle.std.specs.Prelude.{Some}

-- numbers that fit and stand in their shortest forms are read as ranges, and are the numbers of these
pub back : (out : List ℕ) (k at low : ℕ) (l : List ℕ) → fits low k l ≡ true → in_range l ≡ true → Stands out at (bytes_all l)
    → (ranges_at out k at low ≡ Some (at + size_all l)) × (listed out at (2 * k) ≡ l)
unfolding fits listed ranges_at range_at size_all
back out zero at low [] e r st = (rw add-zero, refl)
back out zero at low (v ∷ l) e r st = impossible cc
back out (suc k) at low [] e r st = impossible cc
back out (suc k) at low (gap ∷ []) e r st = impossible cc
back out (suc k) at low (gap ∷ len ∷ l) e r st =
    let b = (and-eq-true_iff (leb (gap + 2 + len) low) (fits (low - (gap + 2 + len)) k l)).0 e in
    let h : gap + 2 + len ≤ low = leb-true (gap + 2 + len) low b.0 in
    let d : low - (gap + 2 + len) ≡ low - gap - 2 - len = omega arith in
    let p = peel out at gap (len ∷ l) r st in
    let q = peel out (at + size_of gap) len l p.1 p.2 in
    let next = at + size_of gap + size_of len in
    let i = back out k next (low - gap - 2 - len) l (rw d at b.1) q.1 q.2 in
    (rw (p.0, q.0, below_spans low gap len next h) (i.0 ∙ ap Some (omega arith)), rw (listed_range_step out at k, p.0, q.0, i.1))

-- every number that was read is in range
pub listed_range : (s : List ℕ) (n at : ℕ) → in_range (listed s at n) ≡ true
unfolding listed in_range
listed_range s zero at = refl
listed_range s (suc n) at =
    with_number_law (λ (l : List ℕ). in_range l ≡ true) (number_at s at) [] _ refl
    (λ v next e. rw (le-leb v (2 ^ 62 - 1) (omega (arith, (sound s at e).low)), listed_range s n next))

-- the shortest form of a number is no longer than the form that was read, for that one holds the number
module _ (s : List ℕ) (at v next : ℕ) where
  within : (k : ℕ) → 1 ≤ k → (64 ≤ v → 2 ≤ k) → (16384 ≤ v → 4 ≤ k) → (1073741824 ≤ v → 8 ≤ k) → size_of v ≤ k
  unfolding size_of
  within k a b c d = by_size v (λ (f : ℕ). 2 ^ f ≤ k) (λ h. a) (λ h i. b h) (λ h i. c h) d

  in_form : (k : ℕ) → ((x : ℕ) → v ≡ x % values_in k → size_of v ≤ k) → form_at s at k ≡ Some (v, next) → at + size_of v ≤ next
  in_form k h e = let r = found s at k _ e in omega (arith, r.ends, h _ r.value)

  no_longer : number_at s at ≡ Some (v, next) → at + size_of v ≤ next
  unfolding number_at values_in
  no_longer =
      four (λ (f : ℕ). form_at s at (2 ^ f) ≡ Some (v, next) → at + size_of v ≤ next)
      (in_form 1 (λ x q. within 1 (omega arith) (λ h. omega arith) (λ h. omega arith) (λ h. omega arith)))
      (in_form 2 (λ x q. within 2 (omega arith) (λ h. omega arith) (λ h. omega arith) (λ h. omega arith)))
      (in_form 4 (λ x q. within 4 (omega arith) (λ h. omega arith) (λ h. omega arith) (λ h. omega arith)))
      (in_form 8 (λ x q. within 8 (omega arith) (λ h. omega arith) (λ h. omega arith) (λ h. omega arith)))
      (get_or s at 0 / 64 % 4) (omega arith)

-- written in their shortest forms they are no longer than they were
pub listed_size : (s : List ℕ) (n at : ℕ) → at ≤ length s → at + size_all (listed s at n) ≤ length s
unfolding listed size_all
listed_size s zero at h = omega arith
listed_size s (suc n) at h =
    with_number_law (λ (l : List ℕ). at + size_all l ≤ length s) (number_at s at) [] _ (omega arith)
    (λ v next e. omega (arith, no_longer s at v next e, listed_size s n next (sound s at e).within))
