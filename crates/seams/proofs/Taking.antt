-- What the two copies around the seam leave at the front of the output: the bytes of the places in their order.
-- Assumes nothing.
use Prim.Native.Nat.{ℕ, ◌+◌, ◌-◌, ◌%◌, ◌≤◌, ◌<◌, min}
use mathlib.Core.Path.{◌≡◌, sym, ◌∙◌, ap}
use mathlib.Core.Bool.{false}
use mathlib.Core.List.{List, ◌++◌}
use native.Mathlib.Omega.{arith}
use native.Mathlib.Decide.{dec_le}
use lib.ListN.{length, get_or, drop, get_or-append}
use lib.Seq.{sets, sets-eq, length-sets, ext_get_or, get_or-append-add, get_or-drop}
use Rattle.seams.specs.Parts.{Fit, Copied}
use Rattle.seams.specs.Seam.{fit_of, read_of, taken_out}
use Rattle.ring.proofs.Words.{list_length, list_at}
use Rattle.seams.proofs.Fitting.{fit_true}

-- a list written to the front of another
module _ (o v : List ℕ) (fits : length v ≤ length o) where
  front : sets o 0 v ≡ v ++ drop (length v) o
  front = let e : 0 + length v ≡ length v = omega arith in sets-eq v o 0 (omega arith) ∙ ap (λ (k : ℕ). v ++ drop k o) e

  pub front_in : (x : ℕ) → x < length v → get_or (sets o 0 v) x 0 ≡ get_or v x 0
  front_in x h = rw front (get_or-append v (drop (length v) o) 0 x h)

  pub front_off : (x : ℕ) → length v ≤ x → get_or (sets o 0 v) x 0 ≡ get_or o x 0
  front_off x h =
      let e : x ≡ length v + (x - length v) = omega arith in
      ap (λ (y : ℕ). get_or (sets o 0 v) y 0) e ∙ rw front (get_or-append-add v (drop (length v) o) (x - length v) 0)
      ∙ get_or-drop (length v) o (x - length v) 0 ∙ ap (λ (y : ℕ). get_or o y 0) (sym e)

-- the bytes read
pub read_long : (ring : List ℕ) (read n : ℕ) → length (read_of ring read n) ≡ n
unfolding read_of
read_long ring read n = list_length n _

pub read_at : (ring : List ℕ) (read n k : ℕ) → k < n → get_or (read_of ring read n) k 0 ≡ get_or ring ((read + k) % 4096) 0
unfolding read_of
read_at ring read n k h = list_at n (λ k. get_or ring ((read + k) % 4096) 0) k h

module _ (ring o t u : List ℕ) (read n m : ℕ) (fits : n ≤ 4096) (room : n ≤ length o) (seam : m ≡ min n (4096 - read % 4096))
    (one : Copied o 0 ring (read % 4096) m t) (two : Copied t m ring 0 (n - m) u) where
  pub taken : u ≡ sets o 0 (read_of ring read n)
  taken = ext_get_or 0 u _ (two.long ∙ one.long ∙ sym (length-sets o 0 (read_of ring read n))) (λ x h. go x (dec_le n x) (dec_le m x))
    where
      go : (x : ℕ) → Dec (n ≤ x) → Dec (m ≤ x) → get_or u x 0 ≡ get_or (sets o 0 (read_of ring read n)) x 0
      go x (yes a) b = two.rest x (λ y z. omega arith) ∙ one.rest x (λ y z. omega arith) ∙ sym (front_off o (read_of ring read n) (omega (arith, read_long ring read n)) x (omega (arith, read_long ring read n)))
      go x (no a) (no b) =
          let e : read % 4096 + x ≡ (read + x) % 4096 = omega arith in
          let f : x ≡ 0 + x = omega arith in
          two.rest x (λ y z. omega arith) ∙ ap (λ (y : ℕ). get_or t y 0) f ∙ one.inside x (omega arith) ∙ ap (λ (y : ℕ). get_or ring y 0) e
          ∙ sym (read_at ring read n x (omega arith)) ∙ sym (front_in o (read_of ring read n) (omega (arith, read_long ring read n)) x (omega (arith, read_long ring read n)))
      go x (no a) (yes b) =
          let e : 0 + (x - m) ≡ (read + x) % 4096 = omega arith in
          let f : x ≡ m + (x - m) = omega arith in
          ap (λ (y : ℕ). get_or u y 0) f ∙ two.inside (x - m) (omega arith) ∙ ap (λ (y : ℕ). get_or ring y 0) e
          ∙ sym (read_at ring read n x (omega arith)) ∙ sym (front_in o (read_of ring read n) (omega (arith, read_long ring read n)) x (omega (arith, read_long ring read n)))

-- the output after it, where the bytes fit and where they do not
module _ (ring out : List ℕ) (read n : ℕ) where
  pub taken_none : fit_of (length ring) (length out) 0 n ≡ false → out ≡ taken_out ring out read n
  unfolding taken_out
  taken_none e = simp e

  pub taken_out_law : Fit (length ring) (length out) 0 n → taken_out ring out read n ≡ sets out 0 (read_of ring read n)
  unfolding taken_out
  taken_out_law f = simp (fit_true _ _ _ _ f)
