-- The check of the table, half after half, is that the table fits: the running sum is the sum of the ends as long as all fit and it stays within the credit.
-- Assumes nothing.
use mathlib.Core.Path.{◌≡◌, refl, sym, ◌∙◌, ap}
use mathlib.Core.Bool.{Bool, true, false, ◌&&◌}
use mathlib.Core.List.{List}
use Prim.Native.Nat.{ℕ, zero, suc, ◌+◌, ◌*◌, ◌/◌, ◌%◌, ◌≤◌, ◌<◌}
use native.Mathlib.Omega.{arith}
use borrow.Author.Tests.{leb-false, le-leb, lt-leb, lt-ltb, le-ltb, eq-eqb, eqb-true}
use lib.Dec.{leb, eqb}
use lib.ListN.{length}
use Rattle.answers.specs.Choice.{◌⇒◌∣◌}
use Rattle.answers.proofs.Choice.{below_or_not}
use Rattle.streams.specs.declared.Conn.{Conn}
use Rattle.entries.specs.declared.Entry.{Entry}
use Rattle.entries.specs.Entry.{entry_at}
use Rattle.streams.specs.Conn.{opened_of, initial_of}
use Rattle.limits.specs.Fits.{entry_fits, conn_fits, sum_to, all_to, fits, summed_of, concluded_of}
use Rattle.tables.specs.Table.{summed_to}
use Rattle.std.specs.Prelude.{Option, Some, None}

module _ (c : Conn) (t : List Entry) where
  -- the check of the first n entries, whatever their halves
  unfoldable up_to : ℕ → Option ℕ
  up_to zero = Some 0
  up_to (suc n) = summed_of c.limits.credit (opened_of c (n / 64)) (initial_of c.limits (n / 64)) (n % 64) (entry_at t n) (up_to n)

  abbrev each : ℕ → Bool
  each i = entry_fits c i (entry_at t i)

  abbrev end : ℕ → ℕ
  end i = (entry_at t i).end

  -- of a half it is that of its entries
  of_half : (ty n : ℕ) → n ≤ 64 → summed_to t (64 * ty) c.limits.credit (opened_of c ty) (initial_of c.limits ty) (up_to (64 * ty)) n ≡ up_to (64 * ty + n)
  unfolding summed_to up_to
  of_half ty zero h = let e : 64 * ty ≡ 64 * ty + 0 = omega arith in ap up_to e
  of_half ty (suc n) h =
      let e : 64 * ty + suc n ≡ suc (64 * ty + n) = omega arith in
      let q : (64 * ty + n) / 64 ≡ ty = omega arith in
      let r : (64 * ty + n) % 64 ≡ n = omega arith in
      rw (e, q, r, of_half ty n (omega arith)) refl

  -- a sum within the credit, all of whose entries fit; or none
  step : (n : ℕ) (a p : Bool) → all_to n each ≡ a → each n ≡ p → up_to n ≡ (a && leb (sum_to n end) c.limits.credit ⇒ Some (sum_to n end) ∣ None)
      → up_to (suc n) ≡ (all_to (suc n) each && leb (sum_to (suc n) end) c.limits.credit ⇒ Some (sum_to (suc n) end) ∣ None)
  unfolding up_to summed_of all_to sum_to
  step n false p ea ep h = rw (h, ea) refl
  step n true false ea ep h =
      below_or_not c.limits.credit (sum_to n end) (λ l. rw (h, ea, ep, lt-leb (sum_to n end) c.limits.credit l) refl) (λ l. rw (h, ea, le-leb (sum_to n end) c.limits.credit l, ep) refl)
  step n true true ea ep h =
      below_or_not c.limits.credit (sum_to n end)
      (λ l. rw (h, ea, ep, lt-leb (sum_to n end) c.limits.credit l, lt-leb (sum_to n end + end n) c.limits.credit (omega arith)) refl)
      (λ l. below_or_not c.limits.credit (sum_to n end + end n)
      (λ k. rw (h, ea, le-leb (sum_to n end) c.limits.credit l, ep, lt-ltb c.limits.credit (sum_to n end + end n) k, lt-leb (sum_to n end + end n) c.limits.credit k) refl)
      (λ k. rw (h, ea, le-leb (sum_to n end) c.limits.credit l, ep, le-ltb c.limits.credit (sum_to n end + end n) k, le-leb (sum_to n end + end n) c.limits.credit k) refl))

  summed : (n : ℕ) → up_to n ≡ (all_to n each && leb (sum_to n end) c.limits.credit ⇒ Some (sum_to n end) ∣ None)
  unfolding up_to all_to sum_to
  summed zero = rw (le-leb 0 c.limits.credit (omega arith)) refl
  summed (suc n) = step n (all_to n each) (each n) refl refl (summed n)

  -- a total above the credit does not fit
  above : c.limits.credit < c.total → conn_fits c ≡ false
  unfolding conn_fits
  above h = rw (lt-leb c.total c.limits.credit h) refl

  ends : (a p q : Bool) → all_to 192 each ≡ a → leb (sum_to 192 end) c.limits.credit ≡ p → eqb c.total (sum_to 192 end) ≡ q
      → concluded_of c (a && p ⇒ Some (sum_to 192 end) ∣ None) ≡ a && (q && conn_fits c)
  unfolding concluded_of
  ends false p q ea ep eq = refl
  ends true true q ea ep eq = rw eq refl
  ends true false true ea ep eq = sym (above (omega (arith, leb-false (sum_to 192 end) c.limits.credit ep, eqb-true c.total (sum_to 192 end) eq)))
  ends true false false ea ep eq = refl

  concluded : length t ≡ 192 → concluded_of c (up_to 192) ≡ fits c t
  unfolding fits
  concluded h = rw (summed 192, eq-eqb (length t) 192 h) (ends (all_to 192 each) (leb (sum_to 192 end) c.limits.credit) (eqb c.total (sum_to 192 end)) refl refl refl)

  -- the three halves one after the other
  abbrev pub first : Option ℕ
  first = summed_to t 0 c.limits.credit (opened_of c 0) (initial_of c.limits 0) (Some 0) 64

  abbrev pub second : Option ℕ
  second = summed_to t 64 c.limits.credit (opened_of c 1) (initial_of c.limits 1) first 64

  abbrev pub third : Option ℕ
  third = summed_to t 128 c.limits.credit (opened_of c 2) (initial_of c.limits 2) second 64

  of_first : first ≡ up_to 64
  unfolding up_to
  of_first = of_half 0 64 (omega arith)

  all_three : third ≡ up_to 192
  all_three = ap (λ (x : Option ℕ). summed_to t 128 c.limits.credit (opened_of c 2) (initial_of c.limits 2) x 64) (ap (λ (x : Option ℕ). summed_to t 64 c.limits.credit (opened_of c 1) (initial_of c.limits 1) x 64) of_first ∙ b) ∙ d
    where
      b : summed_to t 64 c.limits.credit (opened_of c 1) (initial_of c.limits 1) (up_to 64) 64 ≡ up_to 128
      b = of_half 1 64 (omega arith)

      d : summed_to t 128 c.limits.credit (opened_of c 2) (initial_of c.limits 2) (up_to 128) 64 ≡ up_to 192
      d = of_half 2 64 (omega arith)

  pub whole_fits : length t ≡ 192 → concluded_of c third ≡ fits c t
  whole_fits h = ap (concluded_of c) all_three ∙ concluded h

  pub short_unfit : eqb (length t) 192 ≡ false → false ≡ fits c t
  unfolding fits
  short_unfit e = rw e refl
