-- An unopened entry fits just where it is as opening set it, and its credit is within the ceiling; and the tests of that in a row.
-- Assumes nothing.
use mathlib.Core.Path.{◌≡◌, refl, ◌∙◌}
use mathlib.Core.Bool.{Bool, true, false, not, ◌&&◌, and_assoc, and-eq-true_iff, and-false, true≢false}
use Prim.Native.Nat.{ℕ, ◌-◌, ◌^◌, ◌≤◌}
use native.Mathlib.Omega.{arith}
use borrow.Author.Tests.{eqb-true, le-leb, le-ltb}
use lib.Dec.{leb, eqb}
use Rattle.answers.specs.Choice.{◌⇒◌∣◌}
use Rattle.entries.specs.declared.Entry.{Entry}
use Rattle.entries.specs.Entry.{most_credit, final_of, is_known}
use Rattle.entries.specs.Fitting.{size_fits, is_fresh, entry_fits_as}
use Rattle.std.specs.Prelude.{Option, Some, None}

-- no final size contradicts no end
unknown_fits : (k : Option ℕ) (end : ℕ) → not (is_known k) ≡ true → size_fits k end ≡ true
unknown_fits None end p = refl
unknown_fits (Some size) end p = absurd (true≢false (λ i. not (p i)))

pub fresh_fits : (opened init n : ℕ) (e : Entry) → opened ≤ n → is_fresh e init ≡ true → entry_fits_as opened init n e ≡ leb init most_credit
unfolding entry_fits_as is_fresh
fresh_fits opened init n e h f =
    let a = (and-eq-true_iff (eqb e.credit init) (eqb e.end 0 && not (is_known (final_of e.size)))).0 f in
    let b = (and-eq-true_iff (eqb e.end 0) (not (is_known (final_of e.size)))).0 a.1 in
    rw (le-leb e.end e.credit (omega (arith, eqb-true e.end 0 b.0)), unknown_fits (final_of e.size) e.end b.1, le-ltb n opened h, f, eqb-true e.credit init a.0) refl

pub changed_unfit : (opened init n : ℕ) (e : Entry) → opened ≤ n → is_fresh e init ≡ false → entry_fits_as opened init n e ≡ false
unfolding entry_fits_as
changed_unfit opened init n e h f = rw (le-ltb n opened h, f, and-false (size_fits (final_of e.size) e.end), and-false (leb e.end e.credit)) refl

-- no final size is known where the number says so
no_size : (size : ℕ) → eqb size (2 ^ 64 - 1) ≡ not (is_known (final_of size))
unfolding final_of
no_size size = go (eqb size (2 ^ 64 - 1))
  where
    go : (b : Bool) → b ≡ not (is_known (b ⇒ None ∣ Some size))
    go true = refl
    go false = refl

pub in_a_row : (b : Bool) (e : Entry) (init : ℕ) → (((b && eqb e.credit init) && eqb e.end 0) && eqb e.size (2 ^ 64 - 1)) ≡ (b && is_fresh e init)
unfolding is_fresh
in_a_row b e init = rw (no_size e.size) (and_assoc (b && eqb e.credit init) (eqb e.end 0) (not (is_known (final_of e.size))) ∙ and_assoc b (eqb e.credit init) (eqb e.end 0 && not (is_known (final_of e.size))))
