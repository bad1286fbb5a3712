-- `tables::part` meets its contract: the loop holds the check of the opened entries so far, and the rest of the half is checked together.
use native.Mathlib.Omega.{arith}
use mathlib.Core.Path.{◌≡◌, refl, ◌∙◌}
use Prim.Native.Nat.{ℕ, suc, ◌+◌, ◌≤◌, ◌<◌}
use mathlib.Core.List.{List}
use lib.ListN.{get_or, length}
use Rattle.std.specs.Prelude.{Option}
use Rattle.std.proofs.lemmas.List.{get_or_default}
use Rattle.entries.specs.declared.Entry.{Entry}
use Rattle.entries.specs.Entry.{fresh}
use Rattle.limits.specs.Fits.{summed_of}
use Rattle.limits.specs.Rest.{opened_in}
use Rattle.tables.specs.Table.{summed_to}
use Rattle.tables.proofs.Unopened.{opened_within, by_rest}
use Rattle.tables.proofs.part.Goals as goal

-- no more than 64 are opened, whatever the number is called
within : (opened to : ℕ) → to ≡ opened_in opened → to ≤ 64
within opened to e = rw e (opened_within opened)

one_more : (t : List Entry) (d : Entry) (from credit opened init n m : ℕ) (before sum : Option ℕ) → m ≡ suc n → from + n < length t → sum ≡ summed_to t from credit opened init before n
    → summed_of credit opened init n (get_or t (from + n) d) sum ≡ summed_to t from credit opened init before m
unfolding summed_to
one_more t d from credit opened init n m before sum e l h = rw (get_or_default t (from + n) d (fresh 0) l, e, h) refl

pub overflow_add-from : goal.overflow_add-from
overflow_add-from c = record { fits = omega (arith, within _ _ c.opened_in-to.ensures) }

pub offset_bounds-t-from : goal.offset_bounds-t-from
offset_bounds-t-from c = let w = within _ _ c.opened_in-to.ensures in record { fits = omega arith }

pub bounds-t-from : goal.bounds-t-from
bounds-t-from c = omega (arith, within _ _ c.opened_in-to.ensures)

pub loop-n-preserved : goal.loop-n-preserved
loop-n-preserved c =
    let a = c.args in
    c.one_more-sum.ensures ∙ one_more a.t.now _ a.from a.p.credit a.p.opened a.p.initial c.loop-n.n _ a.before c.loop-n.sum (omega arith) (omega (arith, within _ _ c.opened_in-to.ensures)) c.loop-n.invariant

pub rest-requires : goal.rest-requires
rest-requires c = (omega arith, within _ _ c.opened_in-to.ensures)

pub returns : goal.returns
returns c =
    let a = c.args in
    let w = within _ _ c.opened_in-to.ensures in
    let e : c.loop-n.n ≡ c.opened_in-to.result = omega arith in
    c.with_rest.ensures ∙ rw (c.rest.ensures, ← e, c.loop-n.invariant) (by_rest a.p.credit a.p.opened a.p.initial a.t.now a.from a.before c.loop-n.n (e ∙ c.opened_in-to.ensures))
