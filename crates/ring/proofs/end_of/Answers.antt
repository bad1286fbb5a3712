-- `ring::end_of` meets its contract: the stretch ends where the one that is left from `end` does; a word without others is passed, and in any other the count tells its end.
use native.Mathlib.Omega.{arith}
use mathlib.Core.Path.{◌≡◌, refl, sym, ap, ◌∙◌}
use Prim.Native.Nat.{◌-◌, ◌/◌, ◌%◌, ◌≤◌, max}
use lib.ListN.{get_or}
use Rattle.ring.specs.Bits.{alike}
use Rattle.ring.specs.Runs.{lowest}
use Rattle.ring.proofs.Leading.{Others, missing_ones, whole, part}
use Rattle.ring.proofs.Meaning.{lowest_is}
use Rattle.ring.proofs.end_of.Goals.{After-from, then-came, else-came}
use Rattle.ring.proofs.end_of.Goals as goal

-- so its leading zeros are as many as are left of the stretch
ending : (c : After-from) → let l = c.loop-end in
    let a = c.args in
    (c.from.result ≤ (l.end - 1) % 64) × (lowest (alike a.words.now a.came) l.end ≡ l.end - c.from.result)
ending c =
    let told : Others (get_or c.args.words.now ((c.loop-end.end - 1) / 64 % 128) 0) c.args.came c.if-came.others =
    elim c.if-came.branch [ then-came w ↦ rw (w.others-is, w.if-came.true) (missing_ones _ _ w.complement.ensures) | else-came w ↦ rw (w.others-is, w.if-came.false) (λ i l. refl) ] in
    rw c.from.ensures (part _ c.args.came _ _ (omega arith) told c.if-others-ne0.true)

pub loop-end-init : goal.loop-end-init
loop-end-init c = (omega arith, refl)

pub overflow_sub-result : goal.overflow_sub-result
overflow_sub-result c = omega (arith, (ending c).0)

pub returns-then-others-ne0 : goal.returns-then-others-ne0
returns-then-others-ne0 c = ap (max c.args.bottom) (sym (ending c).1 ∙ sym c.loop-end.invariant.1)

pub loop-end-smaller : goal.loop-end-smaller
loop-end-smaller c = omega arith

pub loop-end-preserved : goal.loop-end-preserved
loop-end-preserved c =
    let i = c.loop-end.invariant in
    let told : Others (get_or c.args.words.now ((c.loop-end.end - 1) / 64 % 128) 0) c.args.came c.if-came.others =
    elim c.if-came.branch [ then-came w ↦ rw (w.others-is, w.if-came.true) (missing_ones _ _ w.complement.ensures) | else-came w ↦ rw (w.others-is, w.if-came.false) (λ i l. refl) ] in
    (omega arith, i.1 ∙ whole _ c.args.came _ _ (omega arith) told c.if-others-ne0.false)

pub returns : goal.returns
returns c =
    let l = (lowest_is (alike c.args.words.now c.args.came) c.loop-end.end).within in
    rw c.loop-end.invariant.1 (omega arith)
