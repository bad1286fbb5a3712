-- `acks::ranges` meets its contract: each turn takes the next run, and what is written with what is to come stays all of the ranges.
use Prim.Native.Nat.{◌+◌, ◌*◌}
use mathlib.Core.Path.{◌≡◌, sym, ◌∙◌}
use native.Mathlib.Omega.{arith}
use Rattle.ring.specs.Runs.{runs_down}
use Rattle.acks.proofs.Going.{begin, gap, turn, ended, none}
use Rattle.acks.proofs.ranges.Goals as goal

pub loop-i-init : goal.loop-i-init
loop-i-init c = (31, begin _ _ _ c.requires.1 c.requires.0.stop)

pub returns-in_default : goal.returns-in_default
returns-in_default c =
    let l = c.loop-i.invariant in
    let z = ended _ _ _ _ _ _ l.0 l.1 (none _ l.0 _ (sym c.next_run.ensures ∙ c.in_default.is)) in
    record { long = l.1.long; count = z.0; most = omega (arith, l.1.left); holds = z.1 }

pub overflow_sub-numbers : goal.overflow_sub-numbers
overflow_sub-numbers c = omega (arith, gap _ _ _ _ _ _ c.loop-i.invariant.1 (sym c.next_run.ensures ∙ c.in-Some.is))

pub overflow_sub-numbers-in-loop-i : goal.overflow_sub-numbers-in-loop-i
overflow_sub-numbers-in-loop-i c = omega (arith, gap _ _ _ _ _ _ c.loop-i.invariant.1 (sym c.next_run.ensures ∙ c.in-Some.is))

pub overflow_sub-numbers-in-loop-i-2 : goal.overflow_sub-numbers-in-loop-i-2
overflow_sub-numbers-in-loop-i-2 c = (gap _ _ _ _ _ _ c.loop-i.invariant.1 (sym c.next_run.ensures ∙ c.in-Some.is)).1

pub bounds-numbers-n-in-loop-i : goal.bounds-numbers-n-in-loop-i
bounds-numbers-n-in-loop-i c = omega (arith, c.loop-i.invariant.1.left)

pub loop-i-preserved : goal.loop-i-preserved
loop-i-preserved c =
    let i = c.loop-i.i in
    let t = turn _ _ _ _ _ (5 + 2 * i) _ (omega arith) c.loop-i.invariant.1 (sym c.next_run.ensures ∙ c.in-Some.is) in
    let q : 5 + 2 * i + 2 ≡ 5 + 2 * (i + 1) = omega arith in
    (t.0, rw q at t.1)

pub returns : goal.returns
unfolding runs_down
returns c =
    let l = c.loop-i.invariant in
    let e : 5 + 2 * c.loop-i.i ≡ 67 = omega arith in
    let k : l.0 ≡ 0 = omega (arith, l.1.left) in
    let z = ended _ _ _ _ _ _ l.0 l.1 (rw k) in
    record { long = l.1.long; count = omega (arith, z.0); most = omega arith; holds = rw e at z.1 }
