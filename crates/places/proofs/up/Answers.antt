-- `places::up` meets its contract: from `at` up to `p` all marks are like `ones`, and it stops at the first that is not.
use native.Mathlib.Omega.{arith}
use mathlib.Core.Path.{sym}
use Rattle.places.proofs.Slots.{halts, passed}
use Rattle.places.proofs.Ups.{up_none, up_is}
use Rattle.places.proofs.up.Goals as goal

pub returns-then-marks-ne64 : goal.returns-then-marks-ne64
returns-then-marks-ne64 c = sym (up_none _ _ _ _ (λ e. omega arith))

pub loop-p-init : goal.loop-p-init
loop-p-init c = (omega arith, omega arith, λ q a b. absurd (omega arith))

pub returns-then-to-p : goal.returns-then-to-p
returns-then-to-p c =
    let l = c.loop-p in
    up_is _ _ _ _ (omega arith) _
    (record { least = omega arith; within = omega arith; all = λ q a b. passed _ _ _ _ c.alike-n.ensures _ l.invariant.2 q a (omega arith); stop = λ h. absurd (omega arith) })

pub returns-then-n-b : goal.returns-then-n-b
returns-then-n-b c =
    let l = c.loop-p in
    let n = c.alike-n.ensures in
    up_is _ _ _ _ (omega arith) _ (record { least = omega arith; within = omega arith; all = passed _ _ _ _ n _ l.invariant.2; stop = λ h. halts _ _ _ _ n (omega arith) })

pub loop-p-preserved : goal.loop-p-preserved
loop-p-preserved c =
    let l = c.loop-p in
    (omega arith, omega arith, passed _ _ _ _ c.alike-n.ensures _ l.invariant.2)

pub returns : goal.returns
returns c =
    let i = c.loop-p.invariant in
    up_is _ _ _ _ (omega arith) _ (record { least = omega arith; within = omega arith; all = i.2; stop = λ h. absurd (omega arith) })
