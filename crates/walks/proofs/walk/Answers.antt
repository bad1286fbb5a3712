-- `walks::walk` meets its contract: the loop holds that what is left from here is what was asked at the start.
use mathlib.Core.Path.{sym, ap, refl, ◌∙◌}
use mathlib.Core.List.{List}
use native.Mathlib.Omega.{arith}
use Rattle.entries.specs.declared.Entry.{Entry}
use Rattle.steps.specs.declared.Stopped.{Stopped}
use Rattle.walks.proofs.Turns.{ended, stops, goes_on, nearer}
use Rattle.walks.proofs.walk.Goals as goal

pub walk-init : goal.walk-init
walk-init c = (_, omega arith, refl)

pub walk-smaller : goal.walk-smaller
walk-smaller c =
    let i = c.walk.invariant in
    nearer c.args.s.now c.args.kind c.walk.conn c.walk.t i.0 c.walk.at i.1 c.past_padding-at.ensures i.2 c.if-s-at.false c.step-r.ensures.0 (sym c.is_open.ensures ∙ c.if-not-is_open.false)

pub walk-preserved : goal.walk-preserved
walk-preserved c =
    let i = c.walk.invariant in
    goes_on c.args.s.now c.args.kind c.walk.conn c.walk.t i.0 c.walk.at i.1 c.past_padding-at.ensures i.2 c.if-s-at.false c.step-r.ensures.0 c.step-r.ensures.1 (sym c.is_open.ensures ∙ c.if-not-is_open.false)

pub returns-then-s-at : goal.returns-then-s-at
returns-then-s-at c =
    let i = c.walk.invariant in
    let e = ended c.args.s.now c.args.kind c.walk.conn c.walk.t i.0 c.walk.at i.1 c.past_padding-at.ensures i.2 c.if-s-at.true in
    (ap (λ (x : Stopped × List Entry). x.0) e, ap (λ (x : Stopped × List Entry). x.1) e)

pub returns-then-not-is_open : goal.returns-then-not-is_open
returns-then-not-is_open c =
    let i = c.walk.invariant in
    let e = stops c.args.s.now c.args.kind c.walk.conn c.walk.t i.0 c.walk.at i.1 c.past_padding-at.ensures i.2 c.if-s-at.false c.step-r.ensures.0 c.step-r.ensures.1 (sym c.is_open.ensures ∙ c.if-not-is_open.true) in
    (ap (λ (x : Stopped × List Entry). x.0) e, ap (λ (x : Stopped × List Entry). x.1) e)
