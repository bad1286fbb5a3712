-- `pages::fill` meets its contract: filling what there is now, with as many rows as are left, is filling the page from its beginning.
use mathlib.Core.Path.{◌≡◌, sym, ◌∙◌, ap}
use Prim.Native.Nat.{ℕ, ◌-◌, ◌+◌}
use native.Mathlib.Omega.{arith}
use lib.ListN.{length}
use Rattle.pages.specs.Pages.{page_from, page_of, turned}
use Rattle.pages.proofs.Filling.{stops_full, stops_end, none_left, goes_on}
use Rattle.pages.proofs.fill.Goals.{then-now-via-then-now, then-now-via-else-now+then-s-now}
use Rattle.pages.proofs.fill.Goals as goal

pub loop-init : goal.loop-init
loop-init c = let a = c.args in ap (λ (k : ℕ). page_from k (turned a.p) a.s.now a.out.now) (omega arith)

pub returns-then-now : goal.returns-then-now
unfolding page_of
returns-then-now c =
    let l = c.loop in
    let k = length c.args.s.now - l.counter in
    elim c.then-now.branch [
      | then-now-via-then-now w ↦ sym (stops_full _ _ _ k w.if-now.true) ∙ l.invariant
      | then-now-via-else-now+then-s-now w ↦ sym (stops_end _ _ _ k w.if-s-now.true) ∙ l.invariant
    ]

pub loop-preserved : goal.loop-preserved
loop-preserved c =
    let l = c.loop in
    let s = c.args.s.now in
    let k = length s - l.counter in
    let e : length s - (l.counter + 1) ≡ k - 1 = omega arith in
    rw e (goes_on l.now s l.out k (omega arith) c.if-now.false (omega arith) c.one_more-now.ensures ∙ l.invariant)

pub returns : goal.returns
unfolding page_of
returns c =
    let l = c.loop in
    sym (none_left _ _ _ (length c.args.s.now - l.counter) (omega arith)) ∙ l.invariant
