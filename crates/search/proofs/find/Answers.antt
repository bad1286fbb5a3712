-- `search::find` meets its contract: searching from the present place on finds what searching from the first one does.
use mathlib.Core.Path.{refl}
use native.Mathlib.Omega.{arith}
use lib.ListN.{length}
use Rattle.answers.proofs.Choice.{below_or_not}
use Rattle.search.specs.Words.{before, find_of}
use Rattle.text.proofs.Steps.{ended}
use Rattle.search.proofs.Search.{before_here, before_later}
use Rattle.search.proofs.find.Goals as goal

pub loop-i-init : goal.loop-i-init
unfolding find_of
loop-i-init c = record { rest = refl; none = λ h. refl }

pub returns-then-s-i : goal.returns-then-s-i
returns-then-s-i c =
    omega (arith, c.loop-i.invariant.rest, before_here c.args.s.now c.loop-i.i (omega arith) c.args.byte (omega arith))

pub loop-i-preserved : goal.loop-i-preserved
loop-i-preserved c = record {
  rest = omega (arith, c.loop-i.invariant.rest, before_later c.args.s.now c.loop-i.i (omega arith) c.args.byte (λ e. omega (arith, e)));
  none = λ h. absurd (omega arith);
}

pub returns : goal.returns
unfolding before
returns c =
    let e = rw (ended c.args.s.now c.loop-i.i c.loop-i-test.false) at c.loop-i.invariant.rest in
    below_or_not (length c.args.s.now) c.args.at (λ h. omega (arith, e, c.loop-i.invariant.none h, c.max.ensures)) (λ h. omega (arith, e, c.max.ensures))
