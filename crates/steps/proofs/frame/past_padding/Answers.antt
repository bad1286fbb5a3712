-- `steps::frame::past_padding` meets its contract: where PADDING may be passed, what is past PADDING from the place reached is what is past it from the first.
use native.Mathlib.Omega.{arith}
use mathlib.Core.Path.{◌≡◌, sym, ◌∙◌}
use Prim.Native.Nat.{ℕ, ◌≤◌, max}
use mathlib.Core.List.{List}
use lib.ListN.{length}
use Rattle.answers.proofs.Choice.{below_or_not}
use Rattle.steps.specs.Past.{passable, past_padding, past_zeros}
use Rattle.steps.proofs.Passed.{pass, stay, ended}
use Rattle.steps.proofs.frame.past_padding.Goals as goal

-- the end of the bytes, or the first place where that is past it
at_end : (s : List ℕ) (at i m : ℕ) → m ≡ max at (length s) → length s ≤ i → (at ≤ length s → i ≤ length s) → past_zeros s i ≡ past_zeros s at → m ≡ past_zeros s at
at_end s at i m e h k p =
    below_or_not (length s) at (λ l. let q : m ≡ at = omega arith in rw q (ended s at (omega arith)))
    (λ l. let b = k l in let q : m ≡ i = omega arith in rw q (ended s i h ∙ p))

pub returns-then-s-i-ne0 : goal.returns-then-s-i-ne0
unfolding passable past_padding
returns-then-s-i-ne0 c = rw (sym c.is_open.ensures ∙ c.if-not-is_open.false, sym c.admits.ensures ∙ c.if-not-admits.false) (stay _ _ c.if-s-i-ne0.true ∙ c.loop-i.invariant)

pub loop-i-preserved : goal.loop-i-preserved
loop-i-preserved c = let l = c.loop-i in pass _ l.i (omega (arith, c.loop-i-test.true)) c.if-s-i-ne0.false ∙ l.invariant

pub returns : goal.returns
unfolding passable past_padding
returns c =
    let l = c.loop-i in
    rw (sym c.is_open.ensures ∙ c.if-not-is_open.false, sym c.admits.ensures ∙ c.if-not-admits.false)
    (at_end c.args.s.now c.args.at l.i c.max.result c.max.ensures (omega (arith, c.loop-i-test.false)) l.auto.i-end l.invariant)
