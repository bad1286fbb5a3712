-- `words::with_sign` meets its contract: the first character decides, as in the definition.
use mathlib.Core.Path.{sym, ◌∙◌}
use mathlib.Core.Logic.{inl, inr}
use borrow.Author.Tests.{eqb-true}
use Rattle.lines.specs.Words.{as_signed}
use Rattle.lines.proofs.Signs.{behind_dash, no_dash}
use Rattle.lines.proofs.words.with_sign.Goals.{else-not-is_empty-via-then-not-is_empty+else-word-eq45, else-not-is_empty-via-else-not-is_empty}
use Rattle.lines.proofs.words.with_sign.Goals as goal

pub returns-in_err-value : goal.returns-in_err-value
unfolding as_signed
returns-in_err-value c = rw (behind_dash c.args.word.now c.if-word-eq45.true, sym c.read.ensures ∙ c.in_err-value.was) c.from_residual.ensures

pub returns-then-word-eq45 : goal.returns-then-word-eq45
unfolding as_signed
returns-then-word-eq45 c = rw (behind_dash c.args.word.now c.if-word-eq45.true, sym c.read.ensures ∙ c.in_ok-value.was)

pub returns-in_err-value-2 : goal.returns-in_err-value-2
unfolding as_signed
returns-in_err-value-2 c =
    let n =
    no_dash c.args.word.now (elim c.else-not-is_empty.branch [
      | else-not-is_empty-via-then-not-is_empty+else-word-eq45 w ↦ inr w.if-word-eq45.false
      | else-not-is_empty-via-else-not-is_empty w ↦ inl (eqb-true _ _ (sym c.is_empty.ensures ∙ w.if-not-is_empty.false))
    ]) in
    rw (n, sym c.read-2.ensures ∙ c.in_err-value-2.was) c.from_residual-in_err-value-2.ensures

pub returns : goal.returns
unfolding as_signed
returns c =
    let n =
    no_dash c.args.word.now (elim c.else-not-is_empty.branch [
      | else-not-is_empty-via-then-not-is_empty+else-word-eq45 v ↦ inr v.if-word-eq45.false
      | else-not-is_empty-via-else-not-is_empty v ↦ inl (eqb-true _ _ (sym c.is_empty.ensures ∙ v.if-not-is_empty.false))
    ]) in
    rw (n, sym c.read-2.ensures ∙ c.in_ok-value-2.was)
