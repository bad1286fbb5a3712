-- `words::bytes` meets its contract: the test for "-" is the definition's, and any other word is read as pairs.
use mathlib.Core.Path.{sym, ◌∙◌}
use Rattle.lines.specs.Words.{is_none, bytes_of}
use Rattle.lines.proofs.words.bytes.Goals as goal

pub returns-then-same : goal.returns-then-same
unfolding is_none bytes_of
returns-then-same c = simp (sym c.same.ensures ∙ c.if-same.true)

pub returns : goal.returns
unfolding is_none bytes_of
returns c =
    simp (sym c.same.ensures ∙ c.if-same.false) c.read.ensures
