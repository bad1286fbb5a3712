-- `search::same`: the texts are the same if what is left of both from the place on is.
use mathlib.Core.Path.{◌≡◌}
use lib.ListN.{length, drop}
use Rattle.search.specs.Words.{same_of}
use Rattle.search.proofs.same.Given as goal

abbrev pub invariant-loop-i : goal.invariant-loop-i
invariant-loop-i l = record {
  long : length l.s ≡ length l.word;
  left : same_of l.s l.word ≡ same_of (drop l.i l.s) (drop l.i l.word);
}
