use mathlib.Core.Path.{◌≡◌}
use Prim.Native.Nat.{◌+◌, ◌<◌}
use lib.ListN.{length, drop}
use Rattle.search.specs.Words.{before, find_of}
use Rattle.search.proofs.find.Given as goal

abbrev pub invariant-loop-i : goal.invariant-loop-i
invariant-loop-i l = record {
  rest : find_of l.s l.at l.byte ≡ l.i + before l.byte (drop l.i l.s);
  none : length l.s < l.at → l.i ≡ l.at;
}
