use mathlib.Core.Path.{◌≡◌}
use Prim.Native.Nat.{◌≤◌, ◌<◌, ◌+◌}
use lib.ListN.{drop}
use Rattle.lines.specs.Words.{blanks, gap_behind}
use Rattle.lines.proofs.words.count.Given as goal

abbrev pub invariant-loop-c : goal.invariant-loop-c
invariant-loop-c l = record {
  most : l.blanks ≤ l.c-index;
  fewer : (l.last ≡ 32 → ⊥) → l.blanks < l.c-index;
  counted : blanks l.s ≡ l.blanks + blanks (drop l.c-index l.s);
  gaps : gap_behind 32 l.s ≡ gap_behind l.last (drop l.c-index l.s);
}
