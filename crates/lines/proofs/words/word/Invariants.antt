use mathlib.Core.Path.{◌≡◌}
use Prim.Native.Nat.{◌-◌}
use Rattle.lines.specs.Words.{from_word}
use Rattle.lines.proofs.words.word.Given as goal

abbrev pub invariant-loop : goal.invariant-loop
invariant-loop l = from_word l.rest (l.n - l.counter) ≡ from_word l.s l.n
