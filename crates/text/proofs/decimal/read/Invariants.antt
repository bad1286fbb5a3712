use mathlib.Core.Path.{◌≡◌}
use Prim.Native.Nat.{◌<◌, ◌^◌}
use lib.ListN.{length, drop}
use Rattle.text.specs.Text.{every}
use Rattle.text.specs.Decimal.{value_from, is_digit}
use Rattle.text.proofs.decimal.read.Given as goal

abbrev pub invariant-loop-c : goal.invariant-loop-c
invariant-loop-c l = record {
  some : 0 < length l.s;
  digits : every is_digit l.s ≡ every is_digit (drop l.c-index l.s);
  value : value_from 0 l.s ≡ value_from l.value (drop l.c-index l.s);
  fits : l.value < 2 ^ 64;
}
