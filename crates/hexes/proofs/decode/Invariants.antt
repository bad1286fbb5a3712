use mathlib.Core.Path.{◌≡◌}
use mathlib.Core.Bool.{true}
use Prim.Native.Nat.{◌≤◌, ◌*◌, ◌/◌, ◌%◌}
use lib.ListN.{length, drop}
use lib.Seq.{sets}
use Rattle.text.specs.Text.{every}
use Rattle.hexes.specs.Hex.{bytes_in}
use Rattle.dumps.specs.Digits.{is_half}
use Rattle.hexes.proofs.decode.Given as goal

abbrev pub invariant-loop-i : goal.invariant-loop-i
invariant-loop-i l = record {
  even : length l.s % 2 ≡ 0;
  room : length l.s / 2 ≤ length l.initial.out;
  same : length l.out ≡ length l.initial.out;
  digits : every is_half (drop (2 * l.i) l.s) ≡ true;
  stored : sets l.out l.i (bytes_in (drop (2 * l.i) l.s)) ≡ sets l.initial.out 0 (bytes_in l.s);
}
