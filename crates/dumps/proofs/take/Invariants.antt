use mathlib.Core.Path.{◌≡◌}
use Prim.Native.Nat.{◌≤◌}
use lib.ListN.{length, drop}
use Rattle.dumps.specs.Dump.{begun_of, read_of}
use Rattle.dumps.proofs.Turns.{Reached}
use Rattle.dumps.proofs.take.Given as goal

abbrev pub invariant-loop-at : goal.invariant-loop-at
invariant-loop-at l = record {
  stored : l.len ≤ l.at;
  room : length l.s ≤ length l.initial.out;
  same : length l.out ≡ length l.initial.out;
  begun : begun_of l.half ≡ l.half;
  read : Reached (read_of (begun_of l.fn.half) l.s) l.initial.out (read_of l.half (drop l.at l.s)) l.out l.len l.at;
}
