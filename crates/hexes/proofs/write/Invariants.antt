use mathlib.Core.Path.{◌≡◌}
use Prim.Native.Nat.{◌≤◌, ◌+◌, ◌*◌}
use lib.ListN.{length, drop}
use lib.Seq.{sets}
use Rattle.hexes.specs.Hex.{hex_of}
use Rattle.hexes.proofs.write.Given as goal

abbrev pub invariant-loop-byte : goal.invariant-loop-byte
invariant-loop-byte l = record {
  place : l.place ≡ l.at + 2 * l.byte-index;
  room : l.at + 2 * length l.s ≤ length l.initial.out;
  same : length l.out ≡ length l.initial.out;
  stored : sets l.out l.place (hex_of (drop l.byte-index l.s)) ≡ sets l.initial.out l.at (hex_of l.s);
}
