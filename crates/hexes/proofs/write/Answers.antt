-- `hexes::write` meets its contract: writing the digits of the bytes that are left from the place on is writing all of them, and each turn writes one byte's.
use mathlib.Core.Path.{◌≡◌, sym, ◌∙◌}
use Prim.Native.Nat.{◌+◌}
use native.Mathlib.Omega.{arith}
use lib.ListN.{length, length-set}
use Rattle.hexes.specs.Hex.{hex_of}
use Rattle.wire.proofs.Writing.{no_room, all_written}
use Rattle.text.proofs.Steps.{ended}
use Rattle.hexes.proofs.Halves.{length_hex, hex_step}
use Rattle.hexes.proofs.write.Goals as goal
use Rattle.hexes.proofs.write.Goals.{then-out-at-via-then-out-at, then-out-at-via-else-out-at+then-out-at-2}

pub returns-then-out-at : goal.returns-then-out-at
returns-then-out-at c =
    let a = c.args in
    let n = length_hex a.s.now in
    sym (no_room a.out.now a.at (hex_of a.s.now) (elim c.then-out-at.branch [ then-out-at-via-then-out-at w ↦ omega arith | then-out-at-via-else-out-at+then-out-at-2 w ↦ omega arith ]))

pub loop-byte-preserved : goal.loop-byte-preserved
loop-byte-preserved c =
    let a = c.args in
    let l = c.loop-byte in
    record {
      place = omega (arith, l.invariant.place);
      room = l.invariant.room;
      same = rw (length-set, length-set) l.invariant.same;
      stored = rw (c.digit.ensures, c.digit-in-loop-byte.ensures) (hex_step a.s.now l.byte-index (omega arith) l.out l.place ∙ l.invariant.stored);
    }

pub returns : goal.returns
unfolding hex_of
returns c =
    let a = c.args in
    let l = c.loop-byte in
    let n = length_hex a.s.now in
    let e : l.place ≡ a.at + length (hex_of a.s.now) = omega (arith, n, l.invariant.place) in
    rw (e, rw (ended a.s.now l.byte-index (omega arith)) at l.invariant.stored) (sym (all_written a.out.now a.at (hex_of a.s.now) (omega (arith, n))))
