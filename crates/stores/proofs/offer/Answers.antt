-- `stores::offer` meets its contract: the parts that are lent are the stream's and go back to its place.
use Rattle.std.proofs.Common.{arith, ◌≡◌, ◌+◌, ◌-◌, ◌*◌}
use Rattle.stores.proofs.Parts.{part_is, back_is}
use Rattle.stores.proofs.Stores.{leaves}
use Rattle.stores.proofs.offer.Goals as goal

pub returns : goal.returns
returns c =
    let a = c.args in
    let e : (a.place * 4096 + 4096) - a.place * 4096 ≡ 4096 = omega arith in
    let f : (a.place * 64 + 64) - a.place * 64 ≡ 64 = omega arith in
    let t = c.offer.ensures in
    let k =
    leaves a.rings.now a.marks.now a.place a.reach.read a.reach.held a.s.now a.piece.from a.piece.len a.piece.offset (record { bytes = omega arith; words = omega arith; there = omega arith }) _ _ _ _
    (part_is 4096 a.place a.rings.now e) (part_is 64 a.place a.marks.now f) _ _ _ t.value t.ring_after t.marks_after (back_is 4096 a.place a.rings.now e _) (back_is 64 a.place a.marks.now f _) in
    record { value = k.0; rings_after = k.1.0; marks_after = k.1.1 }
