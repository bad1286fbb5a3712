-- `stores::hand` meets its contract: the part that is lent is the stream's.
use Rattle.std.proofs.Common.{arith, ◌≡◌, ◌+◌, ◌-◌, ◌*◌}
use Rattle.stores.proofs.Parts.{part_is}
use Rattle.stores.proofs.Stores.{hands}
use Rattle.stores.proofs.hand.Goals as goal

pub returns : goal.returns
returns c =
    let a = c.args in
    let e : (a.place * 4096 + 4096) - a.place * 4096 ≡ 4096 = omega arith in
    let f : (a.place * 64 + 64) - a.place * 64 ≡ 64 = omega arith in
    let k =
    hands a.rings.now a.marks.now a.place a.reach.read a.reach.held a.out.now (record { bytes = omega arith; words = omega arith; there = omega arith }) _ _
    (part_is 4096 a.place a.rings.now e) (part_is 64 a.place a.marks.now f) _ _ c.hand.ensures.value c.hand.ensures.out_after in
    record { value = k.0; out_after = k.1 }
