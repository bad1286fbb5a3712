-- `places::paint` meets its contract: its tests are those of the definition, nothing is painted where no place is named, and the words that `mark` leaves are known by their marks.
use Rattle.std.proofs.Common.{arith}
use Rattle.places.proofs.Slots.{mark_none}
use Rattle.places.proofs.Places.{painted_short, painted_high, painted_many, painted_is}
use Rattle.places.proofs.paint.Goals as goal

pub returns-then-marks-ne64 : goal.returns-then-marks-ne64
returns-then-marks-ne64 c = painted_short _ _ _ _ (λ e. omega arith)

pub returns-then-to-gt-MOST : goal.returns-then-to-gt-MOST
returns-then-to-gt-MOST c = painted_high _ _ _ _ (omega arith)

pub returns-then-to-from : goal.returns-then-to-from
returns-then-to-from c = painted_is _ _ _ _ (omega arith) (omega arith) (omega arith) _ (record { long = omega arith; small = λ k. (c.type_inv.marks k).fits }) (mark_none _ _ _ _ (omega arith))

pub returns-then-to-from-gt4096 : goal.returns-then-to-from-gt4096
returns-then-to-from-gt4096 c = painted_many _ _ _ _ (omega arith)

pub returns : goal.returns
returns c = painted_is _ _ _ _ (omega arith) (omega arith) (omega arith) _ c.mark.ensures.whole c.mark.ensures.marked
