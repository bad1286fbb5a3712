-- `closed` meets its contract: the code stands after the text, and the front of the line is what is put.
use mathlib.Core.Path.{sym}
use lib.Seq.{length-take-le}
use Rattle.columns.specs.Row.{closed_text}
use Rattle.columns.proofs.Fields.{room_for_number, closed_within, closed_front}
use Rattle.columns.proofs.closed.Goals as goal

pub field-end-requires : goal.field-end-requires
unfolding closed_text
field-end-requires c =
    room_for_number c.args.code c.bytes.ensures

pub slice_bounds-line-end : goal.slice_bounds-line-end
unfolding closed_text
slice_bounds-line-end c =
    closed_within c.args.code c.bytes.ensures c.field-end.ensures

pub slice_bounds-bytes-end-3 : goal.slice_bounds-bytes-end-3
unfolding closed_text
slice_bounds-bytes-end-3 c = sym (length-take-le _ _ (closed_within c.args.code c.bytes.ensures c.field-end.ensures))

pub returns : goal.returns
unfolding closed_text
returns c =
    let a = c.args in
    let e = closed_front a.code c.bytes.ensures c.field-end.ensures in
    rw e at c.bytes-2.ensures
