-- `row` meets its contract: each field has room after those before it, together they are the row, and the front of the line is what is put.
use mathlib.Core.Path.{sym}
use lib.Seq.{length-take-le}
use Rattle.columns.proofs.Fields.{room_for_type, room_for_code, room_for_total, row_within, row_front}
use Rattle.columns.proofs.row.Goals as goal

pub type_field-after_type-requires : goal.type_field-after_type-requires
type_field-after_type-requires c =
    let a = c.args in
    room_for_type a.place a.ty a.code a.total c.field-after_place.ensures

pub field-after_code-requires : goal.field-after_code-requires
field-after_code-requires c =
    let a = c.args in
    room_for_code a.place a.ty a.code a.total c.field-after_place.ensures c.type_field-after_type.ensures

pub field-end-requires : goal.field-end-requires
field-end-requires c =
    let a = c.args in
    room_for_total a.place a.ty a.code a.total c.field-after_place.ensures c.type_field-after_type.ensures c.field-after_code.ensures

pub slice_bounds-line-end : goal.slice_bounds-line-end
slice_bounds-line-end c =
    let a = c.args in
    row_within a.place a.ty a.code a.total c.field-after_place.ensures c.type_field-after_type.ensures c.field-after_code.ensures c.field-end.ensures

pub slice_bounds-bytes-end : goal.slice_bounds-bytes-end
slice_bounds-bytes-end c =
    let a = c.args in
    sym (length-take-le _ _ (row_within a.place a.ty a.code a.total c.field-after_place.ensures c.type_field-after_type.ensures c.field-after_code.ensures c.field-end.ensures))

pub returns : goal.returns
returns c =
    let a = c.args in
    let e = row_front a.place a.ty a.code a.total c.field-after_place.ensures c.type_field-after_type.ensures c.field-after_code.ensures c.field-end.ensures in
    rw e at c.bytes.ensures
