-- `keeping::keep` meets its contract: the bytes stored, the gap cleared and the places marked leave the one content.
use Rattle.std.proofs.Common.{rules, arith, get_or, ◌+◌, ◌<◌}
use mir.Val.{Fits}
use mir.Syntax.{w64}
use mathlib.Core.Path.{sym, ◌∙◌}
use Rattle.clashes.proofs.Fitting.{room_told}
use Rattle.keeping.proofs.Keeping.{ring_left, marks_left, ring_kept, marks_kept, keeps_none, keeps}
use Rattle.keeping.proofs.keep.Goals as goal

pub returns-then-not-has_room : goal.returns-then-not-has_room
returns-then-not-has_room c =
    let k = keeps_none _ _ _ _ _ _ _ _ (sym c.has_room.ensures ∙ c.if-not-has_room.true) in
    record { value = k.0; ring_after = k.1.0; marks_after = k.1.1 }

pub overflow_add-end : goal.overflow_add-end
overflow_add-end c =
    let p = room_told _ _ _ _ _ _ _ _ (sym c.has_room.ensures ∙ c.if-not-has_room.false) in
    omega (arith, p.fits, p.low)

-- all bytes of the frame were read
pub returns-then-end-read : goal.returns-then-end-read
returns-then-end-read c =
    let a = c.args in
    let fit = sym c.has_room.ensures ∙ c.if-not-has_room.false in
    let p = room_told _ _ _ _ _ _ _ _ fit in
    let k =
    keeps _ _ _ _ _ _ _ _ fit _ _ _ c.max-top.ensures
    (ring_left a.ring.now a.marks.now a.reach.read a.reach.held a.s.now a.piece.from a.piece.len a.piece.offset (omega arith) p.bytes)
    (marks_left a.ring.now a.marks.now a.reach.read a.reach.held a.s.now a.piece.from a.piece.len a.piece.offset (omega arith) (record { long = p.words; small = λ i. let h : Fits w64 (get_or a.marks.now i 0) = search rules in h.fits })) in
    record { value = k.0; ring_after = k.1.0; marks_after = k.1.1 }

pub overflow_add-from : goal.overflow_add-from
overflow_add-from c =
    let p = room_told _ _ _ _ _ _ _ _ (sym c.has_room.ensures ∙ c.if-not-has_room.false) in
    omega (arith, p.there, c.max-start.ensures, c.well_formed)

pub returns : goal.returns
returns c =
    let a = c.args in
    let fit = sym c.has_room.ensures ∙ c.if-not-has_room.false in
    let p = room_told _ _ _ _ _ _ _ _ fit in
    let d : a.reach.read < a.piece.offset + a.piece.len = omega arith in
    let k =
    keeps _ _ _ _ _ _ _ _ fit _ _ _ c.max-top.ensures
    (ring_kept a.ring.now a.marks.now a.reach.read a.reach.held a.s.now a.piece.from a.piece.len a.piece.offset _ _ c.max-start.ensures c.max-gap.ensures p.reach p.fits d p.bytes p.there _
    c.store.ensures)
    (marks_kept a.ring.now a.marks.now a.reach.read a.reach.held a.s.now a.piece.from a.piece.len a.piece.offset _ _ c.max-start.ensures c.max-gap.ensures p.reach p.fits d p.words p.low _ _
    c.paint.ensures c.paint-2.ensures) in
    record { value = k.0; ring_after = k.1.0; marks_after = k.1.1 }
