-- `clashes::clash` meets its contract: up to `at` the frame agrees with what is held; a run that differs decides.
use native.Mathlib.Omega.{arith}
use mathlib.Core.Path.{sym, ◌∙◌}
use Prim.Native.Nat.{◌+◌, max, min}
use Rattle.places.proofs.Ups.{up_told}
use Rattle.seams.proofs.Compared.{same_told}
use Rattle.clashes.proofs.Fitting.{room_told}
use Rattle.clashes.proofs.Clashing.{clash_unfit, clash_is, no_clash, agrees, past, agrees_more, agrees_here, is_true}
use Rattle.clashes.proofs.clash.Goals as goal

pub returns-then-not-has_room : goal.returns-then-not-has_room
returns-then-not-has_room c = clash_unfit _ _ _ _ _ _ _ _ (sym c.has_room.ensures ∙ c.if-not-has_room.true)

pub overflow_add-piece : goal.overflow_add-piece
overflow_add-piece c =
    let p = room_told _ _ _ _ _ _ _ _ (sym c.has_room.ensures ∙ c.if-not-has_room.false) in
    omega (arith, p.fits, p.low)

pub loop-at-init : goal.loop-at-init
loop-at-init c = (omega arith, λ p a b. absurd (omega arith))

pub overflow_sub-place : goal.overflow_sub-place
overflow_sub-place c =
    let p = room_told _ _ _ _ _ _ _ _ (sym c.has_room.ensures ∙ c.if-not-has_room.false) in
    let k = up_told _ _ _ _ p.words _ c.up-first.ensures in
    omega (arith, k.least)

pub overflow_add-place : goal.overflow_add-place
overflow_add-place c =
    let p = room_told _ _ _ _ _ _ _ _ (sym c.has_room.ensures ∙ c.if-not-has_room.false) in
    let k = up_told _ _ _ _ p.words _ c.up-first.ensures in
    omega (arith, k.within, p.there)

pub overflow_sub-last : goal.overflow_sub-last
overflow_sub-last c =
    let p = room_told _ _ _ _ _ _ _ _ (sym c.has_room.ensures ∙ c.if-not-has_room.false) in
    let r = up_told _ _ _ _ p.words _ c.up-last.ensures in
    omega (arith, r.least)

pub returns-then-not-same_at : goal.returns-then-not-same_at
returns-then-not-same_at c =
    let p = room_told _ _ _ _ _ _ _ _ (sym c.has_room.ensures ∙ c.if-not-has_room.false) in
    let k = up_told _ _ _ _ p.words _ c.up-first.ensures in
    let r = up_told _ _ _ _ p.words _ c.up-last.ensures in
    let same =
    same_told _ _ _ _ _
    (record { long = p.bytes; few = omega (arith, p.reach, k.least, r.within); room = omega (arith, p.there, k.least, r.within) }) _ c.same_at.ensures in
    let a = c.args in
    clash_is _ _ _ _ _ _ _ _ p _
    (is_true _ (λ e. same.fails (c.if-not-same_at.true)
    (agrees_here a.ring.now a.marks.now a.reach.read a.reach.held a.s.now a.piece.from a.piece.len a.piece.offset _ _ _ _ k r
    (max a.piece.offset a.reach.read) (min (a.piece.offset + a.piece.len) a.reach.held) (omega (arith, c.max-at.ensures)) (omega (arith, c.max-at.ensures)) (omega (arith, c.min-to.ensures))
    (agrees a.ring.now a.marks.now a.reach.read a.reach.held a.s.now a.piece.from a.piece.len a.piece.offset e))))

pub loop-at-smaller : goal.loop-at-smaller
loop-at-smaller c =
    let p = room_told _ _ _ _ _ _ _ _ (sym c.has_room.ensures ∙ c.if-not-has_room.false) in
    let k = up_told _ _ _ _ p.words _ c.up-first.ensures in
    let r = up_told _ _ _ _ p.words _ c.up-last.ensures in
    let a = c.args in
    omega (arith, past a.ring.now a.marks.now a.reach.read a.reach.held a.s.now a.piece.from a.piece.len a.piece.offset _ _ _ _ k r (omega arith))

pub loop-at-preserved : goal.loop-at-preserved
loop-at-preserved c =
    let p = room_told _ _ _ _ _ _ _ _ (sym c.has_room.ensures ∙ c.if-not-has_room.false) in
    let k = up_told _ _ _ _ p.words _ c.up-first.ensures in
    let r = up_told _ _ _ _ p.words _ c.up-last.ensures in
    let same =
    same_told _ _ _ _ _
    (record { long = p.bytes; few = omega (arith, p.reach, k.least, r.within); room = omega (arith, p.there, k.least, r.within) }) _ c.same_at.ensures in
    let a = c.args in (
      omega (arith, k.least, r.least),
      agrees_more a.ring.now a.marks.now a.reach.read a.reach.held a.s.now a.piece.from a.piece.len a.piece.offset _ _ _ _ k r _
          (omega (arith, c.max-at.ensures)) c.loop-at.invariant.1 (same.holds (c.if-not-same_at.false)),
    )

pub returns : goal.returns
returns c =
    let p = room_told _ _ _ _ _ _ _ _ (sym c.has_room.ensures ∙ c.if-not-has_room.false) in
    let a = c.args in
    clash_is _ _ _ _ _ _ _ _ p _
    (sym (no_clash a.ring.now a.marks.now a.reach.read a.reach.held a.s.now a.piece.from a.piece.len a.piece.offset
    (λ p x y. c.loop-at.invariant.1 p (omega (arith, c.max-at.ensures)) (omega (arith, c.min-to.ensures)))))
