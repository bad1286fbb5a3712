-- `dumps::take` meets its contract: what is read of the text from the place on, after what is stored, is what is read of all of it, and each turn uses one character.
use mathlib.Core.Path.{refl, sym, ◌∙◌, ap}
use Rattle.std.specs.Prelude.{Some}
use native.Mathlib.Omega.{arith}
use lib.ListN.{length-set}
use Rattle.dumps.proofs.Turns.{starts, passes, opens, stores, stops, no_room, is_wrong, is_all}
use Rattle.dumps.proofs.Characters.{begun_none, begun_twice, first_begun}
use Rattle.dumps.proofs.take.Goals.{in-Between, in-Begun, in-Byte}
use Rattle.dumps.proofs.take.Goals as goal

pub returns-then-out-s : goal.returns-then-out-s
returns-then-out-s c =
    let a = c.args in
    sym (no_room a.half a.s.now a.out.now c.if-out-s.true)

pub loop-at-init : goal.loop-at-init
loop-at-init c = let a = c.args in record { stored = omega arith; room = omega arith; same = refl; begun = rw c.begun-half.ensures (begun_twice a.half); read = rw c.begun-half.ensures (starts _ a.out.now) }

pub next-requires : goal.next-requires
next-requires c = c.loop-at.invariant.begun

pub returns-in_default : goal.returns-in_default
returns-in_default c =
    let a = c.args in
    let l = c.loop-at in
    let r = stops a.s.now l.half l.at (omega arith) l.invariant.read (sym c.next.ensures ∙ c.in_default.is) in
    sym (is_wrong a.half a.s.now a.out.now l.invariant.room l.half l.at r (omega arith))

pub loop-at-preserved : goal.loop-at-preserved
loop-at-preserved c =
    let s = c.args.s.now in
    let l = c.loop-at in
    let v = l.invariant in
    let e = sym c.in-Some.ensures in
    elim c.match-step.branch [
      | in-Between w ↦ rw (w.out-is, w.half-is, w.len-is) record { stored = omega arith; room = v.room; same = v.same; begun = v.begun; read = passes s l.half l.at (omega arith) v.read (e ∙ ap Some w.in-Between.is) }
      | in-Begun w ↦ rw (w.out-is, w.half-is, w.len-is) record { stored = omega arith; room = v.room; same = v.same; begun = first_begun _ _ (e ∙ ap Some w.in-Begun.is); read = opens s l.half l.at (omega arith) v.read _ (e ∙ ap Some w.in-Begun.is) }
      | in-Byte w ↦ rw (w.out-is, w.half-is, w.len-is) record { stored = omega arith; room = v.room; same = rw length-set v.same; begun = begun_none; read = stores s l.half l.at (omega arith) v.read _ (e ∙ ap Some w.in-Byte.is) }
    ]

pub returns : goal.returns
returns c =
    let a = c.args in
    let l = c.loop-at in
    sym (is_all a.half a.s.now a.out.now l.invariant.room l.half l.at (omega arith) l.invariant.read)
