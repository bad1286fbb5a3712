-- `replay::feed` is safe and ends: each turn uses some of the bytes that are left, and no more than there are.
use Prim.Native.Nat.{ℕ, ◌+◌, ◌-◌, ◌≤◌, ◌<◌}
use mathlib.Core.Path.{◌≡◌}
use mathlib.Core.List.{List}
use native.Mathlib.Omega.{arith}
use lib.ListN.{length, take, drop, length-drop}
use Rattle.lines.specs.declared.gather.Gathered.{Gathered}
use Rattle.lines.specs.Gathered.{gathered_of}
use Rattle.lines.proofs.Finding.{rest_of}
use Rattle.lines.proofs.Pieces.{uses}
use Rattle.replay.proofs.feed.Goals as goal
use Rattle.std.specs.Prelude.{Option}

-- what a turn uses of the bytes from the place on
used : (s : List ℕ) (at : ℕ) (line : Option ℕ) (row : List ℕ) {r : Gathered} {after : List ℕ} → (r, after) ≡ gathered_of line (take (length s - at) (drop at s)) row → at < length s → (0 < r.used) × (at + r.used ≤ length s)
used s at line row e h =
    let l = length-drop at s in
    let v = uses (drop at s) line row (rw (rest_of s at) at e) (omega (arith, l)) in
    (v.0, omega (arith, v.1, l))

pub overflow_add-at : goal.overflow_add-at
overflow_add-at g c = record { fits = omega (arith, (used c.args.s.now c.loop-at.at _ _ c.gather-got.ensures c.loop-at-test.true).1) }

pub loop-at-smaller-then-got : goal.loop-at-smaller-then-got
loop-at-smaller-then-got g c = let u = used c.args.s.now c.loop-at.at _ _ c.gather-got.ensures c.loop-at-test.true in omega (arith, u.0, u.1)

pub loop-at-preserved-then-got : goal.loop-at-preserved-then-got
loop-at-preserved-then-got g c = (used c.args.s.now c.loop-at.at _ _ c.gather-got.ensures c.loop-at-test.true).1

pub loop-at-smaller : goal.loop-at-smaller
loop-at-smaller g c = let u = used c.args.s.now c.loop-at.at _ _ c.gather-got.ensures c.loop-at-test.true in omega (arith, u.0, u.1)

pub loop-at-preserved : goal.loop-at-preserved
loop-at-preserved g c = (used c.args.s.now c.loop-at.at _ _ c.gather-got.ensures c.loop-at-test.true).1
