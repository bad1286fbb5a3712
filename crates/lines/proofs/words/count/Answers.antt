-- `words::count` meets its contract: the blanks so far and those from the place on are all, and there is a gap exactly if one comes from the place on.
use mathlib.Core.Path.{refl, sym, ◌∙◌}
use native.Mathlib.Omega.{arith}
use borrow.Author.Tests.{eq-eqb, ne_eqb}
use Rattle.text.proofs.Steps.{ended}
use Rattle.lines.specs.Words.{blanks, gap_behind}
use Rattle.lines.proofs.Counting.{blank_here, blank_later, gap_here, gap_after, gap_later, no_words, some_words}
use Rattle.lines.proofs.words.count.Goals.{then-c-eq32+else-last-eq32, else-c-eq32}
use Rattle.lines.proofs.words.count.Goals as goal

pub loop-c-init : goal.loop-c-init
loop-c-init c = record { most = omega arith; fewer = λ n. absurd (n refl); counted = omega arith; gaps = refl }

pub returns-then-last-eq32 : goal.returns-then-last-eq32
returns-then-last-eq32 c =
    let s = c.args.s.now in
    let l = c.loop-c in
    sym (no_words s (l.invariant.gaps ∙ gap_here s l.c-index (omega arith) l.last c.if-last-eq32.true c.if-c-eq32.true))

pub loop-c-preserved : goal.loop-c-preserved
loop-c-preserved c =
    let s = c.args.s.now in
    let l = c.loop-c in
    let i = l.invariant in
    elim c.if-c-eq32.branch [
      | then-c-eq32+else-last-eq32 w ↦ rw (w.blanks-is, w.last-is) record {
        most = omega arith;
        fewer = λ n. absurd (n w.if-c-eq32.true);
        counted = omega (arith, i.counted, blank_here s l.c-index (omega arith) w.if-c-eq32.true);
        gaps = i.gaps ∙ gap_after s l.c-index (omega arith) l.last w.if-last-eq32.false;
      }
      | else-c-eq32 w ↦ rw (w.blanks-is, w.last-is) record {
        most = omega arith;
        fewer = λ n. omega arith;
        counted = omega (arith, i.counted, blank_later s l.c-index (omega arith) w.if-c-eq32.false);
        gaps = i.gaps ∙ gap_later s l.c-index (omega arith) l.last w.if-c-eq32.false;
      }
    ]

pub overflow_add-result : goal.overflow_add-result
overflow_add-result c = record { fits = omega (arith, c.loop-c.invariant.fewer c.if-last-eq32-2.false) }

pub returns-then-last-eq32-2 : goal.returns-then-last-eq32-2
unfolding gap_behind
returns-then-last-eq32-2 c =
    let s = c.args.s.now in
    let l = c.loop-c in
    sym (no_words s (l.invariant.gaps ∙ rw (ended s l.c-index (omega arith)) (eq-eqb _ _ c.if-last-eq32-2.true)))

pub returns-else-last-eq32-2 : goal.returns-else-last-eq32-2
unfolding gap_behind blanks
returns-else-last-eq32-2 c =
    let s = c.args.s.now in
    let l = c.loop-c in
    let e = ended s l.c-index (omega arith) in
    omega (arith, some_words s (l.invariant.gaps ∙ rw e (ne_eqb _ _ c.if-last-eq32-2.false)), rw e at l.invariant.counted)
