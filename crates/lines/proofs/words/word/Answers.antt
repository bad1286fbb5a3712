-- `words::word` meets its contract: the line from the word asked for is what is left, from as many words on as are left to pass.
use mathlib.Core.Path.{◌≡◌, ◌∙◌, ap}
use Prim.Native.Nat.{◌-◌, ◌+◌}
use native.Mathlib.Omega.{arith}
use Rattle.lines.specs.Words.{from_word, first_word, word_of}
use Rattle.lines.proofs.Finding.{part, word_less, word_here}
use Rattle.lines.proofs.words.word.Goals as goal

pub loop-init : goal.loop-init
loop-init c = ap (from_word c.args.s.now) (omega arith)

pub slice_bounds-rest-count : goal.slice_bounds-rest-count
slice_bounds-rest-count c = c.behind_blank-at.ensures.0

pub slice_bounds-rest-start : goal.slice_bounds-rest-start
slice_bounds-rest-start c = c.behind_blank-at.ensures.0

pub loop-preserved : goal.loop-preserved
loop-preserved c =
    let p = c.behind_blank-at in
    let l = c.loop in
    let e : c.args.n - (l.counter + 1) ≡ c.args.n - l.counter - 1 = omega arith in
    rw e (word_less _ (c.args.n - l.counter) p.result (omega arith) p.ensures.1 ∙ l.invariant)

pub slice_bounds-result-end : goal.slice_bounds-result-end
slice_bounds-result-end c = part _ 32 c.word_end-end.result c.word_end-end.ensures

pub returns : goal.returns
unfolding word_of
returns c =
    let w = c.word_end-end in
    let l = c.loop in
    word_here _ (c.args.n - l.counter) w.result (omega arith) w.ensures ∙ ap first_word l.invariant
