-- `words::behind_blank` meets its contract: after the first blank, or the end, after which nothing stands.
use native.Mathlib.Omega.{arith}
use Rattle.lines.proofs.Finding.{within, behind_found, behind_none}
use Rattle.lines.proofs.words.behind_blank.Goals as goal

pub returns-then-end-s : goal.returns-then-end-s
returns-then-end-s c =
    (omega arith, behind_found c.args.s.now c.word_end-end.result c.word_end-end.ensures)

pub returns-else-end-s : goal.returns-else-end-s
returns-else-end-s c =
    let s = c.args.s.now in
    (within s 32 c.word_end-end.result c.word_end-end.ensures, behind_none s c.word_end-end.result c.word_end-end.ensures c.if-end-s.false)
