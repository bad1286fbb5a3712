-- `gather::gather` meets its contract: the piece goes up to the place found, and a newline is there exactly if that is not the end.
use Rattle.lines.proofs.Finding.{part}
use Rattle.lines.proofs.Gathering.{ended_line, open_line}
use Rattle.lines.proofs.gather.gather.Goals as goal

pub slice_bounds-grown-end : goal.slice_bounds-grown-end
slice_bounds-grown-end c = part c.args.s.now 10 c.line_end-end.result c.line_end-end.ensures

pub returns-then-ended : goal.returns-then-ended
returns-then-ended c =
    let a = c.args in
    ended_line a.line a.s.now a.row.now c.line_end-end.result c.line_end-end.ensures c.grown-line.ensures c.if-ended.true

pub returns-else-ended : goal.returns-else-ended
returns-else-ended c =
    let a = c.args in
    open_line a.line a.s.now a.row.now c.line_end-end.result c.line_end-end.ensures c.grown-line.ensures c.if-ended.false
