-- `gather::grown` meets its contract: what writing the piece after the line answers and leaves is what the line and the row become.
use mathlib.Core.Path.{sym}
use Rattle.lines.specs.Gathered.{grown_of}
use Rattle.lines.proofs.Gathering.{as_written}
use Rattle.lines.proofs.gather.grown.Goals as goal

pub returns-in_err-line : goal.returns-in_err-line
unfolding grown_of
returns-in_err-line c = rw (c.in_err-line.was, c.from_residual.ensures)

pub returns : goal.returns
returns c =
    let a = c.args in
    rw c.in_ok-line.was (as_written _ a.piece.now a.row.now c.bytes.ensures (sym c.ok.ensures.value))
