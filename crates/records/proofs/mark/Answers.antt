-- `records::mark` meets its contract: the window is moved up to n, it holds n, and of its bits only that of n is set, by a store of a word of 64 bits.
use borrow.Author.Rules.{rules}
use native.Mathlib.Omega.{arith}
use mir.Val.{Fits}
use mir.Syntax.{w64}
use Rattle.records.proofs.Ring.{whole_set, mark}
use Rattle.records.proofs.mark.Goals as goal

pub returns : goal.returns
returns c =
    let s = c.slide.ensures in
    let f : Fits w64 c.put.result = search rules in
    record { marked = mark _ _ _ _ (omega arith) s.whole.long s.slid (omega (arith, s.slid.top)) c.put.ensures; whole = whole_set _ _ _ (omega arith) f.fits s.whole }
