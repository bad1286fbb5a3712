-- `ring::blank` meets its contract: the shift leaves exactly the bits from s on, and a word that is not 0 has a bit.
use borrow.Author.Tests.{eqb-true, eqb-false}
use Rattle.ring.proofs.Clean.{blank_word, marked_word}
use Rattle.ring.proofs.blank.Goals as goal

pub returns : goal.returns
returns c =
    let a = c.args in
    record { holds = λ e. blank_word a.w a.s (eqb-true _ 0 e); fails = λ e. marked_word a.w a.s c.ranges.w.fits (eqb-false _ 0 e) }
