-- `ring::complement` meets its contract: `!` turns each bit of a word.
use Rattle.ring.proofs.Leading.{bit_not}
use Rattle.ring.proofs.complement.Goals as goal

pub returns : goal.returns
returns c = bit_not c.args.word c.ranges.word.fits
