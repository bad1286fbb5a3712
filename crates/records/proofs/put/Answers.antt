-- `records::put` meets its contract: the shift gives the one bit b, and `|` goes bit by bit.
use Rattle.ring.proofs.Bits.{one_shl, put_bit}
use Rattle.records.proofs.put.Goals as goal

pub returns : goal.returns
returns c = rw (one_shl c.args.b c.requires) (put_bit c.args.w c.args.b)
