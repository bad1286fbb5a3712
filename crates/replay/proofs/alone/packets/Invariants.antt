-- `replay::alone::packets` is safe and ends: what is left of the datagram falls.
use lib.ListN.{length}
use Rattle.replay.proofs.alone.packets.Given as goal

abbrev pub decreases-loop-rest : goal.decreases-loop-rest
decreases-loop-rest l = length l.rest
