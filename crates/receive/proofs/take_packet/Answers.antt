-- `receive::take_packet` meets its contract: the packet's checks, the walk over its frames and what is left of the connection and the records, one after the other.
use mathlib.Core.Path.{refl}
use Rattle.receive.specs.Taking.{took_of, took_table}
use Rattle.receive.proofs.take_packet.Goals as goal

pub returns : goal.returns
unfolding took_of took_table
returns c = rw (c.finish.ensures, c.walk-stopped.ensures.0, c.walk-stopped.ensures.1, c.begin-begun.ensures, c.fits.ensures) (refl, refl)
