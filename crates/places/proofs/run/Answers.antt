-- `places::run` meets its contract: the place up to which the marks go on is as far above `read` as the run is long.
use Rattle.places.proofs.Ups.{up_least, up_length}
use Rattle.places.proofs.run.Goals as goal

pub overflow_sub-result : goal.overflow_sub-result
overflow_sub-result c = rw c.up.ensures (up_least _ _ _ _)

pub returns : goal.returns
returns c = rw c.up.ensures (up_length _ _ _)
