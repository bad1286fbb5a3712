-- `limits::rest::untouched` meets its contract: its tests in a row are those of an entry as opening sets it.
use Rattle.entries.proofs.Fresh.{in_a_row}
use Rattle.limits.proofs.rest.untouched.Goals as goal

pub returns : goal.returns
returns c = let a = c.args in in_a_row a.before a.e a.init
