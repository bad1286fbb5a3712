-- `datagram::long` meets its contract: both IDs lie within the rest, and the version is the one that was tested.
use mathlib.Core.Path.{sym, ◌∙◌}
use Rattle.invariants.proofs.Cases.{ordered}
use Rattle.datagram.proofs.long.Goals as goal

pub negotiation-requires : goal.negotiation-requires
negotiation-requires c = (cc, (ordered _ (sym c.read.ensures ∙ c.in_ok-ids.ensures.ok_part)).within)

pub version_one-requires : goal.version_one-requires
version_one-requires c = (c.requires, cc, (ordered _ (sym c.read.ensures ∙ c.in_ok-ids.ensures.ok_part)).within)

pub whole-requires : goal.whole-requires
whole-requires c = (ordered _ (sym c.read.ensures ∙ c.in_ok-ids.ensures.ok_part)).within
