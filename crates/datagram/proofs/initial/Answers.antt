-- `datagram::initial` meets its contract: the token lies within the rest, and the version is the one that came in.
use mathlib.Core.Path.{sym, ◌∙◌}
use Rattle.invariants.proofs.Cases.{counted}
use Rattle.datagram.proofs.initial.Goals as goal

pub numbered-requires : goal.numbered-requires
numbered-requires c = (c.requires.0, (counted _ _ (sym c.bytes_after.ensures ∙ c.in_ok-token.ensures.ok_part)).within)
