-- `pages::small` meets its contract: it opens a table that was room with the numbers of the definition.
use mathlib.Core.Path.{◌∙◌, ap}
use mathlib.Core.List.{List}
use Rattle.kinds.specs.declared.Role.TheVariants.{Server}
use Rattle.owned.specs.Owned.{owned_opened_of}
use Rattle.streams.specs.Small.{small}
use Rattle.entries.specs.declared.Entry.{Entry}
use Rattle.pages.specs.Pages.{small_of}
use Rattle.pages.proofs.small.Goals as goal

pub returns : goal.returns
unfolding small_of
returns c = c.«open».ensures ∙ ap (λ (t : List Entry). owned_opened_of Server t small) c.room.ensures
