-- The lab's small connection, docs/RULES.md, "Bench examples": "counts 4 and 4, stream credits 16, connection credit 40". The examples and the listing open it.
use Rattle.std.specs.Prelude.{[], ◌∷◌}
use Rattle.streams.specs.declared.Limits.{Limits}

abbrev pub small : Limits
small = record { credit = 40; counts = 4 ∷ 4 ∷ []; initial = 16 ∷ 16 ∷ 16 ∷ [] }
