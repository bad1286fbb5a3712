-- The table of answer numbers holds by computation.
-- Assumes nothing.
use mathlib.Core.Path.{refl}
use Rattle.answers.specs.Table.{Table}

pub table : Table
table = record { numbers = refl }
