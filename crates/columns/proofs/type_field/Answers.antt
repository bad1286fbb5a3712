-- `type_field` meets its contract: a type is a field like a number, and one that could not be read is a dash and a blank.
use mathlib.Core.Path.{refl}
use native.Mathlib.Numerals.{add-one}
use Rattle.columns.proofs.Fields.{type_number, type_dash}
use Rattle.columns.proofs.type_field.Goals as goal

pub returns-in-Some : goal.returns-in-Some
returns-in-Some c =
    rw (c.in-Some.is, type_number) c.field.ensures

pub returns-in-None : goal.returns-in-None
returns-in-None c = rw (c.in-None.is, type_dash) (refl, rw add-one)
