-- `field` meets its contract: there is room for the number, and the byte after it makes the field.
use native.Mathlib.Omega.{arith}
use Rattle.columns.proofs.Fields.{unrefused, next_within, next_stored, field_written}
use Rattle.columns.proofs.field.Goals as goal

pub returns-in_default : goal.returns-in_default
returns-in_default c =
    absurd (unrefused _ _ c.args.n c.requires c.write.ensures c.in_default.is)

pub bounds-line-next : goal.bounds-line-next
bounds-line-next c =
    next_stored _ _ c.args.n c.requires c.write.ensures c.in-Ok.is

pub overflow_add-result : goal.overflow_add-result
overflow_add-result c =
    omega (arith, next_within _ _ c.args.n c.requires c.write.ensures c.in-Ok.is)

pub returns : goal.returns
returns c =
    field_written _ _ c.args.n c.requires c.write.ensures c.in-Ok.is c.args.behind
