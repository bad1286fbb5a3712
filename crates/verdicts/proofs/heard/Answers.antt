-- `verdicts::heard` meets its contract: each kind of frame has the answer and the effect of the definitions, and rule 5 leaves room for the new total.
use borrow.Author.Rules.{rules}
use mathlib.Core.Path.{sym, ◌∙◌}
use native.Mathlib.Omega.{arith}
use Prim.Native.Nat.{◌<◌, ◌^◌}
use Rattle.rules.proofs.Taken.{taken_as}
use Rattle.verdicts.proofs.heard.Goals as goal

pub overflow_add-total : goal.overflow_add-total
overflow_add-total c =
    let a = c.args in
    let t = taken_as a.c a.e c.in-Ends.id c.in-Ends.end c.in-Ends.fin (sym c.ends.ensures ∙ c.in_ok-ends-in-Ends.was) in
    let k : a.c.limits.credit < 2 ^ 64 = search rules in
    record { fits = omega (arith, c.growth.ensures, t.room) }
