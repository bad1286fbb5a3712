use mathlib.Core.Path.{◌≡◌}
use Prim.Native.Nat.{◌-◌}
use lib.ListN.{length}
use Rattle.pages.specs.Pages.{page_from}
use Rattle.pages.proofs.fill.Given as goal

abbrev pub invariant-loop : goal.invariant-loop
invariant-loop l = page_from (length l.s - l.counter) l.now l.s l.out ≡ page_from (length l.s) l.initial.now l.s l.initial.out
