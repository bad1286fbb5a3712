-- `acks::frame` meets its contract: the first run gives the first five numbers, the others give the ranges, and their count goes to its place.
use mathlib.Core.Path.{sym, ◌∙◌}
use native.Mathlib.Omega.{arith}
use lib.ListN.{length-set}
use Rattle.acks.specs.Ack.{frame_of}
use Rattle.acks.proofs.Going.{is_run, none, framed}
use Rattle.acks.proofs.frame.Goals as goal

pub returns-in_default : goal.returns-in_default
unfolding frame_of
returns-in_default c = record { long = c.requires; most = omega arith; holds = rw (none _ 32 _ (sym c.next_run.ensures ∙ c.in_default.is)) }

pub overflow_sub-numbers : goal.overflow_sub-numbers
overflow_sub-numbers c = (is_run _ _ (sym c.next_run.ensures ∙ c.in-Some.is)).ordered

pub ranges-count-requires : goal.ranges-count-requires
ranges-count-requires c = (record { stop = (is_run _ _ (sym c.next_run.ensures ∙ c.in-Some.is)).stop }, rw (length-set, length-set, length-set, length-set) c.requires)

pub overflow_sub-numbers-2 : goal.overflow_sub-numbers-2
overflow_sub-numbers-2 c = omega (arith, c.ranges-count.ensures.count)

pub bounds-numbers-3 : goal.bounds-numbers-3
bounds-numbers-3 c = omega (arith, c.ranges-count.ensures.long)

pub returns : goal.returns
returns c = framed _ _ _ _ c.args.numbers.now _ _ (sym c.next_run.ensures ∙ c.in-Some.is) c.requires c.ranges-count.ensures
