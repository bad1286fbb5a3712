-- What is past PADDING from the place reached is what is past it from the first.
use Rattle.std.proofs.Common.{◌≡◌}
use Rattle.steps.specs.Past.{past_zeros}
use Rattle.steps.proofs.frame.past_padding.Given as goal

abbrev pub invariant-loop-i : goal.invariant-loop-i
invariant-loop-i l = past_zeros l.s l.i ≡ past_zeros l.s l.at
