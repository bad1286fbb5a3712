-- `hexes::digit` meets its contract: its test is the definition's.
use native.Mathlib.Omega.{arith}
use Rattle.hexes.proofs.Halves.{digit_figure, digit_letter}
use Rattle.hexes.proofs.digit.Goals as goal

pub returns-then-half-lt10 : goal.returns-then-half-lt10
returns-then-half-lt10 c = let h = c.args.half in omega (arith, digit_figure h (omega arith))

pub returns-else-half-lt10 : goal.returns-else-half-lt10
returns-else-half-lt10 c = let h = c.args.half in omega (arith, digit_letter h (omega arith))
