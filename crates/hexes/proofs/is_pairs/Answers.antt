-- `hexes::is_pairs` meets its contract: an even count of characters is pairs of digits if each is a digit.
use native.Mathlib.Omega.{arith}
use borrow.Author.Tests.{eq-eqb, ne_eqb}
use Prim.Native.Nat.{ℕ, ◌%◌}
use lib.ListN.{length}
use Rattle.std.specs.Option.{is_some}
use Rattle.dumps.specs.Digits.{half_of, is_half}
use Rattle.hexes.specs.Hex.{is_pairs}
use Rattle.hexes.proofs.Halves.{every_all}
use Rattle.hexes.proofs.is_pairs.Goals as goal

pub returns-then-s-eq0 : goal.returns-then-s-eq0
unfolding is_pairs is_half
returns-then-s-eq0 c =
    let s = c.args.s.now in
    rw (eq-eqb (length s % 2) 0 (omega arith), every_all (λ (x : ℕ). is_some (half_of x)) s) c.all_digits.ensures

pub returns-else-s-eq0 : goal.returns-else-s-eq0
unfolding is_pairs
returns-else-s-eq0 c = let s = c.args.s.now in rw (ne_eqb (length s % 2) 0 (λ e. absurd (omega arith)))
