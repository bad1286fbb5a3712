-- `hexes::decode` meets its contract: storing the bytes of the pairs that are left from the place on is storing all of them, and each turn stores one.
use mathlib.Core.Path.{◌≡◌, refl, sym, ◌∙◌}
use mathlib.Core.Bool.{and-eq-true_iff}
use Prim.Native.Nat.{◌%◌, ◌*◌, ◌+◌}
use native.Mathlib.Omega.{arith}
use borrow.Author.Tests.{eqb-true}
use lib.Dec.{eqb}
use lib.ListN.{length, length-set}
use Rattle.text.specs.Text.{every}
use Rattle.hexes.specs.Hex.{is_pairs, bytes_in}
use Rattle.dumps.specs.Digits.{is_half}
use Rattle.dumps.proofs.Digits.{half_bound, no_half}
use Rattle.answers.proofs.Distinct.{impossible}
use Rattle.text.proofs.Steps.{ended}
use Rattle.hexes.proofs.Halves.{pair, pair_step}
use Rattle.hexes.proofs.decode.Goals as goal

pub loop-i-init : goal.loop-i-init
unfolding is_pairs
loop-i-init c =
    let s = c.args.s.now in
    let p = (and-eq-true_iff (eqb (length s % 2) 0) (every is_half s)).0 c.requires.0 in
    record { even = eqb-true (length s % 2) 0 p.0; room = c.requires.1; same = refl; digits = p.1; stored = refl }

-- every character that is left is a digit
pub returns-in_default : goal.returns-in_default
returns-in_default c =
    let i = 2 * c.loop-i.i in
    let p = (pair c.args.s.now i (omega arith) c.loop-i.invariant.digits).1 in
    let n = no_half _ (sym c.half-in-loop-i.ensures ∙ c.in_default.is-1) in
    impossible cc

pub returns-in_default-2 : goal.returns-in_default-2
returns-in_default-2 c =
    let i = 2 * c.loop-i.i in
    let p = (pair c.args.s.now i (omega arith) c.loop-i.invariant.digits).0 in
    let n = no_half _ (sym c.half.ensures ∙ c.in_default.is-0) in
    impossible cc

pub overflow_mul-out : goal.overflow_mul-out
overflow_mul-out c = let s = c.args.s.now in omega (arith, half_bound _ (sym c.half.ensures ∙ c.in-Some-Some.is-0), half_bound _ (sym c.half-in-loop-i.ensures ∙ c.in-Some-Some.is-1))

pub overflow_add-out : goal.overflow_add-out
overflow_add-out c = omega (arith, half_bound _ (sym c.half.ensures ∙ c.in-Some-Some.is-0), half_bound _ (sym c.half-in-loop-i.ensures ∙ c.in-Some-Some.is-1))

pub loop-i-preserved : goal.loop-i-preserved
loop-i-preserved c =
    let s = c.args.s.now in
    let l = c.loop-i in
    let v = l.invariant in
    let e : 2 * (l.i + 1) ≡ 2 * l.i + 2 = omega arith in
    record {
      even = v.even;
      room = v.room;
      same = rw length-set v.same;
      digits = rw e (pair s (2 * l.i) (omega arith) v.digits).2;
      stored = rw e (pair_step s (2 * l.i) (omega arith) l.out l.i (sym c.half.ensures ∙ c.in-Some-Some.is-0) (sym c.half-in-loop-i.ensures ∙ c.in-Some-Some.is-1) ∙ v.stored);
    }

pub returns : goal.returns
unfolding bytes_in
returns c =
    rw (ended c.args.s.now (2 * c.loop-i.i) (omega arith)) at c.loop-i.invariant.stored
