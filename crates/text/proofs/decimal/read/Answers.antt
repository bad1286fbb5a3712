-- `decimal::read` meets its contract: what is left from the place on, after the value so far, is digits if all is, and has the value of all; a value that is too large stays so.
use mathlib.Core.Path.{◌≡◌, sym, ◌∙◌}
use mathlib.Core.Bool.{true, false}
use Prim.Native.Nat.{◌-◌, ◌+◌, ◌*◌}
use native.Mathlib.Omega.{arith}
use lib.ListN.{get_or, drop}
use Rattle.text.specs.Text.{every}
use Rattle.text.specs.Decimal.{value_from, is_digit}
use borrow.Author.Tests.{eqb-true}
use Rattle.text.proofs.Steps.{ended}
use Rattle.text.proofs.Digits.{value_step, digits_on, digits_off, grows, empty_wrong, other_wrong, large_wrong, is_number}
use Rattle.text.proofs.decimal.read.Goals as goal

pub returns-then-is_empty : goal.returns-then-is_empty
returns-then-is_empty c = sym (empty_wrong _ (eqb-true _ _ (sym c.is_empty.ensures ∙ c.if-is_empty.true)))

pub returns-then-not-is_ascii_digit : goal.returns-then-not-is_ascii_digit
unfolding is_digit
returns-then-not-is_ascii_digit c =
    let s = c.args.s.now in
    let e : is_digit (get_or s c.loop-c.c-index 0) ≡ false = sym c.is_ascii_digit.ensures.value ∙ c.if-not-is_ascii_digit.true in
    sym (other_wrong s (c.loop-c.invariant.digits ∙ digits_off s c.loop-c.c-index (omega arith) e))

pub returns-then-digit-value : goal.returns-then-digit-value
returns-then-digit-value c =
    let s = c.args.s.now in
    let v = c.loop-c.value * 10 + (get_or s c.loop-c.c-index 0 - 48) in
    sym (large_wrong s (omega (arith, c.loop-c.invariant.value, value_step s c.loop-c.c-index (omega arith) c.loop-c.value, grows v (drop (c.loop-c.c-index + 1) s))))

pub loop-c-preserved : goal.loop-c-preserved
unfolding is_digit
loop-c-preserved c =
    let s = c.args.s.now in
    let e : is_digit (get_or s c.loop-c.c-index 0) ≡ true = sym c.is_ascii_digit.ensures.value ∙ c.if-not-is_ascii_digit.false in
    record {
      some = c.loop-c.invariant.some;
      digits = c.loop-c.invariant.digits ∙ digits_on s c.loop-c.c-index (omega arith) e;
      value = rw c.from-digit.ensures (c.loop-c.invariant.value ∙ value_step s c.loop-c.c-index (omega arith) c.loop-c.value);
      fits = omega arith;
    }

pub returns : goal.returns
unfolding value_from every
returns c =
    let s = c.args.s.now in
    let e = ended s c.loop-c.c-index (omega arith) in
    let v : value_from 0 s ≡ c.loop-c.value = c.loop-c.invariant.value ∙ rw e in
    sym (rw v at (is_number s (omega arith) (c.loop-c.invariant.digits ∙ rw e) (omega arith)))
