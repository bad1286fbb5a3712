-- `ring::without` meets its contract: a shift by fewer than 64 bits loses none of them, and what is left of a word above all of its bits is 0.
use mathlib.Core.Path.{sym}
use native.Mathlib.Omega.{arith}
use lib.Pow.{pow_pos}
use Rattle.ring.proofs.Bits.{one_shl, shr_shl, without_fits, without_in, without_all}
use Rattle.ring.proofs.without.Goals as goal

pub nonzero_rem-low : goal.nonzero_rem-low
nonzero_rem-low c = rw (one_shl c.args.lo (omega arith)) (pow_pos c.args.lo)

pub returns-then-hi-eq64 : goal.returns-then-hi-eq64
returns-then-hi-eq64 c =
    let a = c.args in
    rw (one_shl a.lo (omega arith), c.if-hi-eq64.true) (sym (without_all a.w a.lo (omega arith) c.ranges.w.fits))

pub overflow_add-result : goal.overflow_add-result
overflow_add-result c =
    let a = c.args in
    record { fits = rw (one_shl a.lo (omega arith), shr_shl a.w a.hi c.ranges.w.fits) (without_fits a.w a.lo a.hi (omega arith) c.ranges.w.fits) }

pub returns : goal.returns
returns c =
    let a = c.args in
    rw (one_shl a.lo (omega arith), shr_shl a.w a.hi c.ranges.w.fits) (sym (without_in a.w a.lo a.hi (omega arith) (omega arith)))
