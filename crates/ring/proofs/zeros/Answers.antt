-- `ring::zeros` meets its contract: `all` has no bit exactly where no word that it has met has one.
use native.Mathlib.Omega.{arith}
use Prim.Native.Nat.{◌+◌, ◌*◌, ◌<◌}
use lib.ListN.{get_or}
use Rattle.std.proofs.lemmas.List.Edits.{get_or-between}
use Rattle.answers.proofs.Choice.{below_or_not}
use Rattle.ring.proofs.Bits.{bit_zero}
use Rattle.ring.proofs.Clean.{bits_of, word_of, blank_or, or_blank}
use Rattle.ring.proofs.zeros.Goals as goal

pub loop-w-init : goal.loop-w-init
loop-w-init c = (λ z m a b d. absurd (omega arith), λ f i a b. bit_zero i)

pub loop-w-preserved : goal.loop-w-preserved
loop-w-preserved c =
    let l = c.loop-w in
    let k = c.args.from + l.w-index in
    let w = get_or c.args.words.now k 0 in
    let h : k < 128 = omega arith in
    rw (get_or-between c.args.words.now c.args.from 128 l.w-index 0 h) (
      λ z m a b d. below_or_not m (64 * k) (λ p. l.invariant.0 (or_blank l.all w 0 z).0 m a p d) (λ p. bits_of _ k (or_blank l.all w 0 z).1 m p d (omega arith)),
      λ f. blank_or l.all w 0 (l.invariant.1 f) (word_of _ k h (λ m a b. f m (omega arith) b)),
    )

pub returns : goal.returns
returns c =
    let l = c.loop-w in
    record { holds = λ e m a b. l.invariant.0 (c.blank.ensures.holds e) m a (omega arith) b; fails = λ e f. c.blank.ensures.fails e (l.invariant.1 f) }
