-- `ring::is_clean` meets its contract: the numbers from the top on have the rest of its word and the words after it.
use mathlib.Core.Bool.{true≢false}
use native.Mathlib.Omega.{arith}
use mathlib.Core.Path.{sym}
use Prim.Native.Nat.{◌+◌, ◌*◌, ◌/◌}
use Rattle.answers.proofs.Choice.{below_or_not}
use Rattle.ring.proofs.Clean.{clean_word, word_clean, decided}
use Rattle.ring.proofs.is_clean.Goals as goal

pub returns-then-top-ge8192 : goal.returns-then-top-ge8192
returns-then-top-ge8192 c = decided _ _ _ (record { holds = λ e m a b. absurd (omega arith); fails = λ e. absurd (true≢false e) })

pub returns-then-not-blank : goal.returns-then-not-blank
returns-then-not-blank c = decided _ _ _ (record {
  holds = λ e. absurd (true≢false (sym e));
  fails = λ e f. c.blank.ensures.fails (c.if-not-blank.true) (word_clean _ _ (omega arith) f);
})

pub returns : goal.returns
returns c =
    let top = c.args.top in
    decided _ _ _ (record {
      holds = λ e m p l. below_or_not m (top / 64 * 64 + 64) (λ q. clean_word _ top (c.blank.ensures.holds (c.if-not-blank.false)) m p l (omega arith)) (λ q. c.zeros.ensures.holds e m (omega arith) l);
      fails = λ e f. c.zeros.ensures.fails e (λ m p l. f m (omega arith) l);
    })
