-- `records::check_of` meets its contract: a record that passes the three tests has the three facts of one that fits.
use native.Mathlib.Omega.{arith}
use mathlib.Core.Path.{sym, ap, ◌∙◌}
use Rattle.answers.specs.Outcome.{outcome_of}
use Prim.Native.Nat.{◌-◌}
use Rattle.ring.proofs.Clean.{unmarked_facts}
use Rattle.ring.proofs.Marked.{bit_at_lt}
use Rattle.records.proofs.Sound.{fits}
use Rattle.records.proofs.check_of.Goals.{then-seen-gt0+else-largest-gt-MOST+else-bit_at-eq0, else-seen-gt0}
use Rattle.records.proofs.check_of.Goals as goal

pub returns-then-is_clean : goal.returns-then-is_clean
returns-then-is_clean c =
    let a = c.args in
    ap outcome_of (fits a.seen.now (record {
      clean = λ m p q. unmarked_facts a.seen.now.words a.seen.now.top (8192 - a.seen.now.top) (sym c.is_clean.ensures ∙ c.if-is_clean.true) m p (omega arith);
      last = λ p. elim c.if-seen-gt0.branch [ then-seen-gt0+else-largest-gt-MOST+else-bit_at-eq0 w ↦ omega (arith, bit_at_lt a.seen.now.words (a.seen.now.top - 1)) | else-seen-gt0 w ↦ absurd (omega arith) ];
      small = elim c.if-seen-gt0.branch [ then-seen-gt0+else-largest-gt-MOST+else-bit_at-eq0 w ↦ omega arith | else-seen-gt0 w ↦ omega arith ];
    }))
