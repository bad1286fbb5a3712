-- Whether an answer accepts: `Accepted` does, and no other; and what a list of tests that accepts has passed.
-- Assumes nothing.
use Prim.Native.Nat.{ℕ, ◌<◌}
use mathlib.Core.Path.{◌≡◌, refl, sym, ◌∙◌, ap}
use mathlib.Core.Bool.{Bool, true, false, false≢true}
use native.Mathlib.Omega.{arith}
use borrow.Author.Tests.{ne_eqb, eqb-true}
use denote.Enum.Declared.{tag_of}
use types.Run.{OneOf}
use Rattle.answers.specs.Choice.{◌⇒◌∣◌}
use Rattle.answers.specs.Answers.{number_of, accepts}
use Rattle.answers.specs.declared.Answer.{Answer}
use Rattle.answers.specs.declared.Answer.TheVariants.{Accepted}
use Rattle.answers.specs.contracts.Answer as answer
use Rattle.answers.proofs.Numbers.{one_case, others, other}

pub takes : (a : Answer) → a ≡ Accepted → accepts a ≡ true
takes a e = ap accepts e

pub accepts_true : (a : Answer) → accepts a ≡ true → a ≡ Accepted
accepts_true a e = one_case a Accepted (eqb-true (number_of a) 0 e)

pub refuses : (a : Answer) → (a ≡ Accepted → ⊥) → accepts a ≡ false
refuses a h = ne_eqb (number_of a) 0 (λ e. h (one_case a Accepted e))

-- what a match leaves over
pub refused : (a : Answer) → OneOf others (tag_of answer.the_type a) → accepts a ≡ false
refused a o = refuses a (λ e. other (rw e at o))

-- a choice that accepts has passed its first test, if that refuses
pub passed : (b : Bool) (a x : Answer) → accepts a ≡ false → (b ⇒ a ∣ x) ≡ Accepted → (b ≡ false) × (x ≡ Accepted)
passed true a x f e = absurd (false≢true (sym f ∙ takes a e))
passed false a x f e = (refl, e)

-- a choice that accepts, whose other side refuses, went to the first
pub allows : (b : Bool) (x a : Answer) → 0 < number_of a → (b ⇒ x ∣ a) ≡ Accepted → (b ≡ true) × (x ≡ Accepted)
allows true x a l e = (refl, e)
allows false x a l e = absurd (omega (arith, ap number_of e))
