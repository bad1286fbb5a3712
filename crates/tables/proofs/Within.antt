-- Opening sets no entry that the table does not have.
-- Assumes nothing.
use mathlib.Core.Path.{◌≡◌, refl}
use mathlib.Core.Bool.{Bool, true, false}
use Prim.Native.Nat.{ℕ, ◌≤◌}
use native.Mathlib.Omega.{arith}
use borrow.Author.Tests.{eqb-true}
use lib.Dec.{eqb}
use Rattle.answers.specs.Choice.{◌⇒◌∣◌}
use Rattle.answers.specs.declared.Answer.TheVariants.{DoesNotFit}
use Rattle.answers.specs.Answers.{accepts}
use Rattle.answers.proofs.Choice.{holds}
use Rattle.streams.specs.declared.Limits.{Limits}
use Rattle.opening.specs.Opening.{unopened_of, opening_of}
use Rattle.kinds.specs.declared.Role.{Role}
use Rattle.opening.specs.Opening.{opening_when, entries_of}

pub entries_within : (role : Role) (n : ℕ) (limits : Limits) → entries_of (opening_when role n limits).answer ≤ n
unfolding opening_when entries_of
entries_within role n limits = go (eqb n 192) refl
  where
    go : (b : Bool) → eqb n 192 ≡ b → entries_of (b ⇒ opening_of role limits ∣ unopened_of role DoesNotFit).answer ≤ n
    go true e = holds (λ (k : ℕ). k ≤ n) (accepts (opening_of role limits).answer) 192 0 (λ _. omega (arith, eqb-true n 192 e)) (λ _. omega arith)
    go false e = omega arith
