-- What an accepted STREAM or RESET_STREAM frame keeps: no rule is against it.
-- Assumes nothing.
use Prim.Native.Nat.{ℕ, ◌+◌, ◌-◌, ◌≤◌}
use mathlib.Core.Path.{◌≡◌, refl, sym, ◌∙◌}
use mathlib.Core.Bool.{Bool, false}
use borrow.Author.Tests.{ltb-false}
use Rattle.answers.specs.declared.Answer.{Answer}
use Rattle.answers.specs.declared.Answer.TheVariants.{Accepted, FlowControl, StreamLimit, StreamState, FinalSize}
use Rattle.answers.proofs.Accepts.{passed}
use Rattle.answers.proofs.Outcome.{passes}
use Rattle.answers.specs.Outcome.{outcome_of}
use Rattle.std.specs.Prelude.{Ok}
use Rattle.streams.specs.declared.Conn.{Conn}
use Rattle.entries.specs.declared.Entry.{Entry}
use Rattle.halves.specs.Stream.{stream_of, half_of}
use Rattle.entries.specs.Entry.{final_of}
use Rattle.streams.specs.Conn.{count_of}
use Rattle.rules.specs.Rules.{rule1, rule2, rule3, rule4, rule5, ends_of}

pub record Taken (c : Conn) (e : Entry) (id end : ℕ) (fin : Bool) : Type 0 where
  pub state : rule1 (count_of c (half_of id)) (stream_of id) ≡ false
  pub limit : rule2 (count_of c (half_of id)) (stream_of id) ≡ false
  pub size : rule3 (final_of e.size) e.end end fin ≡ false
  pub within : end ≤ e.credit
  pub room : c.total + (end - e.end) ≤ c.limits.credit

pub taken : (c : Conn) (e : Entry) (id end : ℕ) (fin : Bool) → ends_of c e id end fin ≡ Accepted → Taken c e id end fin
unfolding ends_of rule4 rule5
taken c e id end fin h =
    let a = passed _ StreamState _ refl h in
    let b = passed _ StreamLimit _ refl a.1 in
    let d = passed _ FinalSize _ refl b.1 in
    let f = passed _ FlowControl _ refl d.1 in
    let g = passed _ FlowControl Accepted refl f.1 in
    record { state = a.0; limit = b.0; size = d.0; within = ltb-false _ _ f.0; room = ltb-false _ _ g.0 }

-- the same of an outcome that passes
pub taken_as : (c : Conn) (e : Entry) (id end : ℕ) (fin : Bool) → outcome_of (ends_of c e id end fin) ≡ Ok tt → Taken c e id end fin
taken_as c e id end fin h = taken c e id end fin (passes (ends_of c e id end fin) h)
