-- A number that is taken raises the top of its record or leaves it, and a refused one leaves the record.
-- Assumes nothing.
use Prim.Native.Nat.{ℕ, ◌≤◌}
use mathlib.Core.Path.{◌≡◌, refl, sym, ◌∙◌}
use mathlib.Core.Bool.{Bool, true, false, true≢false}
use mathlib.Core.List.{List, [], ◌∷◌, ◌++◌}
use native.Mathlib.Omega.{arith}
use Rattle.answers.specs.Answers.{accepts}
use Rattle.answers.proofs.Accepts.{accepts_true, takes}
use Rattle.records.specs.declared.Record.{Record}
use Rattle.records.specs.Ring.{ring_of, with_mark, taken_of}
use Rattle.records.proofs.Sound.{sound_facts}
use Rattle.records.proofs.Taking.{accepts as accepted, leaves}
use Rattle.windows.specs.History.{record_after}
use Rattle.windows.proofs.History.{kept}
use Rattle.arrivals.specs.Acknowledged.{Acknowledged}
use Rattle.arrivals.proofs.Expected.{below_top, one_above, one_such}

never_falls : (R : Record) (n : ℕ) → R.top ≤ (taken_of R n).«record».top
unfolding with_mark ring_of
never_falls R n = go (accepts (taken_of R n).answer) refl
  where
    go : (b : Bool) → accepts (taken_of R n).answer ≡ b → R.top ≤ (taken_of R n).«record».top
    go true e = rw (accepted R n (accepts_true _ e)).after (omega arith)
    go false e = rw (leaves R n (λ f. true≢false (sym (takes _ f) ∙ e))) (omega arith)

-- nor by any further numbers
later : (xs ys : List ℕ) → (record_after xs).top ≤ (record_after (ys ++ xs)).top
unfolding record_after
later xs [] = omega arith
later xs (n ∷ ys) = omega (arith, later xs ys, never_falls (record_after (ys ++ xs)) n)

pub acknowledged : Acknowledged
acknowledged xs ys a E e o =
    let R = record_after (ys ++ xs) in
    omega (arith, below_top (record_after xs) a e, later xs ys, one_such R R.top E (one_above R (sound_facts R (kept (ys ++ xs)).fits)) o)
