-- A contract that asks nothing and is an equation is firm: two outcomes that meet it are both its right side.
-- Each lemma reads off the contract what the right side is. A use says beside the lemma's name how all that is left is made up of what the contract equates;
-- that it is so made up holds by computation, the `refl` of a use.
-- Assumes nothing.
use mathlib.Core.Path.{◌≡◌, refl, sym, ◌∙◌, ap}
use Prim.Native.Nat.{ℕ}
use mathlib.Core.List.{List}
use seplogic.Ra.Ura.{Ura}
use base.Logic.{emp}
use contract.Lifetimes.{Lfts, Within}
use contract.Monad.{fact}
use denote.RattleType.{RattleType}
use denote.Triple.Clauses.{Ended, Lasts, AtExit, at_exit}
use denote.Triple.Entry.{Args, Res}
use borrow.Fn.Kinds.{ParamKind, ResultKind, Dens, res_t, ended_of}
use borrow.Kind.ShrSlice.{r_shr_s}
use Rattle.answers.specs.Firm.{Firm, FirmPart, FirmClauses}

module _ (T : Ended) where
  -- nothing is left behind a reference, so that any two ways to leave it are one
  abbrev pub NothingLeft : Type 0
  NothingLeft = ◌≡◌ {A = (κs : Lfts T.signature.lifetimes) (a : Args T.signature κs) → Lasts T κs a → Lasts T κs a → Lasts T κs a} (λ κs a ws vs. ws) (λ κs a ws vs. vs)

  module _ {L : Lfts T.signature.lifetimes → Type 0} (left : (κs : Lfts T.signature.lifetimes) → AtExit T κs → L κs) where
    -- all that is left, from the part of it that a contract equates
    abbrev pub Made : Type 0
    Made = (κs : Lfts T.signature.lifetimes) (a : Args T.signature κs) → L κs → Lasts T κs a

    abbrev pub MadeUp : Made → Type 0
    MadeUp all = ◌≡◌ {A = (κs : Lfts T.signature.lifetimes) (a : Args T.signature κs) → Lasts T κs a → Lasts T κs a} (λ κs a ws. all κs a (left κs (at_exit T κs a ws))) (λ κs a ws. ws)

module _ {n : ℕ} {ps : List (ParamKind n)} {r : ResultKind n} where
  -- the contract says what the answer is
  pub equation : {value : (κs : Lfts n) → Dens κs ps → (res_t r κs).Denot} → NothingLeft (ended_of n ps r) → Firm n ps r (λ κs a. Unit) (λ κs a x s. x ≡ value κs a)
  equation e = record { asks_nothing = λ κs a. tt; one_outcome = λ κs a x y ws vs p q i. ((p ∙ sym q) i, e i κs a ws vs) }

  -- the contract is one equation of the answer and what is left
  pub outcome_equation : {L : Lfts n → Type 0} {left : (κs : Lfts n) → AtExit (ended_of n ps r) κs → L κs} {value : (κs : Lfts n) → Dens κs ps → (res_t r κs).Denot × L κs}
      (all : Made (ended_of n ps r) left) → MadeUp (ended_of n ps r) left all
      → Firm n ps r (λ κs a. Unit) (λ κs a x s. (x, left κs s) ≡ value κs a)
  outcome_equation all e = record {
    asks_nothing = λ κs a. tt;
    one_outcome = λ κs a x y ws vs p q i. let o = p ∙ sym q in ((o i).0, ((λ j. sym e j κs a ws) ∙ ap (λ o. all κs a o.1) o ∙ (λ j. e j κs a vs)) i);
  }

-- the contract says what the elements of the part are that is handed back
module _ {n : ℕ} {ps : List (ParamKind n)} {R : RattleType} {j : ℕ} {within : Within n j} where
  pub part_equation : {value : (κs : Lfts n) → Dens κs ps → List R.Denot} → NothingLeft (ended_of n ps (r_shr_s R j within)) → FirmPart n ps R j within (λ κs a. Unit) (λ κs a x s. x.now ≡ value κs a)
  part_equation e = record { asks_nothing = λ κs a. tt; one_outcome = λ κs a x y ws vs p q i. ((p ∙ sym q) i, e i κs a ws vs) }

module _ {M : Type 1} {𝓤 : Ura M} {T : Ended} {ghost : (κs : Lfts T.signature.lifetimes) → Args T.signature κs → Type 0} where
  -- the same of functions that the toolchain reads as clauses: what the answer is ..
  pub clauses_equation : {value : (κs : Lfts T.signature.lifetimes) → Args T.signature κs → Res T.signature κs} → NothingLeft T
      → FirmClauses 𝓤 T (λ κs a. record { ghost = ghost κs a; requires = λ g. emp 𝓤; ensures = λ g x s. fact 𝓤 (x ≡ value κs a) })
  clauses_equation {value} e = record {
    asks_nothing = λ κs a g. refl;
    told = λ κs a x s. x ≡ value κs a;
    a_fact = λ κs a g x s. refl;
    one_outcome = λ κs a x y ws vs p q i. ((p ∙ sym q) i, e i κs a ws vs);
  }

  -- .. and what is left where a reference points
  pub clauses_equations : {L : Lfts T.signature.lifetimes → Type 0} {left : (κs : Lfts T.signature.lifetimes) → AtExit T κs → L κs}
      {value : (κs : Lfts T.signature.lifetimes) → Args T.signature κs → Res T.signature κs} {after : (κs : Lfts T.signature.lifetimes) → Args T.signature κs → L κs}
      (all : Made T left) → MadeUp T left all
      → FirmClauses 𝓤 T (λ κs a. record { ghost = ghost κs a; requires = λ g. emp 𝓤; ensures = λ g x s. fact 𝓤 ((x ≡ value κs a) × (left κs s ≡ after κs a)) })
  clauses_equations {left = left} {value = value} {after = after} all e = record {
    asks_nothing = λ κs a g. refl;
    told = λ κs a x s. (x ≡ value κs a) × (left κs s ≡ after κs a);
    a_fact = λ κs a g x s. refl;
    one_outcome = λ κs a x y ws vs p q i. ((p.0 ∙ sym q.0) i, ((λ j. sym e j κs a ws) ∙ ap (all κs a) (p.1 ∙ sym q.1) ∙ (λ j. e j κs a vs)) i);
  }
