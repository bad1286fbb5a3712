-- How firm a contract is (docs/RULES.md, "How firm each statement is"): it asks nothing of the caller, and any two outcomes that meet it are one.
use Rattle.std.specs.Prelude.{◌≡◌, ℕ, List}
use seplogic.Ra.Ura.{Ura}
use base.Logic.{emp}
use contract.Lifetimes.{Lfts, Within}
use contract.Monad.{fact}
use Rattle.std.specs.Borrow.{RattleType}
use denote.Triple.Clauses.{Ended, Clauses, Lasts, AtExit, at_exit}
use denote.Triple.Entry.{Args, Res}
use borrow.Fn.Kinds.{ParamKind, ResultKind, In, Out, Dens, ended_of}
use borrow.Kind.ShrSlice.{r_shr_s}

-- what an `ensures` says of the arguments, the result and the parameters at exit
abbrev pub Told : Ended → Type 1
Told T = (κs : Lfts T.signature.lifetimes) → Args T.signature κs → Res T.signature κs → AtExit T κs → Type 0

-- "one possible answer, one state and one content of lent tables and outputs": an outcome is what the caller sees of the result, and the last value behind
-- each reference that was lent to be written through (`Lasts`, read off the signature: no contract chooses what belongs to it); two that meet the `ensures` are one
abbrev pub OneOutcome : (T : Ended) (Answered : Lfts T.signature.lifetimes → Type 0) → ((κs : Lfts T.signature.lifetimes) → Res T.signature κs → Answered κs) → Told T → Type 0
OneOutcome T Answered answered meets =
    (κs : Lfts T.signature.lifetimes) (a : Args T.signature κs) (x y : Res T.signature κs) (ws vs : Lasts T κs a)
    → meets κs a x (at_exit T κs a ws) → meets κs a y (at_exit T κs a vs)
    → ◌≡◌ {A = Answered κs × Lasts T κs a} (answered κs x, ws) (answered κs y, vs)

-- a function of n lifetimes with the parameters ps and the result r; `asked` and `meets` are its `requires` and `ensures` as the toolchain reads them
pub record Firm (n : ℕ) (ps : List (ParamKind n)) (r : ResultKind n) (asked : In n ps) (meets : Out n ps r) : Type 0 where
  pub asks_nothing : (κs : Lfts n) (a : Dens κs ps) → asked κs a
  pub one_outcome : OneOutcome (ended_of n ps r) (λ κs. Res (ended_of n ps r).signature κs) (λ κs x. x) meets

-- the same of a function that hands back a part of a slice of R's that it was lent: what the caller sees of that is its elements
pub record FirmPart (n : ℕ) (ps : List (ParamKind n)) (R : RattleType) (j : ℕ) (within : Within n j) (asked : In n ps) (meets : Out n ps (r_shr_s R j within)) : Type 0 where
  pub asks_nothing : (κs : Lfts n) (a : Dens κs ps) → asked κs a
  pub one_outcome : OneOutcome (ended_of n ps (r_shr_s R j within)) (λ κs. List R.Denot) (λ κs x. x.now) meets

-- the same of a function that the toolchain reads as clauses of the program logic: c are its clauses
pub record FirmClauses {M : Type 1} (𝓤 : Ura M) (T : Ended) (c : Clauses 𝓤 T) : Type 2 where
  pub asks_nothing : (κs : Lfts T.signature.lifetimes) (a : Args T.signature κs) (g : (c κs a).ghost) → (c κs a).requires g ≡ emp 𝓤
  -- what `ensures` says is a fact about the result and what is left ..
  pub told : Told T
  pub a_fact : (κs : Lfts T.signature.lifetimes) (a : Args T.signature κs) (g : (c κs a).ghost) (x : Res T.signature κs) (s : AtExit T κs) → (c κs a).ensures g x s ≡ fact 𝓤 (told κs a x s)
  -- .. which holds of one outcome alone
  pub one_outcome : OneOutcome T (λ κs. Res T.signature κs) (λ κs x. x) told
