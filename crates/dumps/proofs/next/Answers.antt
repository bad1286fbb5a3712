-- `dumps::next` meets its contract: its tests are the definition's.
use mathlib.Core.Path.{sym, ◌∙◌}
use mathlib.Core.Logic.{inl, inr, ⊎_elim}
use native.Mathlib.Omega.{arith}
use Rattle.dumps.proofs.Digits.{half_bound}
use Rattle.dumps.proofs.Characters.{a_gap, no_gap, ends, cut, begins, between, nothing, begun_bound}
use Rattle.dumps.proofs.next.Goals as goal

pub overflow_mul-result : goal.overflow_mul-result
overflow_mul-result c = omega (arith, begun_bound c.args.half (c.requires ∙ c.in-Some-Some.is-0), half_bound c.args.c (sym c.half.ensures ∙ c.in-Some-Some.is-1))

pub overflow_add-result : goal.overflow_add-result
overflow_add-result c = omega (arith, begun_bound c.args.half (c.requires ∙ c.in-Some-Some.is-0), half_bound c.args.c (sym c.half.ensures ∙ c.in-Some-Some.is-1))

pub returns-in-Some-Some : goal.returns-in-Some-Some
returns-in-Some-Some c = sym (ends c.args.half c.args.c (c.requires ∙ c.in-Some-Some.is-0) (sym c.half.ensures ∙ c.in-Some-Some.is-1))

pub returns-in-Some-None : goal.returns-in-Some-None
returns-in-Some-None c = sym (cut c.args.half c.args.c (c.requires ∙ c.in-Some-None.is-0) (sym c.half.ensures ∙ c.in-Some-None.is-1))

pub returns-in-None-Some : goal.returns-in-None-Some
returns-in-None-Some c = sym (begins c.args.half c.args.c (c.requires ∙ c.in-None-Some.is-0) (sym c.half.ensures ∙ c.in-None-Some.is-1))

pub returns-in-None-None : goal.returns-in-None-None
returns-in-None-None c = sym (between c.args.half c.args.c (c.requires ∙ c.in-None-None.is-0) (sym c.half.ensures ∙ c.in-None-None.is-1) (a_gap c.args.c (⊎_elim (λ e. inr e) (λ e. inl e.1) c.if-c-eq10.either)))

pub returns-in-None-None-2 : goal.returns-in-None-None-2
returns-in-None-None-2 c = sym (nothing c.args.half c.args.c (c.requires ∙ c.in-None-None-2.is-0) (sym c.half.ensures ∙ c.in-None-None-2.is-1) (no_gap c.args.c (⊎_elim (λ e. c.if-c-eq10.false.1 e) (λ e. c.if-c-eq10.false.0 e))))
