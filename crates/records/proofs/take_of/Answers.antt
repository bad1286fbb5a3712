-- `records::take_of` meets its contract: a refusal leaves the record, and what `mark` leaves can be and holds the same numbers as the definition's record, so it is that one.
use mathlib.Core.Path.{◌≡◌, sym, ap, ◌∙◌}
use mathlib.Core.Bool.{true≢false}
use Rattle.std.proofs.lemmas.Result.{err_from_is_err_and}
use Rattle.std.specs.Prelude.{Err}
use Rattle.answers.specs.Answers.{accepts}
use Rattle.answers.proofs.Outcome.{passes, refuses_with}
use Rattle.records.specs.Marks.{Words}
use Rattle.records.specs.Ring.{with_mark, taken_of}
use Rattle.records.proofs.Same.{marked_one}
use Rattle.records.proofs.Window.{with_words, with_marked}
use Rattle.records.proofs.Taking.{within, leaves}
use Rattle.records.proofs.Taking as taking
use Rattle.records.proofs.take_of.Goals as goal

pub returns-in_err-answer_to : goal.returns-in_err-answer_to
returns-in_err-answer_to c =
    let told = c.answer_to.ensures in
    let was : c.answer_to.result ≡ Err c.in_err-answer_to.field-0.0 = c.in_err-answer_to.was in
    let r = refuses_with (taken_of c.args.seen.now c.args.n).answer c.in_err-answer_to.field-0.0 (sym told ∙ was) in
    let kept = leaves c.args.seen.now c.args.n (λ e. true≢false (ap accepts (sym e) ∙ r.1)) in
    let p = err_from_is_err_and c.from_residual.result c.from_residual.ensures.1 in
    λ i. ((p.1 ∙ ap Err p.2 ∙ sym was ∙ told) i, sym kept i)

pub mark-requires : goal.mark-requires
mark-requires c =
    let a = taking.accepts _ _ (passes _ (sym c.answer_to.ensures ∙ c.in_ok-answer_to.was)) in
    (a.low, within _ _ a.fresh, c.whole.ensures)

pub returns : goal.returns
returns c =
    let R = c.args.seen.now in
    let S = c.mark.new.seen in
    let told = sym c.answer_to.ensures ∙ c.in_ok-answer_to.was in
    let by = taking.accepts R c.args.n (passes _ told) in
    let whole = c.mark.ensures.whole in
    let words : Words S = record { long = whole.long; small = whole.small } in
    let same : S ≡ with_mark R c.args.n = marked_one _ _ _ _ by.could_be words (with_words _ _ by.low) c.mark.ensures.marked (with_marked _ _ by.low) in
    λ i. (sym told i, (same ∙ sym by.after) i)
