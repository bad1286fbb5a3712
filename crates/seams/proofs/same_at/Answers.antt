-- `seams::same_at` meets its contract: bytes are the same where they are in the part up to the seam and in the one after it.
use Rattle.std.proofs.Common.{arith}
use mathlib.Core.Bool.{true≢false}
use mathlib.Core.Path.{sym, ◌∙◌}
use Rattle.seams.proofs.Fitting.{fit_told}
use Rattle.seams.proofs.Bytes.{same_parts, first_part, second_part}
use Rattle.seams.proofs.Compared.{same_unfit, same_is}
use Rattle.seams.proofs.same_at.Goals as goal

pub returns-then-not-fits : goal.returns-then-not-fits
returns-then-not-fits c = same_unfit _ _ _ _ _ (sym c.fits.ensures ∙ c.if-not-fits.true)

pub same-requires : goal.same-requires
same-requires c =
    let f = fit_told _ _ _ _ (sym c.fits.ensures ∙ c.if-not-fits.false) in
    let m = c.before_seam-first.ensures in
    (omega (arith, f.long, m), omega (arith, f.room, m))

pub returns-then-not-same : goal.returns-then-not-same
returns-then-not-same c =
    let m = c.before_seam-first.ensures in
    let f = fit_told _ _ _ _ (sym c.fits.ensures ∙ c.if-not-fits.false) in
    let a = c.args in
    same_is _ _ _ _ _ f _
    (record {
      holds = λ e. absurd (true≢false (sym e));
      fails = λ e g. c.same.ensures.fails c.if-not-same.true (first_part a.ring.now a.s.now a.at a.j a.n _ (omega (arith, m)) (omega (arith, m)) (λ h. omega (arith, m)) f.few g);
    })

pub overflow_add-j : goal.overflow_add-j
overflow_add-j c =
    let f = fit_told _ _ _ _ (sym c.fits.ensures ∙ c.if-not-fits.false) in
    omega (arith, f.room, c.before_seam-first.ensures)

pub same-requires-2 : goal.same-requires-2
same-requires-2 c =
    let f = fit_told _ _ _ _ (sym c.fits.ensures ∙ c.if-not-fits.false) in
    let m = c.before_seam-first.ensures in
    (omega (arith, f.long, f.few, m), omega (arith, f.room, m))

pub returns : goal.returns
returns c =
    let m = c.before_seam-first.ensures in
    let f = fit_told _ _ _ _ (sym c.fits.ensures ∙ c.if-not-fits.false) in
    let a = c.args in
    same_is _ _ _ _ _ f _
    (record {
      holds = λ e.
          same_parts a.ring.now a.s.now a.at a.j a.n _ (omega (arith, m)) (omega (arith, m)) (λ h. omega (arith, m)) f.few (c.same.ensures.holds c.if-not-same.false)
          (c.same-2.ensures.holds e);
      fails = λ e g. c.same-2.ensures.fails e (second_part a.ring.now a.s.now a.at a.j a.n _ (omega (arith, m)) (omega (arith, m)) (λ h. omega (arith, m)) f.few g);
    })
