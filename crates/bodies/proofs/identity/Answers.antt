-- `bodies::identity` meets its contract: it asks whether the length fits into its byte, then for room, and each run stands where the one before it ends.
use mathlib.Core.Path.{◌≡◌, sym, ◌∙◌}
use mathlib.Core.List.{◌∷◌}
use native.Mathlib.Omega.{arith}
use native.Mathlib.Numerals.{add-one}
use borrow.Author.Tests.{leb-true}
use lib.ListN.{length}
use lib.Seq.{sets}
use Rattle.wire.proofs.Writing.{bytes_written}
use Rattle.bodies.proofs.Drafts.{identity_draft_law}
use Rattle.bodies.proofs.Joined.{joined}
use Rattle.bodies.proofs.identity.Goals as goal

pub returns : goal.returns
returns c =
    let a = c.args in
    let n = length a.id.now in
    let room = leb-true _ (length a.out.now) (sym c.fits.ensures ∙ c.if-not-fits.false) in
    let w = bytes_written a.id.now _ _ c.bytes.ensures c.in_ok-next.was in
    let m : c.bytes.new.out ≡ sets a.out.now a.at (n ∷ a.id.now) = rw (w.holds, c.in-Ok.ensures.1, add-one) in
    rw (identity_draft_law a.id.now a.token.now (omega (arith, c.in-Ok.ensures)))
    (c.bytes-2.ensures ∙ joined (n ∷ a.id.now) a.token.now a.out.now a.at m (omega (arith, w.ends)) (omega (arith, room)))
