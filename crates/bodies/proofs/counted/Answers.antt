-- `bodies::counted` meets its contract: it asks whether the length has a form, then for room, and the bytes stand where their length ends.
use mathlib.Core.Path.{◌≡◌, ◌∙◌}
use mathlib.Core.List.{List, ◌++◌}
use Prim.Native.Nat.{ℕ, ◌+◌}
use native.Mathlib.Omega.{arith}
use lib.ListN.{length, length-append}
use Rattle.wire.specs.Number.{bytes_of, size_of}
use Rattle.wire.proofs.Writing.{lacked, room_for}
use Rattle.wire.proofs.Exit.{length_bytes, unrefused, accepted}
use Rattle.bodies.proofs.Drafts.{counted_draft_law}
use Rattle.bodies.proofs.Joined.{joined}
use Rattle.bodies.proofs.counted.Goals as goal

-- how many bytes they have with their length
long : (body : List ℕ) {k : ℕ} → k ≡ size_of (length body) → length (bytes_of (length body) ++ body) ≡ k + length body
long body e = rw (length-append, length_bytes (length body), e)

pub returns-then-not-fits : goal.returns-then-not-fits
returns-then-not-fits c =
    let a = c.args in
    rw (counted_draft_law a.body.now (omega arith))
    (lacked a.out.now a.at _ _ (long a.body.now c.size.ensures) c.fits.ensures c.if-not-fits.true)

pub returns-in_err-next : goal.returns-in_err-next
returns-in_err-next c =
    let a = c.args in
    let n = length a.body.now in
    let room = room_for a.out.now a.at _ _ (long a.body.now c.size.ensures) c.fits.ensures c.if-not-fits.false in
    absurd (unrefused n a.out.now a.at c.write.ensures (omega arith) (omega (arith, room, length_bytes n, c.size.ensures)) c.in_err-next.was)

pub returns : goal.returns
returns c =
    let a = c.args in
    let n = length a.body.now in
    let room = room_for a.out.now a.at _ _ (long a.body.now c.size.ensures) c.fits.ensures c.if-not-fits.false in
    let w = (accepted n a.out.now a.at c.write.ensures c.in_ok-next.was).1 in
    rw (counted_draft_law a.body.now (omega arith))
    (c.bytes.ensures ∙ joined (bytes_of n) a.body.now a.out.now a.at w.holds w.ends (omega (arith, room, length_bytes n, c.size.ensures)))
