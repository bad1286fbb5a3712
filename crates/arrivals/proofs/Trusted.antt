-- The number sent is within half of 256^n of what is expected: behind it, since twice the distance from the acknowledged number fits into 256^n; ahead of it, since that is asked. There the nearest number is the right one.
-- Assumes nothing.
use Prim.Native.Nat.{ℕ, zero, suc, ◌+◌, ◌-◌, ◌/◌, ◌≤◌}
use mathlib.Core.Path.{◌≡◌, sym}
use native.Mathlib.Nat.{add-mod_right}
use native.Mathlib.Omega.{arith}
use borrow.Author.Tests.{lt-ltb, le-ltb}
use lib.IntN.{ℤ, pos, negsuc}
use Rattle.answers.proofs.Choice.{below_or_not}
use Rattle.answers.proofs.Distinct.{impossible}
use Rattle.numbers.specs.declared.Size.{Size}
use Rattle.numbers.specs.Numbers.{window_of, length_of}
use Rattle.numbers.specs.Sound.NoLength.{BelowNone, NotBelow}
use Rattle.numbers.proofs.Laws.{window_bounds, from_acked, from_none, enough}
use Rattle.numbers.proofs.Meaning.{even, exact}
use Rattle.numbers.proofs.Refusals.{refuses}
use Rattle.arrivals.specs.Trusted.{one_above, Trusted, Misled}
use Rattle.arrivals.specs.Trusted.Receiver.{Behind, Ahead}
use Rattle.std.specs.Prelude.{Ok}

-- the number sent is at most half of 256^n above the acknowledged one
near : (pn : ℕ) (acked : ℤ) (size : Size) → length_of pn acked ≡ Ok size → pn + 1 ≤ one_above acked + window_of size / 2
near pn (pos a) size e =
    let n = enough pn (pos a) e in
    below_or_not a pn
    (λ l. let f = from_acked pn a (omega arith) in let g = n.distance in let d : pn + 1 - (a + 1) ≡ n.d = cc in omega (arith, n.enough, even size))
    (λ l. let r = refuses pn (pos a) (NotBelow (le-ltb a pn l)) in impossible cc)
near pn (negsuc zero) size e =
    let n = enough pn (negsuc 0) e in
    let f = from_none pn (omega arith) in
    let g = n.distance in
    let d : pn + 1 - 0 ≡ n.d = cc in
    omega (arith, n.enough, even size)
near pn (negsuc (suc k)) size e = let r = refuses pn (negsuc (suc k)) (BelowNone (lt-ltb 0 (suc k) (omega arith))) in impossible cc

pub trusted : Trusted
trusted pn acked size E e (Behind a b) =
    let w = (window_bounds size).0 in
    exact E pn size (enough pn acked e).low (omega (arith, near pn acked size e, even size)) (omega arith)
trusted pn acked size E e (Ahead a b) = let w = (window_bounds size).0 in exact E pn size (enough pn acked e).low (omega arith) (omega arith)

pub misled : Misled
misled pn size h =
    let W = window_of size in
    let w = (window_bounds size).0 in
    rw (sym (add-mod_right pn W)) (exact (pn + W / 2) (pn + W) size h (omega (arith, even size)) (omega arith))
