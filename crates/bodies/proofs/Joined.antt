-- Two runs of bytes, the second written where the first ends, are one run of both, where there is room for both.
-- Assumes nothing.
use mathlib.Core.Path.{◌≡◌, sym, ◌∙◌}
use mathlib.Core.List.{List, ◌++◌}
use Prim.Native.Nat.{ℕ, ◌+◌, ◌≤◌}
use native.Mathlib.Omega.{arith}
use lib.ListN.{length, length-append}
use lib.Seq.{sets, length-sets}
use Rattle.wire.specs.Writing.{Bytes, writes}
use Rattle.wire.proofs.Standing.{sets_append}
use Rattle.wire.proofs.Writing.{all_written}

pub joined : (a b out : List ℕ) (at : ℕ) {mid : List ℕ} {place : ℕ} → mid ≡ sets out at a → place ≡ at + length a → at + length a + length b ≤ length out
    → writes (Bytes b) mid place ≡ writes (Bytes (a ++ b)) out at
joined a b out at {mid} {place} m p h =
    let k : at + length (a ++ b) ≡ at + length a + length b = rw length-append (omega arith) in
    let l : length mid ≡ length out = rw m (length-sets out at a) in
    all_written mid place b (omega (arith, p, l)) ∙ rw (m, p, ← sets_append out at a b, ← k) (sym (all_written out at (a ++ b) (omega (arith, k))))
