-- `hexes::read` meets its contract: each refusal is the first test that holds, and what is decoded are all the pairs.
use mathlib.Core.Path.{sym, ◌∙◌}
use Prim.Native.Nat.{◌/◌}
use native.Mathlib.Omega.{arith}
use borrow.Author.Tests.{lt-ltb, le-ltb}
use lib.ListN.{length}
use Rattle.hexes.specs.Hex.{pairs_of}
use Rattle.hexes.proofs.read.Goals as goal

pub returns-then-not-is_pairs : goal.returns-then-not-is_pairs
unfolding pairs_of
returns-then-not-is_pairs c = simp (sym c.is_pairs.ensures ∙ c.if-not-is_pairs.true)

pub returns-then-out-count : goal.returns-then-out-count
unfolding pairs_of
returns-then-out-count c =
    let a = c.args in
    simp (sym c.is_pairs.ensures ∙ c.if-not-is_pairs.false, lt-ltb (length a.out.now) (length a.s.now / 2) (omega arith))

pub decode-requires : goal.decode-requires
decode-requires c = (sym c.is_pairs.ensures ∙ c.if-not-is_pairs.false, omega arith)

pub returns : goal.returns
unfolding pairs_of
returns c =
    let a = c.args in
    simp (sym c.is_pairs.ensures ∙ c.if-not-is_pairs.false, le-ltb (length a.out.now) (length a.s.now / 2) (omega arith), c.decode.ensures)
