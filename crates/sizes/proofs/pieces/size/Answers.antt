-- `sizes::pieces::size` meets its contract: each arm counts the bytes that the definition gives for its tail.
use mathlib.Core.Path.{sym, ◌∙◌}
use native.Mathlib.Omega.{arith}
use borrow.Author.Tests.{leb-true}
use Rattle.wire.proofs.Exit.{size_bounds}
use Rattle.row.proofs.Back.{length_all}
use Rattle.sizes.proofs.Bodies.{within, part_length, counted_length, identity_length, plain}
use Rattle.sizes.proofs.pieces.size.Goals as goal

pub overflow_add-result : goal.overflow_add-result
overflow_add-result c =
    omega (arith, c.size.ensures, size_bounds c.args.p.len, c.requires.len)

pub listed_size-requires : goal.listed_size-requires
listed_size-requires c =
    omega (arith, (within _ _ _ c.requires.inside).0)

pub returns-in-Counted : goal.returns-in-Counted
returns-in-Counted c =
    let a = c.args in
    let w = (within _ _ _ c.requires.inside).0 in
    rw c.in-Counted.is
    (omega (arith, c.size.ensures, counted_length a.s.now a.p.at a.p.len w), omega (arith, c.size.ensures, size_bounds a.p.len, c.requires.len))

pub returns-in-Remainder : goal.returns-in-Remainder
returns-in-Remainder c =
    let a = c.args in
    rw (plain a.s.now a.tail a.p c.in-Remainder.is) (sym (part_length a.s.now a.p.at a.p.len (within _ _ _ c.requires.inside).0), omega (arith, c.requires.len))

pub returns-in-Identity : goal.returns-in-Identity
returns-in-Identity c =
    let a = c.args in
    let e = c.in-Identity.is in
    let w = within _ _ _ c.requires.inside in
    rw e
    (sym (identity_length a.s.now a.p.at a.p.len a.p.token w.0 (leb-true _ _ (rw e at w.1))), omega (arith, c.requires.len))

pub returns-in-Ranges : goal.returns-in-Ranges
returns-in-Ranges c =
    rw c.in-Ranges.is
    (c.listed_size.ensures.0 ∙ sym (length_all _), omega (arith, c.listed_size.ensures.1))
