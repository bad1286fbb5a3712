-- `dumps::begun` meets its contract: its test is the definition's.
use borrow.Author.Tests.{lt-ltb, le-ltb}
use Rattle.dumps.specs.Dump.{begun_of}
use Rattle.dumps.proofs.begun.Goals as goal

pub returns-in-Some : goal.returns-in-Some
unfolding begun_of
returns-in-Some c = rw (c.in-Some.is, lt-ltb c.in-Some.digit 16 c.if-digit-lt16.true)

pub returns-in_default : goal.returns-in_default
unfolding begun_of
returns-in_default c = rw (c.in-Some.is, le-ltb c.in-Some.digit 16 c.if-digit-lt16.false)

pub returns-in_default-2 : goal.returns-in_default-2
unfolding begun_of
returns-in_default-2 c = rw c.in_default.is
