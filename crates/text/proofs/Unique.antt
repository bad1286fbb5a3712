-- The contract of every function that other crates can call is firm: it asks nothing and is an equation of the answer, and of the output where there is one.
-- Assumes nothing.
use mathlib.Core.Path.{refl}
use Rattle.answers.specs.Firm.{Firm}
use Rattle.answers.proofs.Firm.{equation, outcome_equation}
use Rattle.text.proofs.put.bytes.Kinds as bytes
use Rattle.text.proofs.put.bytes.Reads as bytes_reads
use Rattle.text.proofs.put.fits.Kinds as fitting
use Rattle.text.proofs.put.fits.Reads as fitting_reads
use Rattle.text.proofs.decimal.write.Kinds as decimal_write
use Rattle.text.proofs.decimal.write.Reads as decimal_write_reads
use Rattle.text.proofs.decimal.read.Kinds as decimal_read
use Rattle.text.proofs.decimal.read.Reads as decimal_read_reads

pub bytes_firm : Firm 2 bytes.ps bytes.r bytes_reads.Asked bytes_reads.Post
bytes_firm = outcome_equation (λ κs a w. (w, (tt, (tt, tt)))) refl

pub decimal_write_firm : Firm 1 decimal_write.ps decimal_write.r decimal_write_reads.Asked decimal_write_reads.Post
decimal_write_firm = outcome_equation (λ κs a w. (w, (tt, (tt, tt)))) refl

pub decimal_read_firm : Firm 1 decimal_read.ps decimal_read.r decimal_read_reads.Asked decimal_read_reads.Post
decimal_read_firm = equation refl

pub fits_firm : Firm 0 fitting.ps fitting.r fitting_reads.Asked fitting_reads.Post
fits_firm = equation refl
