-- The contract of every function that other crates can call is firm: it asks nothing and is an equation of the answer.
-- Assumes nothing.
use mathlib.Core.Path.{refl}
use Rattle.answers.specs.Firm.{Firm}
use Rattle.answers.proofs.Firm.{equation}
use Rattle.entries.proofs.Entry.known.Kinds as known
use Rattle.entries.proofs.Entry.known.Reads as known_reads
use Rattle.entries.proofs.fits.Kinds as fitting
use Rattle.entries.proofs.fits.Reads as fitting_reads

pub known_firm : Firm 0 known.ps known.r known_reads.Asked known_reads.Post
known_firm = equation refl

pub fits_firm : Firm 0 fitting.ps fitting.r fitting_reads.Asked fitting_reads.Post
fits_firm = equation refl
