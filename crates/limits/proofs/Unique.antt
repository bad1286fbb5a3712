-- The contract of every function that other crates can call is firm: it asks nothing and is an equation of the answer.
-- Assumes nothing.
use mathlib.Core.Path.{refl}
use Rattle.answers.specs.Firm.{Firm}
use Rattle.answers.proofs.Firm.{equation}
use Rattle.limits.proofs.fits.one_more.Kinds as one_more
use Rattle.limits.proofs.fits.one_more.Reads as one_more_reads
use Rattle.limits.proofs.fits.conclude.Kinds as conclude
use Rattle.limits.proofs.fits.conclude.Reads as conclude_reads
use Rattle.limits.proofs.fits.conn_fits.Kinds as conn_fits
use Rattle.limits.proofs.fits.conn_fits.Reads as conn_fits_reads
use Rattle.limits.proofs.fits.part_of.Kinds as part_of
use Rattle.limits.proofs.fits.part_of.Reads as part_of_reads
use Rattle.limits.proofs.rest.opened_in.Kinds as OpenedIn
use Rattle.limits.proofs.rest.opened_in.Reads as opened_in_reads
use Rattle.limits.proofs.rest.untouched.Kinds as untouched
use Rattle.limits.proofs.rest.untouched.Reads as untouched_reads
use Rattle.limits.proofs.rest.with_rest.Kinds as with_rest
use Rattle.limits.proofs.rest.with_rest.Reads as with_rest_reads

pub one_more_firm : Firm 0 one_more.ps one_more.r one_more_reads.Asked one_more_reads.Post
one_more_firm = equation refl

pub conclude_firm : Firm 0 conclude.ps conclude.r conclude_reads.Asked conclude_reads.Post
conclude_firm = equation refl

pub conn_fits_firm : Firm 0 conn_fits.ps conn_fits.r conn_fits_reads.Asked conn_fits_reads.Post
conn_fits_firm = equation refl

pub part_of_firm : Firm 0 part_of.ps part_of.r part_of_reads.Asked part_of_reads.Post
part_of_firm = equation refl

pub opened_in_firm : Firm 0 OpenedIn.ps OpenedIn.r opened_in_reads.Asked opened_in_reads.Post
opened_in_firm = equation refl

pub untouched_firm : Firm 0 untouched.ps untouched.r untouched_reads.Asked untouched_reads.Post
untouched_firm = equation refl

pub with_rest_firm : Firm 0 with_rest.ps with_rest.r with_rest_reads.Asked with_rest_reads.Post
with_rest_firm = equation refl
