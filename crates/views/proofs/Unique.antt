-- The contract of every function that other crates can call is firm: it asks nothing and is an equation of the answer.
-- Assumes nothing.
use mathlib.Core.Path.{refl}
use Rattle.answers.specs.Firm.{Firm}
use Rattle.answers.proofs.Firm.{equation}
use Rattle.views.proofs.of_frame.Kinds as of_frame
use Rattle.views.proofs.of_frame.Reads as of_frame_reads
use Rattle.views.proofs.place.Kinds as place
use Rattle.views.proofs.place.Reads as place_reads

pub of_frame_firm : Firm 0 of_frame.ps of_frame.r of_frame_reads.Asked of_frame_reads.Post
of_frame_firm = equation refl

pub place_firm : Firm 0 place.ps place.r place_reads.Asked place_reads.Post
place_firm = equation refl
