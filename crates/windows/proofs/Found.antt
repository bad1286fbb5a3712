-- The next run that a record tells is the one that is meant, and it is told of a record that fits alone: the call looks at the record first.
-- Assumes nothing.
use Prim.Native.Nat.{ℕ}
use mathlib.Core.Path.{◌≡◌, subst}
use mathlib.Core.Bool.{true, false, not}
use borrow.Author.Tests.{not-false}
use Rattle.answers.specs.declared.Answer.TheVariants.{DoesNotFit}
use Rattle.answers.proofs.Choice.{holds}
use Rattle.answers.proofs.Distinct.{impossible}
use Rattle.ring.specs.declared.Run.{Run}
use Rattle.ring.specs.Runs.{next_run, RunOf}
use Rattle.ring.proofs.Meaning.{run_is}
use Rattle.records.specs.declared.Record.{Record}
use Rattle.records.specs.Marks.{recorded, sound_of}
use Rattle.records.specs.Found.{found_of}
use Rattle.std.specs.Prelude.{Option, Result, Ok, Err}
use Rattle.answers.specs.declared.Answer.{Answer}

module _ (R : Record) (below : ℕ) where
  -- a run that is told: the record fits, and of the numbers that it holds this is the next run
  pub meant : {r : Option Run} → found_of R below ≡ Ok r → (sound_of R ≡ true) × RunOf (recorded R) below r
  unfolding found_of
  meant {r} = holds (λ (x : Result (Option Run) Answer). x ≡ Ok r → (sound_of R ≡ true) × RunOf (recorded R) below r) (not (sound_of R)) _ _
      (λ e f. impossible cc)
      (λ e f. let same : next_run (recorded R) below ≡ r = cc in (not-false (sound_of R) e, subst (RunOf (recorded R) below) same (run_is (recorded R) below)))

  -- and 120 of any other record
  pub unfit : sound_of R ≡ false → found_of R below ≡ Err DoesNotFit
  unfolding found_of
  unfit e = rw e
