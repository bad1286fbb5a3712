-- The next run of a record downwards, as the call by value tells it: a record that does not fit is 120.
use Rattle.std.specs.Prelude.{ℕ, not, Option, Result, Ok, Err}
use Rattle.answers.specs.Choice.{◌⇒◌∣◌}
use Rattle.answers.specs.declared.Answer.TheVariants.{DoesNotFit}
use Rattle.ring.specs.Runs.{next_run}
use Rattle.records.specs.declared.Record.{Record}
use Rattle.records.specs.Marks.{recorded, sound_of}
use Rattle.answers.specs.declared.Answer.{Answer}
use Rattle.ring.specs.declared.Run.{Run}

unfoldable pub found_of : Record → ℕ → Result (Option Run) Answer
found_of R below =
    not (sound_of R) ⇒ Err DoesNotFit
    ∣ Ok (next_run (recorded R) below)
