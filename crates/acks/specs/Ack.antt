-- The acknowledgement of a space, docs/RULES.md, "Acknowledgement"; RFC 9000, 19.3: the recorded numbers as an ACK frame of at most 32 runs.
use Rattle.std.specs.Prelude.{ℕ, ◌-◌, not, List, [], ◌∷◌, length, eqb}
use Rattle.answers.specs.Choice.{◌⇒◌∣◌}
use Rattle.answers.specs.declared.Answer.TheVariants.{NothingToAcknowledge, DoesNotFit}
use Rattle.wire.specs.Writing.{Draft, Never}
use Rattle.row.specs.Row.{row_draft}
use Rattle.records.specs.declared.Record.{Record}
use Rattle.ring.specs.declared.Run.{Run}
use Rattle.records.specs.Marks.{recorded, sound_of}
use Rattle.ring.specs.Runs.{runs_down}

-- 19.3.1: for each further run its Gap, the missing numbers less 1, and its ACK Range Length, the run's numbers less 1; low is the lowest number of the run above
unfoldable pub ranges_of : ℕ → List Run → List ℕ
ranges_of low [] = []
ranges_of low (r ∷ runs) = (low - r.high - 2) ∷ (r.high - r.low) ∷ ranges_of r.low runs

-- 19.3: type 0x02, Largest Acknowledged, ACK Delay, ACK Range Count, First ACK Range, ACK Ranges; no frame if there is no run
unfoldable pub frame_of : ℕ → List Run → List ℕ
frame_of delay [] = []
frame_of delay (r ∷ runs) = 2 ∷ r.high ∷ delay ∷ length runs ∷ (r.high - r.low) ∷ ranges_of r.low runs

-- at most 32 runs, from the highest number down, each as long as it can be
unfoldable pub ack_of : Record → ℕ → List ℕ
ack_of R delay = frame_of delay (runs_down 32 (recorded R) R.top)

-- the acknowledgement: 120, 112, then 109 as of any row of numbers
unfoldable pub ack_draft : Record → ℕ → Draft
ack_draft R delay =
    not (sound_of R) ⇒ Never DoesNotFit
    ∣ eqb R.top 0 ⇒ Never NothingToAcknowledge
    ∣ row_draft (ack_of R delay)
