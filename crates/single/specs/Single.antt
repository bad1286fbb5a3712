-- One frame with the lent table: judged with the entry that it looks at, as a step of a walk and as the call for one frame.
use Rattle.std.specs.Prelude.{ℕ, List, set}
use Rattle.answers.specs.Choice.{◌⇒◌∣◌}
use Rattle.answers.specs.Answers.{accepts}
use Rattle.answers.specs.declared.Answer.{Answer}
use Rattle.kinds.specs.declared.Kind.{Kind}
use Rattle.streams.specs.declared.Conn.{Conn}
use Rattle.entries.specs.declared.Entry.{Entry}
use Rattle.entries.specs.Entry.{entry_at}
use Rattle.limits.specs.Fits.{fits}
use Rattle.steps.specs.declared.Shown.TheVariants.{Nothing}
use Rattle.steps.specs.declared.Stepped.{Stepped}
use Rattle.steps.specs.declared.Decided.{Decided}
use Rattle.steps.specs.declared.TookFrame.{TookFrame}
use Rattle.steps.specs.Gate.{gate_of}
use Rattle.steps.specs.Step.{request_at, decided_of, shown_at}

-- one frame, judged with the entry that it looks at
unfoldable pub decided_at : Conn → List Entry → List ℕ → ℕ → Kind → Decided
decided_at c t s at kind = decided_of c (entry_at t (request_at c.role s at kind).place) (request_at c.role s at kind)

abbrev pub stepped_at : Conn → List Entry → List ℕ → ℕ → Kind → Stepped
stepped_at c t s at kind = (decided_at c t s at kind).stepped

abbrev pub step_table : Conn → List Entry → List ℕ → ℕ → Kind → List Entry
step_table c t s at kind = set t (request_at c.role s at kind).place (decided_at c t s at kind).entry

-- "A call for one frame (120, 101, then as above) also hands the frame as read to the caller"
abbrev pub gate_at : Conn → List Entry → Answer
gate_at c t = gate_of (fits c t) c.mark

unfoldable pub took_frame_of : Conn → List Entry → List ℕ → ℕ → Kind → TookFrame
took_frame_of c t s at kind =
    accepts (gate_at c t) ⇒ record { answer = (stepped_at c t s at kind).answer; shown = shown_at c.role s at kind; conn = (stepped_at c t s at kind).conn }
    ∣ record { answer = gate_at c t; shown = Nothing; conn = c }

unfoldable pub frame_table : Conn → List Entry → List ℕ → ℕ → Kind → List Entry
frame_table c t s at kind =
    accepts (gate_at c t) ⇒ step_table c t s at kind
    ∣ t
