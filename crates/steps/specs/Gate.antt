-- The gate of a call: 120, then 101.
use Rattle.std.specs.Prelude.{Bool, not}
use Rattle.answers.specs.Choice.{◌⇒◌∣◌}
use Rattle.answers.specs.declared.Answer.{Answer}
use Rattle.answers.specs.declared.Answer.TheVariants.{Accepted, Closed, DoesNotFit}
use Rattle.streams.specs.declared.Mark.{Mark}
use Rattle.streams.specs.Conn.{is_open}

-- fits says whether the connection and its table fit
unfoldable pub gate_of : Bool → Mark → Answer
gate_of fits mark =
    not fits ⇒ DoesNotFit
    ∣ not (is_open mark) ⇒ Closed
    ∣ Accepted
