-- The walk over the frames of a payload, docs/RULES.md, "Taking a packet": "The walk stops at the first frame that is refused: frames before it stay applied, it changes nothing itself".
use Rattle.std.specs.Prelude.{ℕ, zero, suc, ◌-◌, List, length, leb}
use Rattle.answers.specs.Choice.{◌⇒◌∣◌}
use Rattle.answers.specs.declared.Answer.{Answer}
use Rattle.answers.specs.declared.Answer.TheVariants.{Accepted}
use Rattle.kinds.specs.declared.Kind.{Kind}
use Rattle.streams.specs.declared.Conn.{Conn}
use Rattle.entries.specs.declared.Entry.{Entry}
use Rattle.steps.specs.declared.Stopped.{Stopped}
use Rattle.single.specs.Single.{stepped_at, step_table}
use Rattle.streams.specs.Conn.{is_open}

abbrev pub stopped : Conn → ℕ → Answer → Stopped
stopped c place answer = record { conn = c; place = place; answer = answer }

-- what a walk leaves: where it stopped and the connection then, and the table
pub record Walked : Type 0 where
  pub stop : Stopped
  pub table : List Entry

-- k frames at most, from a place on: to the end of the bytes, or to the frame that is refused or closes the connection
unfoldable pub walk_from : ℕ → Conn → List Entry → List ℕ → ℕ → Kind → Walked
walk_from zero c t s at kind = record { stop = stopped c at Accepted; table = t }
walk_from (suc k) c t s at kind =
    leb (length s) at ⇒ record { stop = stopped c at Accepted; table = t }
    ∣ is_open (stepped_at c t s at kind).conn.mark ⇒ walk_from k (stepped_at c t s at kind).conn (step_table c t s at kind) s (stepped_at c t s at kind).next kind
    ∣ record { stop = stopped (stepped_at c t s at kind).conn at (stepped_at c t s at kind).answer; table = step_table c t s at kind }

-- there are no more frames than bytes
abbrev pub walk_all : Conn → List Entry → List ℕ → ℕ → Kind → Walked
walk_all c t s from kind = walk_from (length s - from) c t s from kind

abbrev pub stopped_of : Conn → List Entry → List ℕ → ℕ → Kind → Stopped
stopped_of c t s from kind = (walk_all c t s from kind).stop

abbrev pub walk_table : Conn → List Entry → List ℕ → ℕ → Kind → List Entry
walk_table c t s from kind = (walk_all c t s from kind).table
