-- "If all pass, the number is recorded": what an accepted packet leaves in the records.
use Rattle.std.specs.Prelude.{ℕ, ◌+◌, max, ◌≡◌, ◌&&◌, ◌||◌, List, leb, eqb}
use Rattle.answers.specs.declared.Answer.TheVariants.{Accepted}
use Rattle.records.specs.Marks.{recorded}
use Rattle.kinds.specs.declared.Space.{Space}
use Rattle.kinds.specs.Kinds.{space_of}
use Rattle.spaces.specs.declared.Records.{Records}
use Rattle.spaces.specs.Spaces.{record_of}
use Rattle.receive.specs.Taking.{begun_of}
use Rattle.accounts.specs.History.{State}
use Rattle.demands.specs.Hosts.{answered, records_after}
use Rattle.demands.specs.Hosts.Act.{TakePacket}

-- the packet's number and space, as the checks before its frames found them
abbrev pub number_in : State → Records → ℕ → List ℕ → ℕ
number_in h rs first s = (begun_of h.conn rs h.table first s).number

abbrev pub space_in : State → Records → ℕ → List ℕ → Space
space_in h rs first s = space_of (begun_of h.conn rs h.table first s).kind

pub record Recorded (h : State) (rs : Records) (first : ℕ) (s : List ℕ) : Type 0 where
  -- the space's record has the number, beside what it had, as far as the window of 8,192 still holds it
  pub own : (m : ℕ)
      → recorded (record_of (records_after h rs first s) (space_in h rs first s)) m
      ≡ (leb (max (record_of rs (space_in h rs first s)).top (number_in h rs first s + 1)) (m + 8192) && (eqb m (number_in h rs first s) || recorded (record_of rs (space_in h rs first s)) m))
  -- and the other spaces have what they had
  pub others : (other : Space) → (other ≡ space_in h rs first s → ⊥) → record_of (records_after h rs first s) other ≡ record_of rs other

abbrev pub NumberRecorded : Type 0
NumberRecorded = (h : State) (rs : Records) (first : ℕ) (s : List ℕ) → answered h (TakePacket rs first s) ≡ Accepted → Recorded h rs first s
