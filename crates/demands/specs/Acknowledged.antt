-- The acknowledgement written from a record, read again: by the reader of frames and the walk down its ranges it is the ACK of exactly the record's first 32 runs.
use Rattle.std.specs.Prelude.{ℕ, zero, suc, ◌+◌, ◌≤◌, ◌≡◌, true, List, [], ◌∷◌, length, Option, Some, None, Ok}
use Rattle.kinds.specs.declared.Role.{Role}
use Rattle.wire.specs.Writing.{writes}
use Rattle.ranges.specs.Walk.{first_of, step_of}
use Rattle.ranges.specs.declared.Step.{Step}
use Rattle.admission.specs.Admission.{admitted}
use Rattle.frames.specs.Reading.{frame_at}
use Rattle.kinds.specs.declared.Kind.{Kind}
use Rattle.frames.specs.declared.Frame.TheVariants.{Ack}
use Rattle.records.specs.declared.Record.{Record}
use Rattle.ring.specs.declared.Run.{Run}
use Rattle.records.specs.Marks.{recorded}
use Rattle.ring.specs.Runs.{run_of, runs_down}
use Rattle.acks.specs.Ack.{ack_draft}
use Rattle.frames.specs.Fields.{read_as}

-- the runs that a walk down the ranges finds, n at most
unfoldable pub found : List ℕ → ℕ → Option Step → List Run
found s zero x = []
found s (suc n) (Some r) = run_of r.high r.low ∷ found s n (step_of s r.rest)
found s (suc n) None = []

-- out holds an ACK frame from a place on and up to n: at either end, in whatever kind of packet that admits ACK it stands, the reader finds it, with this delay, and its ranges, walked down to their end, are just these runs
pub record Acknowledges (out : List ℕ) (at n delay : ℕ) (runs : List Run) : Type 0 where
  pub largest : ℕ
  pub first : ℕ
  pub count : ℕ
  pub place : ℕ
  pub reads : (role : Role) (kind : Kind) → admitted role kind 2 ≡ true → frame_at role out at kind ≡ read_as (Ack largest delay count first place) 2 n
  pub counted : count + 1 ≡ length runs
  pub walked : (k : ℕ) → length runs ≤ k → found out k (first_of largest first count place) ≡ runs

-- of every record, whenever the acknowledgement is written
abbrev pub ReadsBack : Type 0
ReadsBack = (R : Record) (delay : ℕ) (out : List ℕ) (at n : ℕ) (after : List ℕ) → (Ok n, after) ≡ writes (ack_draft R delay) out at
    → Acknowledges after at n delay (runs_down 32 (recorded R) R.top)
