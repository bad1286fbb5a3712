-- A packet is its frames taken one by one, up to the first that is refused: its answer, the place that it tells, the connection with its mark, the table, and the history.
-- So what holds of the call for one frame, the verdict and its independence of other streams among it, holds of every frame of a packet.
use Rattle.std.specs.Prelude.{ℕ, ◌≡◌, true, false, List, [], ◌∷◌, ◌++◌, length}
use Rattle.kinds.specs.declared.Role.{Role}
use Rattle.answers.specs.Choice.{◌⇒◌∣◌}
use Rattle.answers.specs.Answers.{accepts}
use Rattle.kinds.specs.declared.Kind.{Kind}
use Rattle.frames.specs.declared.Frame.{Frame}
use Rattle.frames.specs.Reading.{frame_at}
use Rattle.kinds.specs.Kinds.{space_of}
use Rattle.entries.specs.declared.Entry.{Entry}
use Rattle.streams.specs.declared.Limits.{Limits}
use Rattle.streams.specs.declared.Mark.TheVariants.{Open}
use Rattle.views.specs.View.{view_of}
use Rattle.spaces.specs.declared.Records.{Records}
use Rattle.spaces.specs.Spaces.{recorded_of}
use Rattle.receive.specs.Taking.{begun_of}
use Rattle.accounts.specs.History.{Event, State}
use Rattle.accounts.specs.History.Event.{Got as Heard}
use Rattle.demands.specs.Hosts.{Act, answered, acted, records_after, place_told, kept, WasHosted, host_after}
use Rattle.demands.specs.Hosts.Act.{TakeFrame, TakePacket}
use Rattle.demands.specs.Heard.{frames_in, calls_of, noted, heard_after, onto, heard_by, frames_of}
use Rattle.frames.specs.Fields.{read_as}

pub record OneByOne (h : State) (rs : Records) (first : ℕ) (s : List ℕ) : Type 0 where
  pub answer : answered h (TakePacket rs first s) ≡ (frames_in h rs first s).answer
  pub place : place_told h rs first s ≡ (frames_in h rs first s).place
  pub state : acted h (TakePacket rs first s) ≡ kept h (calls_of (frames_in h rs first s))
  pub history : (l : List Event) → noted h (TakePacket rs first s) l ≡ heard_after h (calls_of (frames_in h rs first s)) l
  -- "the number is not recorded. If all pass, the number is recorded."
  pub records : records_after h rs first s ≡ (accepts (frames_in h rs first s).answer ⇒ recorded_of rs (space_of (begun_of h.conn rs h.table first s).kind) (begun_of h.conn rs h.table first s).number ∣ rs)

-- of every packet that passes its header, whatever the host keeps: its connection has four numbers of what is open, as the type says
abbrev pub IsFrames : Type 0
IsFrames = (h : State) (rs : Records) (first : ℕ) (s : List ℕ) → length h.conn.opened ≡ 4 → accepts (begun_of h.conn rs h.table first s).answer ≡ true → OneByOne h rs first s

-- "Accepted" is what the call answered: a frame enters the history exactly if the call for it answers 0, and it enters as the frame that was read
pub record Enters (h : State) (s : List ℕ) (at : ℕ) (kind : Kind) (l : List Event) : Type 0 where
  pub frame : Frame
  pub ty : ℕ
  pub next : ℕ
  pub reads : frame_at h.conn.role s at kind ≡ read_as frame ty next
  pub enters : noted h (TakeFrame s at kind) l ≡ Heard (view_of h.conn.role kind frame) ∷ l

pub record Entered (h : State) (s : List ℕ) (at : ℕ) (kind : Kind) (l : List Event) : Type 0 where
  pub if_accepted : accepts (answered h (TakeFrame s at kind)) ≡ true → Enters h s at kind l
  pub if_refused : accepts (answered h (TakeFrame s at kind)) ≡ false → noted h (TakeFrame s at kind) l ≡ l

-- "over all accepted frames": a packet that leaves the connection open had every one of its frames accepted, and all of them are in the history; none is waved through
abbrev pub NoneWaved : Type 0
NoneWaved = (role : Role) (o : Limits) (t : List Entry) (xs : List Act) (rs : Records) (first : ℕ) (s : List ℕ) → WasHosted role o t → (host_after role o t (xs ++ TakePacket rs first s ∷ [])).conn.mark ≡ Open
    → heard_by role o t (xs ++ TakePacket rs first s ∷ []) ≡ onto (frames_of (begun_of (host_after role o t xs).conn rs (host_after role o t xs).table first s) s) (heard_by role o t xs)
