-- The verdict on every frame of a packet: a packet that passes its header is its frames one by one, so each of them is judged as the call for one frame judges it, and demand 3's verdict holds of it.
use Rattle.std.specs.Prelude.{ℕ, ◌≡◌, Bool, true, List, [], ◌∷◌, ◌++◌}
use Rattle.kinds.specs.declared.Role.{Role}
use Rattle.answers.specs.Answers.{accepts}
use Rattle.answers.specs.declared.Answer.{Answer}
use Rattle.answers.specs.declared.Answer.TheVariants.{Accepted}
use Rattle.kinds.specs.declared.Kind.{Kind}
use Rattle.entries.specs.declared.Entry.{Entry}
use Rattle.streams.specs.declared.Limits.{Limits}
use Rattle.halves.specs.Stream.{half_of}
use Rattle.spaces.specs.declared.Records.{Records}
use Rattle.receive.specs.Taking.{begun_of}
use Rattle.accounts.specs.History.{State, own, ruling}
use Rattle.accounts.specs.Advertised.{count_by, stream_credit_by}
use Rattle.demands.specs.Hosts.{Act, answered, kept, WasHosted, host_after}
use Rattle.demands.specs.Hosts.Act.{TakeFrame, TakePacket}
use Rattle.demands.specs.Heard.{Run, frames_in, heard_by}
use Rattle.demands.specs.Demand3.{Names, Enough}

-- each of a run's accepted frames was answered 0 on what those before it left; the one that was refused gives the run its answer; and if none was, that is 0
pub record EachJudged (h : State) (r : Run) : Type 0 where
  pub each_accepted : (before later : List Act) (x : Act) → r.accepted ≡ before ++ (x ∷ later) → answered (kept h before) x ≡ Accepted
  pub one_refused : (x : Act) (later : List Act) → r.refused ≡ x ∷ later → answered (kept h r.accepted) x ≡ r.answer
  pub none_refused : r.refused ≡ [] → r.answer ≡ Accepted

-- rules 1 to 4 by the frame, its stream's own accepted frames, its credit and the stream count for its type, after a list of calls
abbrev pub ruling_after : Role → Limits → List Entry → List Act → ℕ → ℕ → Bool → Answer
ruling_after role o t xs id end fin = ruling (count_by o (heard_by role o t xs) (half_of id)) (stream_credit_by o (heard_by role o t xs) id) (own (heard_by role o t xs) id) id end fin

-- of a packet that passes its header, after whatever calls: where there is enough credit for all when a STREAM or RESET_STREAM frame of it comes, that frame is accepted exactly by this ruling, and a refused one gives the packet its answer
pub record FrameVerdicts (role : Role) (o : Limits) (t : List Entry) (xs : List Act) (rs : Records) (first : ℕ) (s : List ℕ) : Type 0 where
  pub accepted_own : (before later : List Act) (at : ℕ) (kind : Kind) (id end : ℕ) (fin : Bool) → (frames_in (host_after role o t xs) rs first s).accepted ≡ before ++ (TakeFrame s at kind ∷ later)
      → Enough role o t (xs ++ before) → Names role s at kind id end fin → ruling_after role o t (xs ++ before) id end fin ≡ Accepted
  pub refused_own : (at : ℕ) (kind : Kind) (id end : ℕ) (fin : Bool) → (frames_in (host_after role o t xs) rs first s).refused ≡ TakeFrame s at kind ∷ []
      → Enough role o t (xs ++ (frames_in (host_after role o t xs) rs first s).accepted) → Names role s at kind id end fin
      → answered (host_after role o t xs) (TakePacket rs first s) ≡ ruling_after role o t (xs ++ (frames_in (host_after role o t xs) rs first s).accepted) id end fin

abbrev pub PacketVerdicts : Type 0
PacketVerdicts = (role : Role) (o : Limits) (t : List Entry) (xs : List Act) (rs : Records) (first : ℕ) (s : List ℕ) → WasHosted role o t
    → accepts (begun_of (host_after role o t xs).conn rs (host_after role o t xs).table first s).answer ≡ true → FrameVerdicts role o t xs rs first s
