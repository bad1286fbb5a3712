-- What a host's calls brought: the frames and local calls that were accepted, by what the calls answered. A packet brings the frames that the call for one frame accepts, one after the other.
use Rattle.std.specs.Prelude.{ℕ, zero, suc, ◌-◌, not, List, [], ◌∷◌, ◌++◌, length, leb, Result, Ok, Err}
use Rattle.kinds.specs.declared.Role.{Role}
use Rattle.answers.specs.Choice.{◌⇒◌∣◌}
use Rattle.answers.specs.Answers.{accepts}
use Rattle.answers.specs.declared.Answer.{Answer}
use Rattle.answers.specs.declared.Answer.TheVariants.{Accepted}
use Rattle.kinds.specs.declared.Kind.{Kind}
use Rattle.frames.specs.declared.Frame.{Frame}
use Rattle.frames.specs.declared.Reading.{Reading}
use Rattle.frames.specs.Reading.{frame_at}
use Rattle.entries.specs.declared.Entry.{Entry}
use Rattle.streams.specs.declared.Limits.{Limits}
use Rattle.streams.specs.Conn.{is_open}
use Rattle.rules.specs.declared.View.{View}
use Rattle.views.specs.View.{view_of}
use Rattle.calls.specs.Calls.{seated_call}
use Rattle.packets.specs.declared.Begun.{Begun}
use Rattle.spaces.specs.declared.Records.{Records}
use Rattle.steps.specs.declared.Shown.{Shown}
use Rattle.steps.specs.declared.Shown.TheVariants as Shown'
use Rattle.receive.specs.Taking.{begun_of}
use Rattle.single.specs.Single.{took_frame_of}
use Rattle.accounts.specs.History.{Event, State}
use Rattle.accounts.specs.History.Event.{Got as Heard, Did, Gave}
use Rattle.demands.specs.Hosts.{Act, answered, acted, hosted}
use Rattle.demands.specs.Hosts.Act.{TakeFrame, TakePacket, Make, HandOut}
use Rattle.fields.specs.declared.Refusal.{Refusal}

-- ---- frames taken one by one

-- what the call for one frame hands over
abbrev pub shown_by : State → List ℕ → ℕ → Kind → Shown
shown_by h s at kind = (took_frame_of h.conn h.table s at kind).shown

-- what a frame that was shown whole asked of the streams, and the place after it
abbrev pub asked : Role → Kind → Shown → List View
asked role kind Shown'.Nothing = []
asked role kind (Shown'.Typed ty) = []
asked role kind (Shown'.Whole frame ty next) = view_of role kind frame ∷ []

abbrev pub next_shown : ℕ → Shown → ℕ
next_shown at Shown'.Nothing = at
next_shown at (Shown'.Typed ty) = at
next_shown at (Shown'.Whole frame ty next) = next

-- the calls that some frames come to: those that were accepted and what these asked, the one that was refused, if one was, with its answer, and the place where they ended
pub record Run : Type 0 where
  pub accepted : List Act
  pub heard : List View
  pub refused : List Act
  pub answer : Answer
  pub place : ℕ

abbrev pub ended : ℕ → Run
ended at = record { accepted = []; heard = []; refused = []; answer = Accepted; place = at }

abbrev pub after : Act → List View → Run → Run
after x views r = record { accepted = x ∷ r.accepted; heard = views ++ r.heard; refused = r.refused; answer = r.answer; place = r.place }

-- "The walk stops at the first frame that is refused": k frames at most from a place on, each taken by the call for one frame where the one before it ended, up to the end of the bytes, to the first that is refused, or to the one that closes the connection
unfoldable pub one_by_one : ℕ → State → List ℕ → ℕ → Kind → Run
one_by_one zero h s at kind = ended at
one_by_one (suc k) h s at kind =
    leb (length s) at ⇒ ended at
    ∣ not (accepts (answered h (TakeFrame s at kind))) ⇒ record { accepted = []; heard = []; refused = TakeFrame s at kind ∷ []; answer = answered h (TakeFrame s at kind); place = at }
    ∣ after (TakeFrame s at kind) (asked h.conn.role kind (shown_by h s at kind)) (
    not (is_open (acted h (TakeFrame s at kind)).conn.mark) ⇒ ended at
    ∣ one_by_one k (acted h (TakeFrame s at kind)) s (next_shown at (shown_by h s at kind)) kind)

-- the frames of a packet; one that is refused before them has none
unfoldable pub frames_in : State → Records → ℕ → List ℕ → Run
frames_in h rs first s =
    let begun = begun_of h.conn rs h.table first s in
    accepts begun.answer ⇒ one_by_one (length s - begun.at) h s begun.at begun.kind
    ∣ ended (length s)

abbrev pub calls_of : Run → List Act
calls_of r = r.accepted ++ r.refused

-- ---- histories: streams and types as at a server, whichever end the host is

-- what some frames asked, put on top of a history
unfoldable pub onto : List View → List Event → List Event
onto [] l = l
onto (v ∷ vs) l = onto vs (Heard v ∷ l)

-- what a call adds to a history: itself, where it was accepted; a packet those of its frames that were
abbrev pub noted : State → Act → List Event → List Event
noted h (TakeFrame s at kind) l =
    accepts (answered h (TakeFrame s at kind)) ⇒ onto (asked h.conn.role kind (shown_by h s at kind)) l
    ∣ l
noted h (TakePacket rs first s) l = onto (frames_in h rs first s).heard l
noted h (Make call) l =
    accepts (answered h (Make call)) ⇒ Did (seated_call h.conn.role call) ∷ l
    ∣ l
noted h (HandOut space) l =
    accepts (answered h (HandOut space)) ⇒ Gave space ∷ l
    ∣ l

unfoldable pub heard_after : State → List Act → List Event → List Event
heard_after h [] l = l
heard_after h (x ∷ xs) l = heard_after (acted h x) xs (noted h x l)

-- the frames and calls that were accepted since opening, the latest first
abbrev pub heard_by : Role → Limits → List Entry → List Act → List Event
heard_by role o t xs = heard_after (hosted role o t) xs []

-- ---- the frames of a payload, whether or not they are accepted

-- goes on with a frame that can be read and is admitted, and the place after it
abbrev pub with_frame : {X : Type 0} → Result Reading Refusal → X → (Frame → ℕ → X) → X
with_frame (Ok r) x k = k r.frame r.next
with_frame (Err r) x k = x

-- what the frames from a place on ask, k at most
unfoldable pub frames_from : Role → ℕ → List ℕ → ℕ → Kind → List View
frames_from role zero s at kind = []
frames_from role (suc k) s at kind =
    leb (length s) at ⇒ []
    ∣ with_frame (frame_at role s at kind) [] (λ frame next. view_of role kind frame ∷ frames_from role k s next kind)

-- the frames of a packet; one that is refused before them has none
abbrev pub frames_of : Begun → List ℕ → List View
frames_of begun s = frames_from begun.conn.role (length s - begun.at) s begun.at begun.kind
