-- Histories: a connection with its lent table from opening on, and what the accepted frames and calls alone say of each stream.
use Rattle.std.specs.Prelude.{ℕ, zero, suc, ◌/◌, max, ◌≡◌, Bool, true, false, not, List, [], ◌∷◌, set, eqb, Option, Some, None}
use Rattle.kinds.specs.declared.Role.{Role}
use Rattle.answers.specs.Choice.{◌⇒◌∣◌}
use Rattle.answers.specs.declared.Answer.{Answer}
use Rattle.answers.specs.declared.Answer.TheVariants.{Accepted, FlowControl, StreamLimit, StreamState, FinalSize, Closed, DoesNotFit}
use Rattle.streams.specs.declared.Conn.{Conn}
use Rattle.entries.specs.declared.Entry.{Entry}
use Rattle.streams.specs.declared.Limits.{Limits}
use Rattle.streams.specs.declared.Mark.TheVariants.{Open}
use Rattle.kinds.specs.declared.Space.{Space}
use Rattle.halves.specs.Stream.{stream_of, most_streams, entries, place_of}
use Rattle.entries.specs.Entry.{fresh, entry_of}
use Rattle.streams.specs.Conn.{is_open, initial_of, handed_on, handed_out_of}
use Rattle.opening.specs.Opening.{opened_conn, opening_of}
use Rattle.rules.specs.declared.View.{View}
use Rattle.rules.specs.declared.View.TheVariants.{Ends, Blocks, ForSender, Acks, Closes, Nothing}
use Rattle.views.specs.View as views
use Rattle.rules.specs.Rules.{rule1, rule2, rule3, rule4}
use Rattle.verdicts.specs.Verdict.{verdict_of, conn_heard, entry_heard}
use Rattle.calls.specs.declared.Call.{Call}
use Rattle.calls.specs.Calls as calls
use Rattle.calls.specs.Calls.{reply_of}
use Rattle.replies.specs.Replies.{conn_called, entry_called}
use Rattle.limits.specs.Fits.{fits}

-- ---- events: what a frame asked, a local call, and a packet number handed out; streams and types are named as at a server (halves `Seat`)

pub data Event : Type 0 where
  Got : View → Event
  Did : Call → Event
  Gave : Space → Event

-- the stream whose entry an event looks at; stream 0 for those that look at none, and leave it
abbrev pub looks_at : Event → ℕ
looks_at (Got view) = views.stream_in view
looks_at (Did call) = calls.stream_in call
looks_at (Gave space) = 0

-- the answer of an open connection whose table fits, and what an accepted event leaves: as the contracts of frames and calls have it
unfoldable pub ruled_of : Conn → Entry → Event → Answer
ruled_of c e (Got view) = verdict_of c e view
ruled_of c e (Did call) = reply_of c e call
ruled_of c e (Gave space) = (handed_out_of c space).answer

unfoldable pub conn_after : Conn → Entry → Event → Conn
conn_after c e (Got view) = conn_heard c e view
conn_after c e (Did call) = conn_called c call
conn_after c e (Gave space) = handed_on c space

unfoldable pub entry_after : Entry → Event → Entry
entry_after e (Got view) = entry_heard e view
entry_after e (Did call) = entry_called e call
entry_after e (Gave space) = e

-- ---- a connection with its lent table

pub record State : Type 0 where
  pub conn : Conn
  pub table : List Entry

-- handing out a number looks at neither the table nor the closing mark
abbrev pub hands_out : Event → Bool
hands_out (Got view) = false
hands_out (Did call) = false
hands_out (Gave space) = true

-- 120, 101, then the rules
unfoldable pub answer_of : State → Event → Answer
answer_of s ev =
    hands_out ev ⇒ ruled_of s.conn (entry_of s.table (looks_at ev)) ev
    ∣ not (fits s.conn s.table) ⇒ DoesNotFit
    ∣ not (is_open s.conn.mark) ⇒ Closed
    ∣ ruled_of s.conn (entry_of s.table (looks_at ev)) ev

-- the state after an accepted event: at most the entry of its stream has changed
unfoldable pub after : State → Event → State
after s ev = record {
  conn = conn_after s.conn (entry_of s.table (looks_at ev)) ev;
  table = set s.table (place_of (looks_at ev)) (entry_after (entry_of s.table (looks_at ev)) ev);
}

-- ---- opening

-- f 0, .., f (n - 1)
unfoldable pub list_to : {A : Type 0} → ℕ → (ℕ → A) → List A
list_to zero f = []
list_to (suc n) f = f 0 ∷ list_to n (λ i. f (suc i))

-- "Opening a connection sets every entry to its type's initial credit, end 0, no final size"
unfoldable pub opened : Role → Limits → State
opened role o = record { conn = opened_conn role o Open; table = list_to entries (λ i. fresh (initial_of o (i / most_streams))) }

-- opening with these limits, as an end of this role, is accepted
abbrev pub WasOpened : Role → Limits → Type 0
WasOpened role o = (opening_of role o).answer ≡ Accepted

-- ---- histories, the latest event first

unfoldable pub state_of : Role → Limits → List Event → State
state_of role o [] = opened role o
state_of role o (ev ∷ h) = after (state_of role o h) ev

-- opening and each event were accepted
unfoldable pub AllAccepted : Role → Limits → List Event → Type 0
AllAccepted role o [] = WasOpened role o
AllAccepted role o (ev ∷ h) = AllAccepted role o h × (answer_of (state_of role o h) ev ≡ Accepted)

-- ---- what a history says of a stream, by its events alone

-- an end that a frame named, as final or not
pub record End : Type 0 where
  pub end : ℕ
  pub fin : Bool

abbrev pub added : Bool → End → List End → List End
added true x l = x ∷ l
added false x l = l

-- the ends that the accepted STREAM and RESET_STREAM frames of a stream named, the latest first
unfoldable pub own : List Event → ℕ → List End
own [] id = []
own (Got (Ends n end fin) ∷ h) id = added (eqb n id) (record { end = end; fin = fin }) (own h id)
own (Got (Blocks n) ∷ h) id = own h id
own (Got (ForSender n) ∷ h) id = own h id
own (Got (Acks space largest) ∷ h) id = own h id
own (Got Closes ∷ h) id = own h id
own (Got Nothing ∷ h) id = own h id
own (Did call ∷ h) id = own h id
own (Gave space ∷ h) id = own h id

-- the furthest of some ends, and the one that was named as final
unfoldable pub furthest_of : List End → ℕ
furthest_of [] = 0
furthest_of (x ∷ l) = max (furthest_of l) x.end

unfoldable pub final_named : List End → Option ℕ
final_named [] = None
final_named (x ∷ l) = x.fin ⇒ Some x.end ∣ final_named l

-- the furthest end or final size that an accepted frame named for a stream
abbrev pub furthest : List Event → ℕ → ℕ
furthest h id = furthest_of (own h id)

-- ---- the verdict

-- rules 1 to 4 for a STREAM or RESET_STREAM frame, by the stream count of its half, the stream's credit and its own accepted frames: no other stream is looked at
unfoldable pub ruling : ℕ → ℕ → List End → ℕ → ℕ → Bool → Answer
ruling count credit l id end fin =
    rule1 count (stream_of id) ⇒ StreamState
    ∣ rule2 count (stream_of id) ⇒ StreamLimit
    ∣ rule3 (final_named l) (furthest_of l) end fin ⇒ FinalSize
    ∣ rule4 credit end ⇒ FlowControl
    ∣ Accepted
