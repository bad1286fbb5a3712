-- No rule looks at the role: a connection with the other role is judged, answered and left as it was, but for that role.
-- Assumes nothing.
use Prim.Native.Nat.{ℕ}
use mathlib.Core.Path.{◌≡◌, refl, ◌∙◌, ap}
use mathlib.Core.Bool.{Bool, true, false, not}
use mathlib.Core.List.{List}
use lib.Dec.{ltb}
use Rattle.answers.specs.Choice.{◌⇒◌∣◌}
use Rattle.answers.specs.Answers.{accepts}
use Rattle.answers.specs.declared.Answer.{Answer}
use Rattle.answers.specs.declared.Answer.TheVariants.{AboveCeiling, Accepted, Closed}
use Rattle.kinds.specs.declared.Space.{Space}
use Rattle.halves.specs.Seat.{other_of}
use Rattle.entries.specs.declared.Entry.{Entry}
use Rattle.entries.specs.Entry.{most_credit}
use Rattle.streams.specs.declared.Called.{Called}
use Rattle.streams.specs.declared.Conn.{Conn}
use Rattle.streams.specs.declared.Mark.TheVariants.{Code}
use Rattle.streams.specs.Conn.{is_open, marked_as, count_of, next_of, handed_on, handed_out_of}
use Rattle.rules.specs.declared.View.{View}
use Rattle.rules.specs.declared.View.TheVariants.{Ends, Blocks, ForSender, Acks, Closes, Nothing}
use Rattle.rules.specs.Rules.{ends_of, blocked_of, for_sender_of}
use Rattle.verdicts.specs.declared.Judged.{Judged}
use Rattle.verdicts.specs.Verdict.{verdict_of, conn_heard, entry_heard, settled_of, judged_of}
use Rattle.calls.specs.declared.Call.{Call}
use Rattle.calls.specs.declared.Call.TheVariants.{RaiseCredit, RaiseStream, RaiseCount, OpenNext}
use Rattle.replies.specs.declared.Replied.{Replied}
use Rattle.replies.specs.Replies as replies
use Rattle.calls.specs.Calls.{seated_call, reply_of}
use Rattle.replies.specs.Replies.{conn_called, entry_called, number_called, ruled_of, replied_of}
use Rattle.limits.specs.Fits.{open_fit, conn_fits, fits}
use Rattle.steps.specs.declared.Decided.{Decided}
use Rattle.steps.specs.declared.Request.{Request}
use Rattle.steps.specs.Step.{judged_or, decided_as, decided_of}
use Rattle.std.specs.Prelude.{Result, Ok, Err}
use Rattle.accounts.specs.History.{State}

-- the same connection at the other end
abbrev pub across : Conn → Conn
across c = record { limits = c.limits; opened = c.opened; total = c.total; next = c.next; mark = c.mark; role = other_of c.role }

abbrev pub over : State → State
over h = record { conn = across h.conn; table = h.table }

pub count_same : (c : Conn) (half : ℕ) → count_of (across c) half ≡ count_of c half
unfolding count_of
count_same c half = refl

pub fits_same : (c : Conn) (t : List Entry) → fits (across c) t ≡ fits c t
unfolding fits conn_fits open_fit count_of
fits_same c t = refl

-- ---- a frame

verdict_same : (c : Conn) (e : Entry) (v : View) → verdict_of (across c) e v ≡ verdict_of c e v
unfolding verdict_of ends_of blocked_of for_sender_of count_of
verdict_same c e (Ends id end fin) = refl
verdict_same c e (Blocks id) = refl
verdict_same c e (ForSender id) = refl
verdict_same c e (Acks space largest) = refl
verdict_same c e Closes = refl
verdict_same c e Nothing = refl

conn_same : (c : Conn) (e : Entry) (v : View) → conn_heard (across c) e v ≡ across (conn_heard c e v)
unfolding conn_heard
conn_same c e (Ends id end fin) = refl
conn_same c e (Blocks id) = refl
conn_same c e (ForSender id) = refl
conn_same c e (Acks space largest) = refl
conn_same c e Closes = refl
conn_same c e Nothing = refl

abbrev judged_over : Judged → Judged
judged_over j = record { answer = j.answer; conn = across j.conn; entry = j.entry }

settled_same : (answer : Answer) (c : Conn) (e : Entry) (ty : ℕ) (conn : Conn) (entry : Entry) → settled_of answer (across c) e ty (across conn) entry ≡ judged_over (settled_of answer c e ty conn entry)
unfolding settled_of
settled_same answer c e ty conn entry = go (accepts answer)
  where
    go : (b : Bool) → (b ⇒ record { answer = Accepted; conn = across conn; entry = entry } ∣ record { answer = answer; conn = marked_as (across c) (Code answer ty); entry = e })
        ≡ judged_over (b ⇒ record { answer = Accepted; conn = conn; entry = entry } ∣ record { answer = answer; conn = marked_as c (Code answer ty); entry = e })
    go true = refl
    go false = refl

judged_same : (c : Conn) (e : Entry) (ty : ℕ) (v : View) → judged_of (across c) e ty v ≡ judged_over (judged_of c e ty v)
unfolding judged_of
judged_same c e ty v =
    (λ i. settled_of (verdict_same c e v i) (across c) e ty (conn_same c e v i) (entry_heard e v))
    ∙ settled_same (verdict_of c e v) c e ty (conn_heard c e v) (entry_heard e v)

abbrev pub decided_over : Decided → Decided
decided_over d = record { stepped = record { conn = across d.stepped.conn; answer = d.stepped.answer; next = d.stepped.next }; entry = d.entry }

judged_or_same : (c : Conn) (e : Entry) (ty : ℕ) (asks : Result View Answer) → judged_or (across c) e ty asks ≡ judged_over (judged_or c e ty asks)
judged_or_same c e ty (Ok view) = judged_same c e ty view
judged_or_same c e ty (Err answer) = refl

pub decided_same : (c : Conn) (e : Entry) (a : Request) → decided_of (across c) e a ≡ decided_over (decided_of c e a)
unfolding decided_of
decided_same c e a = ap (λ (j : Judged). decided_as j a.next) (judged_or_same c e a.ty a.asks)

-- ---- a local call, and a number handed out

reply_same : (c : Conn) (e : Entry) (k : Call) → reply_of (across c) e k ≡ reply_of c e k
unfolding reply_of count_of
reply_same c e (RaiseCredit new) = refl
reply_same c e (RaiseStream id new) = refl
reply_same c e (RaiseCount ty new) = refl
reply_same c e (OpenNext ty) = refl

called_same : (c : Conn) (k : Call) → conn_called (across c) k ≡ across (conn_called c k)
called_same c (RaiseCredit new) = refl
called_same c (RaiseStream id new) = refl
called_same c (RaiseCount ty new) = refl
called_same c (OpenNext ty) = refl

-- what a call leaves at the other end, with its number there
abbrev pub replied_over : ℕ → Replied → Replied
replied_over number r = record { called = record { answer = r.called.answer; number = number; conn = across r.called.conn }; entry = r.entry }

-- the number of a call that is not accepted is 0 at either end
abbrev pub given_over : Answer → ℕ → ℕ
given_over answer number = accepts answer ⇒ number ∣ 0

settled_call : (answer : Answer) (number other : ℕ) (c : Conn) (e : Entry) (conn : Conn) (entry : Entry)
    → replies.settled_of answer other (across c) e (across conn) entry ≡ replied_over (given_over answer other) (replies.settled_of answer number c e conn entry)
unfolding replies.settled_of
settled_call answer number other c e conn entry = go (accepts answer)
  where
    go : (b : Bool)
        → (b ⇒ record { called = record { answer = Accepted; number = other; conn = across conn }; entry = entry } ∣ record { called = record { answer = answer; number = 0; conn = across c }; entry = e })
        ≡ replied_over (b ⇒ other ∣ 0) (b ⇒ record { called = record { answer = Accepted; number = number; conn = conn }; entry = entry } ∣ record { called = record { answer = answer; number = 0; conn = c }; entry = e })
    go true = refl
    go false = refl

-- the calls j at the one end and k at the other name the same half and ordinal
pub replied_same : (c : Conn) (e : Entry) (j k : Call) → seated_call (other_of c.role) k ≡ seated_call c.role j
    → replied_of (across c) e k ≡ replied_over (is_open c.mark ⇒ given_over (reply_of c e (seated_call c.role j)) (number_called (across c) (seated_call c.role j)) ∣ 0) (replied_of c e j)
unfolding replied_of ruled_of replies.settled_of
replied_same c e j k same = go (is_open c.mark)
  where
    ruled : ruled_of (across c) e (seated_call (other_of c.role) k) ≡ replied_over (given_over (reply_of c e (seated_call c.role j)) (number_called (across c) (seated_call c.role j))) (ruled_of c e (seated_call c.role j))
    ruled =
        ap (ruled_of (across c) e) same
        ∙ (λ i. replies.settled_of (reply_same c e (seated_call c.role j) i) (number_called (across c) (seated_call c.role j)) (across c) e (called_same c (seated_call c.role j) i) (entry_called e (seated_call c.role j)))
        ∙ settled_call (reply_of c e (seated_call c.role j)) (number_called c (seated_call c.role j)) (number_called (across c) (seated_call c.role j)) c e (conn_called c (seated_call c.role j)) (entry_called e (seated_call c.role j))

    go : (b : Bool) → (not b ⇒ replies.settled_of Closed 0 (across c) e (across c) e ∣ ruled_of (across c) e (seated_call (other_of c.role) k))
        ≡ replied_over (b ⇒ given_over (reply_of c e (seated_call c.role j)) (number_called (across c) (seated_call c.role j)) ∣ 0) (not b ⇒ replies.settled_of Closed 0 c e c e ∣ ruled_of c e (seated_call c.role j))
    go true = ruled
    go false = refl

abbrev pub called_over : Called → Called
called_over x = record { answer = x.answer; number = x.number; conn = across x.conn }

pub handed_same : (c : Conn) (space : Space) → handed_out_of (across c) space ≡ called_over (handed_out_of c space)
unfolding handed_out_of
handed_same c space = go (ltb most_credit (next_of c space))
  where
    go : (b : Bool) → (b ⇒ record { answer = AboveCeiling; number = 0; conn = across c } ∣ record { answer = Accepted; number = next_of c space; conn = handed_on (across c) space })
        ≡ called_over (b ⇒ record { answer = AboveCeiling; number = 0; conn = c } ∣ record { answer = Accepted; number = next_of c space; conn = handed_on c space })
    go true = refl
    go false = refl
