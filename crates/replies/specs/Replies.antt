-- What a local call answers and leaves, docs/RULES.md, "Local calls": 101 before all else, and what an accepted call leaves of a connection and of ONE entry. A refused call changes nothing.
use Rattle.std.specs.Prelude.{ℕ, not, Result, Ok, Err}
use Rattle.answers.specs.Choice.{◌⇒◌∣◌}
use Rattle.answers.specs.Answers.{accepts}
use Rattle.answers.specs.declared.Answer.{Answer}
use Rattle.answers.specs.declared.Answer.TheVariants.{Accepted, Closed}
use Rattle.halves.specs.Seat.{seated_of}
use Rattle.halves.specs.Stream.{half_of, id_of}
use Rattle.entries.specs.Entry.{credited}
use Rattle.streams.specs.Conn.{is_open, limited_to, with_credit, with_count, opened_of, open_to}
use Rattle.streams.specs.declared.Conn.{Conn}
use Rattle.entries.specs.declared.Entry.{Entry}
use Rattle.calls.specs.declared.Call.{Call}
use Rattle.calls.specs.declared.Call.TheVariants.{RaiseCredit, RaiseStream, RaiseCount, OpenNext}
use Rattle.calls.specs.Calls.{seated_call, reply_of}
use Rattle.replies.specs.declared.Replied.{Replied}

-- the next stream of a type that we open
abbrev pub next_of : Conn → ℕ → ℕ
next_of c ty = id_of (half_of ty) (opened_of c (half_of ty))

-- what an accepted call makes of the connection ..
abbrev pub conn_called : Conn → Call → Conn
conn_called c (RaiseCredit new) = limited_to c (with_credit c.limits new)
conn_called c (RaiseStream id new) = c
conn_called c (RaiseCount ty new) = limited_to c (with_count c.limits (half_of ty) new)
conn_called c (OpenNext ty) = open_to c (next_of c ty) c.total

-- .. of the entry ..
abbrev pub entry_called : Entry → Call → Entry
entry_called e (RaiseCredit new) = e
entry_called e (RaiseStream id new) = credited e new
entry_called e (RaiseCount ty new) = e
entry_called e (OpenNext ty) = e

-- .. and the number that it hands out: the ID of the stream that was opened, as on the wire
abbrev pub number_called : Conn → Call → ℕ
number_called c (RaiseCredit new) = 0
number_called c (RaiseStream id new) = 0
number_called c (RaiseCount ty new) = 0
number_called c (OpenNext ty) = seated_of c.role (next_of c ty)

-- the three together, or the answer that refuses: "101 on a closed connection", before all else that a call asks
unfoldable pub made_of : Conn → Entry → Call → Result (ℕ × Conn × Entry) Answer
made_of c e call =
    not (is_open c.mark) ⇒ Err Closed
    ∣ accepts (reply_of c e call) ⇒ Ok (number_called c call, conn_called c call, entry_called e call)
    ∣ Err (reply_of c e call)

-- accepted, with the number, the connection and the entry as given; or refused with nothing changed
unfoldable pub settled_of : Answer → ℕ → Conn → Entry → Conn → Entry → Replied
settled_of answer number c e conn entry =
    accepts answer ⇒ record { called = record { answer = Accepted; number = number; conn = conn }; entry = entry }
    ∣ record { called = record { answer = answer; number = 0; conn = c }; entry = e }

unfoldable pub ruled_of : Conn → Entry → Call → Replied
ruled_of c e call = settled_of (reply_of c e call) (number_called c call) c e (conn_called c call) (entry_called e call)

-- 101 on a closed connection, before all else that a call asks
unfoldable pub replied_of : Conn → Entry → Call → Replied
replied_of c e call =
    not (is_open c.mark) ⇒ settled_of Closed 0 c e c e
    ∣ ruled_of c e (seated_call c.role call)
