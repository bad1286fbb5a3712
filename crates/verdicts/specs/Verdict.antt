-- The verdict on a frame, for a connection and ONE entry: the answer, and what an accepted frame leaves. A refused frame changes nothing but the closing mark.
use Rattle.std.specs.Prelude.{ℕ, ◌+◌, ◌-◌, leb, Result, Ok, Err}
use Rattle.answers.specs.Choice.{◌⇒◌∣◌}
use Rattle.answers.specs.Answers.{accepts}
use Rattle.answers.specs.declared.Answer.{Answer}
use Rattle.answers.specs.declared.Answer.TheVariants.{Accepted, ProtocolViolation}
use Rattle.entries.specs.Entry.{reached}
use Rattle.streams.specs.Conn.{marked_as, open_to, next_of}
use Rattle.streams.specs.declared.Conn.{Conn}
use Rattle.entries.specs.declared.Entry.{Entry}
use Rattle.streams.specs.declared.Mark.TheVariants.{Code, ByPeer}
use Rattle.rules.specs.Rules.{ends_of, blocked_of, for_sender_of}
use Rattle.rules.specs.declared.View.{View}
use Rattle.rules.specs.declared.View.TheVariants.{Ends, Blocks, ForSender, Acks, Closes, Nothing}
use Rattle.verdicts.specs.declared.Judged.{Judged}

-- the answer of an open connection whose table fits
unfoldable pub verdict_of : Conn → Entry → View → Answer
verdict_of c e (Ends id end fin) = ends_of c e id end fin
verdict_of c e (Blocks id) = blocked_of c id
verdict_of c e (ForSender id) = for_sender_of c id
-- "An ACK of a number not yet handed out in its space is 10"
verdict_of c e (Acks space largest) = leb (next_of c space) largest ⇒ ProtocolViolation ∣ Accepted
verdict_of c e Closes = Accepted
verdict_of c e Nothing = Accepted

-- what an accepted frame makes of the connection ..
unfoldable pub conn_heard : Conn → Entry → View → Conn
conn_heard c e (Ends id end fin) = open_to c id (c.total + (end - e.end))
conn_heard c e (Blocks id) = open_to c id c.total
conn_heard c e (ForSender id) = open_to c id c.total
conn_heard c e (Acks space largest) = c
conn_heard c e Closes = marked_as c ByPeer
conn_heard c e Nothing = c

-- .. and of the entry
unfoldable pub entry_heard : Entry → View → Entry
entry_heard e (Ends id end fin) = reached e end fin
entry_heard e (Blocks id) = e
entry_heard e (ForSender id) = e
entry_heard e (Acks space largest) = e
entry_heard e Closes = e
entry_heard e Nothing = e

-- both where the answer accepts, or the answer that refuses
abbrev pub heard_of : Conn → Entry → View → Result (Conn × Entry) Answer
heard_of c e v =
    accepts (verdict_of c e v) ⇒ Ok (conn_heard c e v, entry_heard e v)
    ∣ Err (verdict_of c e v)

-- accepted, with the connection and the entry as given; or refused, and the connection closes with the code and the type of the frame
unfoldable pub settled_of : Answer → Conn → Entry → ℕ → Conn → Entry → Judged
settled_of answer c e ty conn entry =
    accepts answer ⇒ record { answer = Accepted; conn = conn; entry = entry }
    ∣ record { answer = answer; conn = marked_as c (Code answer ty); entry = e }

-- a frame of the type ty
unfoldable pub judged_of : Conn → Entry → ℕ → View → Judged
judged_of c e ty v = settled_of (verdict_of c e v) c e ty (conn_heard c e v) (entry_heard e v)
