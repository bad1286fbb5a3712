-- Opening a connection as a server or a client: initial stream credits for the three halves that receive (types 0, 1 and 2 at a server, 1, 0 and 3 at a client), counts for the peer's two, and the connection credit; 103 above a ceiling. On a lent table "it is not 192 entries (all that opening asks)" is 120.
use Rattle.std.specs.Prelude.{ℕ, [], ◌∷◌, eqb}
use Rattle.answers.specs.Choice.{◌⇒◌∣◌}
use Rattle.answers.specs.declared.Answer.{Answer}
use Rattle.answers.specs.declared.Answer.TheVariants.{Accepted, AboveCeiling, DoesNotFit}
use Rattle.halves.specs.Stream.{entries}
use Rattle.kinds.specs.declared.Role.{Role}
use Rattle.streams.specs.Conn.{limits_fit}
use Rattle.streams.specs.declared.Conn.{Conn}
use Rattle.streams.specs.declared.Limits.{Limits}
use Rattle.streams.specs.declared.Mark.{Mark}
use Rattle.streams.specs.declared.Mark.TheVariants.{Open, Code}
use Rattle.opening.specs.declared.Opened.{Opened}
use Rattle.answers.specs.Answers.{accepts}

-- nothing is open, nothing counted, no number handed out
abbrev pub opened_conn : Role → Limits → Mark → Conn
opened_conn role limits mark = record { limits = limits; opened = 0 ∷ 0 ∷ 0 ∷ 0 ∷ []; total = 0; next = 0 ∷ 0 ∷ 0 ∷ []; mark = mark; role = role }

-- a refused opening gives a connection that advertises nothing and is closed
abbrev pub no_limits : Limits
no_limits = record { credit = 0; counts = 0 ∷ 0 ∷ []; initial = 0 ∷ 0 ∷ 0 ∷ [] }

abbrev pub unopened_of : Role → Answer → Opened
unopened_of role answer = record { answer = answer; conn = opened_conn role no_limits (Code answer 0) }

unfoldable pub opening_of : Role → Limits → Opened
opening_of role limits =
    limits_fit limits ⇒ record { answer = Accepted; conn = opened_conn role limits Open }
    ∣ unopened_of role AboveCeiling

-- a table of n entries
unfoldable pub opening_when : Role → ℕ → Limits → Opened
opening_when role n limits =
    eqb n entries ⇒ opening_of role limits
    ∣ unopened_of role DoesNotFit

-- all where it is accepted, and none where it is refused
unfoldable pub entries_of : Answer → ℕ
entries_of answer =
    accepts answer ⇒ entries
    ∣ 0
