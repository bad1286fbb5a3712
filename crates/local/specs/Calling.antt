-- A local call with the lent table: 120 first, and else what it leaves of the connection and of the one entry that it looks at.
use Rattle.std.specs.Prelude.{ℕ, List, set}
use Rattle.answers.specs.Choice.{◌⇒◌∣◌}
use Rattle.answers.specs.declared.Answer.TheVariants.{DoesNotFit}
use Rattle.streams.specs.declared.Called.{Called}
use Rattle.streams.specs.declared.Conn.{Conn}
use Rattle.entries.specs.declared.Entry.{Entry}
use Rattle.halves.specs.Stream.{place_of}
use Rattle.entries.specs.Entry.{entry_at}
use Rattle.limits.specs.Fits.{fits}
use Rattle.calls.specs.declared.Call.{Call}
use Rattle.replies.specs.declared.Replied.{Replied}
use Rattle.calls.specs.Calls.{seated_call, stream_in}
use Rattle.replies.specs.Replies.{replied_of}

abbrev pub call_place : Conn → Call → ℕ
call_place c call = place_of (stream_in (seated_call c.role call))

abbrev pub replied_at : Conn → List Entry → Call → Replied
replied_at c t call = replied_of c (entry_at t (call_place c call)) call

unfoldable pub called_at : Conn → List Entry → Call → Called
called_at c t call =
    fits c t ⇒ (replied_at c t call).called
    ∣ record { answer = DoesNotFit; number = 0; conn = c }

unfoldable pub called_table : Conn → List Entry → Call → List Entry
called_table c t call =
    fits c t ⇒ set t (call_place c call) (replied_at c t call).entry
    ∣ t
