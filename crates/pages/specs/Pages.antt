-- The listing of a payload, docs/RULES.md, "The listing": frame after frame into the small connection, up to the one that closes it, as many rows at a time as an output holds.
use Rattle.std.specs.Prelude.{ℕ, zero, suc, true, false, ◌||◌, List, length, replicate, leb, Result, Ok, Err}
use Rattle.kinds.specs.declared.Role.TheVariants.{Server}
use Rattle.answers.specs.Choice.{◌⇒◌∣◌}
use Rattle.wire.specs.Writing.{Bytes, writes}
use Rattle.kinds.specs.declared.Kind.TheVariants.{OneRtt}
use Rattle.halves.specs.Stream.{entries}
use Rattle.entries.specs.Entry.{fresh}
use Rattle.streams.specs.Small.{small}
use Rattle.owned.specs.Owned.{owned_opened_of, owned_frame_of}
use Rattle.owned.specs.declared.Owned.{Owned}
use Rattle.opening.specs.declared.Opened.{Opened}
use Rattle.steps.specs.declared.TookFrame.{TookFrame}
use Rattle.report.specs.Listing.{taken_row_of, after_of}
use Rattle.pages.specs.declared.Page.{Page}
use Rattle.answers.specs.declared.Answer.{Answer}

-- the small connection, opened on a table of 192 entries
unfoldable pub small_of : Owned Opened
small_of = owned_opened_of Server (replicate entries (fresh 0)) small

-- the frame that is next, taken
abbrev pub taken_from : Page → List ℕ → Owned TookFrame
taken_from p s = owned_frame_of p.conn p.table s p.at OneRtt

-- a page whose next row waits for room: nothing was taken
abbrev pub waiting : Page → Page
waiting p = record { conn = p.conn; table = p.table; at = p.at; used = p.used; full = true }

-- a page with the row of a frame that was taken, by what writing the row answered
unfoldable pub with_row : Page → List ℕ → Owned TookFrame → Result ℕ Answer → Page
with_row p s taken (Ok next) = record { conn = taken.told.conn; table = taken.table; at = after_of taken.told (length s); used = next; full = false }
with_row p s taken (Err answer) = waiting p

-- a page with one row more, and the output then
unfoldable pub one_more_of : Page → List ℕ → List ℕ → Page × List ℕ
one_more_of p s out =
    let taken = taken_from p s in
    let w = writes (Bytes (taken_row_of p.at taken.told)) out p.used in
    (with_row p s taken w.0, w.1)

-- k rows more, or as many as there are frames and room for
unfoldable pub page_from : ℕ → Page → List ℕ → List ℕ → Page × List ℕ
page_from zero p s out = (p, out)
page_from (suc k) p s out =
    p.full || leb (length s) p.at ⇒ (p, out)
    ∣ page_from k (one_more_of p s out).0 s (one_more_of p s out).1

-- an empty page that goes on where another stopped
abbrev pub turned : Page → Page
turned p = record { conn = p.conn; table = p.table; at = p.at; used = 0; full = false }

-- a page after another: a payload has no more frames than bytes
unfoldable pub page_of : Page → List ℕ → List ℕ → Page × List ℕ
page_of p s out = page_from (length s) (turned p) s out
