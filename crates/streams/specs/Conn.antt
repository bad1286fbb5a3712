-- A connection in its parts: what it advertises, what is open of each half, the total, the numbers handed out, the mark and the role; and how each part changes.
use Rattle.std.specs.Prelude.{ℕ, zero, suc, ◌+◌, ◌/◌, max, Bool, true, false, ◌&&◌, get_or, set, ltb, leb}
use Rattle.answers.specs.Choice.{◌⇒◌∣◌}
use Rattle.answers.specs.declared.Answer.TheVariants.{Accepted, AboveCeiling}
use Rattle.halves.specs.Stream.{half_of, ordinal_of, peers, most_streams}
use Rattle.entries.specs.Entry.{most_credit}
use Rattle.streams.specs.declared.Called.{Called}
use Rattle.streams.specs.declared.Conn.{Conn}
use Rattle.streams.specs.declared.Limits.{Limits}
use Rattle.streams.specs.declared.Mark.{Mark}
use Rattle.streams.specs.declared.Mark.TheVariants.{Open, Code, ByPeer}
use Rattle.kinds.specs.declared.Space.{Space}
use Rattle.kinds.specs.declared.Space.TheVariants.{Initial, Handshake, Application}

abbrev pub is_open : Mark → Bool
is_open Open = true
is_open (Code answer ty) = false
is_open ByPeer = false

-- with another mark, and with other limits: nothing else changes
abbrev pub marked_as : Conn → Mark → Conn
marked_as c mark = record { limits = c.limits; opened = c.opened; total = c.total; next = c.next; mark = mark; role = c.role }

abbrev pub limited_to : Conn → Limits → Conn
limited_to c limits = record { limits = limits; opened = c.opened; total = c.total; next = c.next; mark = c.mark; role = c.role }

-- ---- what is advertised

-- the count of the peer's two-way streams comes first, then that of its one-way streams
abbrev pub advertised_of : Limits → ℕ → ℕ
advertised_of limits half = get_or limits.counts (half / 2) 0

-- the initial credits of the three halves that receive
abbrev pub initial_of : Limits → ℕ → ℕ
initial_of limits zero = get_or limits.initial 0 0
initial_of limits (suc zero) = get_or limits.initial 1 0
initial_of limits (suc (suc half)) = get_or limits.initial 2 0

abbrev pub with_credit : Limits → ℕ → Limits
with_credit limits credit = record { credit = credit; counts = limits.counts; initial = limits.initial }

abbrev pub with_count : Limits → ℕ → ℕ → Limits
with_count limits half count = record { credit = limits.credit; counts = set limits.counts (half / 2) count; initial = limits.initial }

-- ---- what is open

abbrev pub opened_of : Conn → ℕ → ℕ
opened_of c half = get_or c.opened half 0

-- the stream count of a half; "For types 1 and 3 the stream count is the number we opened"
unfoldable pub count_of : Conn → ℕ → ℕ
count_of c half =
    peers half ⇒ advertised_of c.limits half
    ∣ opened_of c half

-- with the stream open and "all lower ordinals of the type", and the total as given
abbrev pub open_to : Conn → ℕ → ℕ → Conn
open_to c id total = record { limits = c.limits; opened = set c.opened (half_of id) (max (opened_of c (half_of id)) (ordinal_of id + 1)); total = total; next = c.next; mark = c.mark; role = c.role }

-- ---- the numbers handed out

abbrev pub index_of : Space → ℕ
index_of Initial = 0
index_of Handshake = 1
index_of Application = 2

-- the next packet number of a space, and with one number more handed out
abbrev pub next_of : Conn → Space → ℕ
next_of c space = get_or c.next (index_of space) 0

abbrev pub handed_on : Conn → Space → Conn
handed_on c space = record { limits = c.limits; opened = c.opened; total = c.total; next = set c.next (index_of space) (next_of c space + 1); mark = c.mark; role = c.role }

-- "a call hands out the next number of a space, from 0; after 2^62-1 it is 103"; it ignores the closing mark
unfoldable pub handed_out_of : Conn → Space → Called
handed_out_of c space =
    ltb most_credit (next_of c space) ⇒ record { answer = AboveCeiling; number = 0; conn = c }
    ∣ record { answer = Accepted; number = next_of c space; conn = handed_on c space }

-- "The ceilings belong to the connection: 64 streams a type, credit 2^62-1": no limit is above its own
unfoldable pub limits_fit : Limits → Bool
limits_fit limits =
    leb limits.credit most_credit
    && (leb (get_or limits.counts 0 0) most_streams
    && (leb (get_or limits.counts 1 0) most_streams
    && (leb (initial_of limits 0) most_credit
    && (leb (initial_of limits 1) most_credit
    && leb (initial_of limits 2) most_credit))))
