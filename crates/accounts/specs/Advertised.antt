-- What a history says of the connection's limits and of what is open, by opening and its events alone: each number is opening's, as the accepted calls and frames since then moved it. No state is looked at.
use Rattle.std.specs.Prelude.{ℕ, ◌+◌, max, Bool, ◌&&◌, List, [], ◌∷◌, get_or, ltb, eqb}
use Rattle.answers.specs.Choice.{◌⇒◌∣◌}
use Rattle.streams.specs.declared.Limits.{Limits}
use Rattle.streams.specs.declared.Mark.{Mark}
use Rattle.streams.specs.declared.Mark.TheVariants.{Open, ByPeer}
use Rattle.kinds.specs.declared.Space.{Space}
use Rattle.halves.specs.Stream.{half_of, ordinal_of, receives, listed}
use Rattle.streams.specs.Conn.{initial_of, index_of}
use Rattle.rules.specs.declared.View.TheVariants.{Ends, Blocks, ForSender, Acks, Closes, Nothing}
use Rattle.calls.specs.declared.Call.TheVariants.{RaiseCredit, RaiseStream, RaiseCount, OpenNext}
use Rattle.limits.specs.Fits.{sum_to}
use Rattle.accounts.specs.History.{Event}
use Rattle.accounts.specs.History.Event.{Got, Did, Gave}

-- ---- the connection credit: opening's, or the last to which it was raised

abbrev pub credits : Event → ℕ → ℕ
credits (Got view) n = n
credits (Did (RaiseCredit new)) n = new
credits (Did (RaiseStream id new)) n = n
credits (Did (RaiseCount ty new)) n = n
credits (Did (OpenNext ty)) n = n
credits (Gave space) n = n

unfoldable pub credit_by : Limits → List Event → ℕ
credit_by o [] = o.credit
credit_by o (ev ∷ h) = credits ev (credit_by o h)

-- ---- a stream's credit: opening's for its type, or the last to which it was raised; one without an entry has none

abbrev pub lifts : Event → ℕ → ℕ → ℕ
lifts (Got view) id n = n
lifts (Did (RaiseCredit new)) id n = n
lifts (Did (RaiseStream raised new)) id n = eqb raised id ⇒ new ∣ n
lifts (Did (RaiseCount ty new)) id n = n
lifts (Did (OpenNext ty)) id n = n
lifts (Gave space) id n = n

unfoldable pub stream_credit_by : Limits → List Event → ℕ → ℕ
stream_credit_by o [] id = listed id ⇒ initial_of o (half_of id) ∣ 0
stream_credit_by o (ev ∷ h) id = lifts ev id (stream_credit_by o h id)

-- ---- the stream count of a half: the peer's as opening advertised it, or the last to which it was raised; "For types 1 and 3 the stream count is the number we opened"

abbrev pub counts : Event → ℕ → ℕ → ℕ
counts (Got view) half n = n
counts (Did (RaiseCredit new)) half n = n
counts (Did (RaiseStream id new)) half n = n
counts (Did (RaiseCount ty new)) half n = eqb (half_of ty) half ⇒ new ∣ n
counts (Did (OpenNext ty)) half n = eqb (half_of ty) half ⇒ n + 1 ∣ n
counts (Gave space) half n = n

unfoldable pub count_by : Limits → List Event → ℕ → ℕ
count_by o [] half =
    eqb half 0 ⇒ get_or o.counts 0 0
    ∣ eqb half 2 ⇒ get_or o.counts 1 0
    ∣ 0
count_by o (ev ∷ h) half = counts ev half (count_by o h half)

-- ---- how many streams of a half are open: up to the highest that an accepted frame named, "all lower ordinals" with it, and those that we opened

abbrev pub up_to : ℕ → ℕ → ℕ → ℕ
up_to id half n = eqb (half_of id) half ⇒ max n (ordinal_of id + 1) ∣ n

abbrev pub opens : Event → ℕ → ℕ → ℕ
opens (Got (Ends id end fin)) half n = up_to id half n
opens (Got (Blocks id)) half n = up_to id half n
opens (Got (ForSender id)) half n = up_to id half n
opens (Got (Acks space largest)) half n = n
opens (Got Closes) half n = n
opens (Got Nothing) half n = n
opens (Did (RaiseCredit new)) half n = n
opens (Did (RaiseStream id new)) half n = n
opens (Did (RaiseCount ty new)) half n = n
opens (Did (OpenNext ty)) half n = eqb (half_of ty) half ⇒ n + 1 ∣ n
opens (Gave space) half n = n

unfoldable pub open_by : List Event → ℕ → ℕ
open_by [] half = 0
open_by (ev ∷ h) half = opens ev half (open_by h half)

-- ---- the next packet number of a space: as many as were handed out, "from 0"

abbrev pub hands : Event → Space → ℕ → ℕ
hands (Got view) space n = n
hands (Did call) space n = n
hands (Gave given) space n = eqb (index_of given) (index_of space) ⇒ n + 1 ∣ n

unfoldable pub next_by : List Event → Space → ℕ
next_by [] space = 0
next_by (ev ∷ h) space = hands ev space (next_by h space)

-- ---- the mark: "by peer" once CONNECTION_CLOSE was accepted, and before it open

abbrev pub marks : Event → Mark → Mark
marks (Got (Ends id end fin)) mark = mark
marks (Got (Blocks id)) mark = mark
marks (Got (ForSender id)) mark = mark
marks (Got (Acks space largest)) mark = mark
marks (Got Closes) mark = ByPeer
marks (Got Nothing) mark = mark
marks (Did call) mark = mark
marks (Gave space) mark = mark

unfoldable pub mark_by : List Event → Mark
mark_by [] = Open
mark_by (ev ∷ h) = marks ev (mark_by h)

-- ---- credit for all

-- the streams on which the peer may send: its own below their counts, and our two-way streams that are open
abbrev pub may_send_by : Limits → List Event → ℕ → Bool
may_send_by o h id = receives (half_of id) && ltb (ordinal_of id) (count_by o h (half_of id))

-- the sum of their credits, ended ones included; the IDs below 256 are the ordinals 0 to 63 of each half
unfoldable pub granted_by : Limits → List Event → ℕ
granted_by o h = sum_to 256 (λ id. may_send_by o h id ⇒ stream_credit_by o h id ∣ 0)
