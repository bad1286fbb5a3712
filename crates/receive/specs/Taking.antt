-- The call for a packet, with the lent table.
use Rattle.std.specs.Prelude.{ℕ, List}
use Rattle.streams.specs.declared.Conn.{Conn}
use Rattle.entries.specs.declared.Entry.{Entry}
use Rattle.limits.specs.Fits.{fits}
use Rattle.packets.specs.declared.Begun.{Begun}
use Rattle.spaces.specs.declared.Records.{Records}
use Rattle.endings.specs.declared.Took.{Took}
use Rattle.packets.specs.Begin.{begin_of}
use Rattle.endings.specs.Finish.{finish_of}
use Rattle.walks.specs.Walk.{stopped_of, walk_table}

-- a packet: the checks up to its frames, the walk over these, and the record of its number
abbrev pub begun_of : Conn → Records → List Entry → ℕ → List ℕ → Begun
begun_of c rs t first s = begin_of c rs (fits c t) first s

unfoldable pub took_of : Conn → Records → List Entry → ℕ → List ℕ → Took
took_of c rs t first s =
    let begun = begun_of c rs t first s in
    finish_of begun (stopped_of begun.conn t s begun.at begun.kind) rs

unfoldable pub took_table : Conn → Records → List Entry → ℕ → List ℕ → List Entry
took_table c rs t first s =
    let begun = begun_of c rs t first s in
    walk_table begun.conn t s begun.at begun.kind
