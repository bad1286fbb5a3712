-- Two examples for demand 3: its hypothesis can be met, and without it a neighbour does suffer.
use Rattle.std.specs.Prelude.{◌≡◌, List, [], ◌∷◌, replicate, ℕ}
use Rattle.kinds.specs.declared.Role.TheVariants.{Server}
use Rattle.answers.specs.Answers.{number_of}
use Rattle.kinds.specs.declared.Kind.TheVariants.{OneRtt}
use Rattle.entries.specs.declared.Entry.{Entry}
use Rattle.halves.specs.Stream.{entries}
use Rattle.entries.specs.Entry.{fresh}
use Rattle.streams.specs.Conn.{with_credit}
use Rattle.streams.specs.Small.{small}
use Rattle.demands.specs.Hosts.{Act, answered, host_after}
use Rattle.demands.specs.Hosts.Act.{TakeFrame}
use Rattle.bench.specs.Bench.{stream, final}
use Rattle.demands.specs.Demand3.{Enough}

-- one 1-RTT frame
abbrev pub alone : List ℕ → Act
alone s = TakeFrame s 0 OneRtt

-- streams 0 and 4 used up, the first one ended
abbrev pub used_up : List Act
used_up = alone (final 0 0 16) ∷ alone (stream 4 0 16) ∷ []

abbrev pub room : List Entry
room = replicate entries (fresh 0)

-- the hypothesis can be met, also when other streams have used up their credit: the small connection with credit for all its 8 streams of 16
abbrev pub Met : Type 0
Met = Enough Server (with_credit small 128) room used_up

-- without it stream 8, within its own limits, suffers for its neighbours: what is accepted first is refused once they have used up theirs
pub record Suffers : Type 0 where
  pub before : number_of (answered (host_after Server small room []) (alone (stream 8 0 9))) ≡ 0
  pub later : number_of (answered (host_after Server small room used_up) (alone (stream 8 0 9))) ≡ 3
