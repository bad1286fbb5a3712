-- "Each space keeps a record of the last 8,192 packet numbers", "A packet record is a value, handed in and handed back": a host that begins with empty records and keeps what each packet hands back has in each space the numbers of just its accepted packets of that space, as far back as the record reaches.
-- What other calls come between, and what the host keeps of the connection and the table, does not matter.
use Rattle.std.specs.Prelude.{ℕ, ◌&&◌, List, [], ◌∷◌, eqb}
use Rattle.answers.specs.Choice.{◌⇒◌∣◌}
use Rattle.answers.specs.Answers.{accepts}
use Rattle.records.specs.Marks.{none_of}
use Rattle.windows.specs.History.{Holds}
use Rattle.kinds.specs.declared.Space.{Space}
use Rattle.streams.specs.Conn.{index_of}
use Rattle.spaces.specs.declared.Records.{Records}
use Rattle.spaces.specs.Spaces.{record_of}
use Rattle.accounts.specs.History.{State}
use Rattle.demands.specs.Hosts.{Act, answered, acted, records_after}
use Rattle.demands.specs.Hosts.Act.{TakePacket}
use Rattle.demands.specs.Recorded.{number_in, space_in}

-- a packet comes, to which the host hands its records; or it makes another call
pub data Deed : Type 0 where
  Packet : ℕ → List ℕ → Deed
  Other : Act → Deed

abbrev pub act_of : Records → Deed → Act
act_of rs (Packet first s) = TakePacket rs first s
act_of rs (Other x) = x

-- the records after it
abbrev pub handed_back : State → Records → Deed → Records
handed_back h rs (Packet first s) = records_after h rs first s
handed_back h rs (Other x) = rs

-- the numbers of a space with that of a packet, if it was accepted and is of that space
abbrev pub noting : State → Records → Deed → Space → List ℕ → List ℕ
noting h rs (Packet first s) space l =
    (accepts (answered h (TakePacket rs first s)) && eqb (index_of (space_in h rs first s)) (index_of space)) ⇒ number_in h rs first s ∷ l
    ∣ l
noting h rs (Other x) space l = l

-- the records after all of it, and the numbers of a space, the latest first
unfoldable pub records_kept : State → Records → List Deed → Records
records_kept h rs [] = rs
records_kept h rs (x ∷ xs) = records_kept (acted h (act_of rs x)) (handed_back h rs x) xs

unfoldable pub numbers_of : State → Records → List Deed → Space → List ℕ → List ℕ
numbers_of h rs [] space l = l
numbers_of h rs (x ∷ xs) space l = numbers_of (acted h (act_of rs x)) (handed_back h rs x) xs space (noting h rs x space l)

abbrev pub no_records : Records
no_records = record { initial = none_of; handshake = none_of; application = none_of }

-- the record fits, its top is one above the largest of the numbers, it holds the last 8,192 of them and no others, and the next number is answered by them (crate windows, `Holds`)
abbrev pub Remembered : Type 0
Remembered = (h : State) (xs : List Deed) (space : Space) → Holds (numbers_of h no_records xs space []) (record_of (records_kept h no_records xs) space)
