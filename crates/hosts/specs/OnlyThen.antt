-- docs/RULES.md, "120 for the table": "before all else and only then", "nothing changed". Of every host and every call: it answers 120 exactly where the table does not fit, or one of a packet's three records, and then all is as it was.
use Rattle.std.specs.Prelude.{◌≡◌, Bool, true, false, not, ◌&&◌}
use Rattle.answers.specs.declared.Answer.TheVariants.{DoesNotFit}
use Rattle.limits.specs.Fits.{fits}
use Rattle.spaces.specs.Spaces.{records_fit}
use Rattle.accounts.specs.History.{State}
use Rattle.demands.specs.Hosts.{Act, answered, acted, records_after}
use Rattle.demands.specs.Hosts.Act.{TakeFrame, TakePacket, Make, HandOut}

-- what a call is handed does not fit; handing out a number asks for no table
abbrev pub does_not_fit : State → Act → Bool
does_not_fit h (TakeFrame s at kind) = not (fits h.conn h.table)
does_not_fit h (TakePacket rs first s) = not (fits h.conn h.table && records_fit rs)
does_not_fit h (Make call) = not (fits h.conn h.table)
does_not_fit h (HandOut space) = false

-- the records that came with a packet
abbrev pub RecordsLeft : State → Act → Type 0
RecordsLeft h (TakeFrame s at kind) = Unit
RecordsLeft h (TakePacket rs first s) = records_after h rs first s ≡ rs
RecordsLeft h (Make call) = Unit
RecordsLeft h (HandOut space) = Unit

pub record OnlyThen (h : State) (x : Act) : Type 0 where
  -- "before all else": whatever else would refuse the call
  pub first_of_all : does_not_fit h x ≡ true → answered h x ≡ DoesNotFit
  -- "and only then"
  pub only_then : answered h x ≡ DoesNotFit → does_not_fit h x ≡ true
  -- "nothing changed"
  pub host_left : does_not_fit h x ≡ true → acted h x ≡ h
  pub records_left : does_not_fit h x ≡ true → RecordsLeft h x
