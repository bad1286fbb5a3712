-- "The walk stops at the first frame that is refused", and nowhere else: of every packet that is accepted and leaves the connection open, the place that is told is the end of its bytes, however many frames there were.
use Rattle.std.specs.Prelude.{ℕ, ◌≡◌, true, false, List, length}
use Rattle.answers.specs.Answers.{accepts}
use Rattle.streams.specs.Conn.{is_open}
use Rattle.spaces.specs.declared.Records.{Records}
use Rattle.receive.specs.Taking.{begun_of}
use Rattle.accounts.specs.History.{State}
use Rattle.demands.specs.Hosts.{answered, acted, records_after, place_told}
use Rattle.demands.specs.Hosts.Act.{TakePacket}
use Rattle.demands.specs.Demand1.{leaves}

pub record Whole (h : State) (rs : Records) (first : ℕ) (s : List ℕ) : Type 0 where
  pub to_the_end : accepts (answered h (TakePacket rs first s)) ≡ true → is_open (acted h (TakePacket rs first s)).conn.mark ≡ true → place_told h rs first s ≡ length s
  -- one that is refused before its frames has none, and tells the same place; its answer is that of the check which refuses it, and it leaves the records, and all else but the mark, whose type is 0
  pub none_walked : accepts (begun_of h.conn rs h.table first s).answer ≡ false → place_told h rs first s ≡ length s
  pub none_answered : accepts (begun_of h.conn rs h.table first s).answer ≡ false → answered h (TakePacket rs first s) ≡ (begun_of h.conn rs h.table first s).answer
  pub none_left : accepts (begun_of h.conn rs h.table first s).answer ≡ false → acted h (TakePacket rs first s) ≡ leaves (begun_of h.conn rs h.table first s).answer 0 h
  pub none_recorded : accepts (begun_of h.conn rs h.table first s).answer ≡ false → records_after h rs first s ≡ rs

-- whatever the host keeps: its connection has four numbers of what is open, as the type says
abbrev pub WalkedWhole : Type 0
WalkedWhole = (h : State) (rs : Records) (first : ℕ) (s : List ℕ) → length h.conn.opened ≡ 4 → Whole h rs first s
