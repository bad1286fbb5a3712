-- Which local calls leave the lent table as it was: all but the one that raises a stream's credit.
use Rattle.std.specs.Prelude.{ℕ, ◌≡◌, List}
use Rattle.streams.specs.declared.Conn.{Conn}
use Rattle.entries.specs.declared.Entry.{Entry}
use Rattle.calls.specs.declared.Call.TheVariants.{RaiseCredit, RaiseCount, OpenNext}
use Rattle.local.specs.Calling.{called_table}

pub record TableKept (c : Conn) (t : List Entry) : Type 0 where
  pub raise_credit : (new : ℕ) → called_table c t (RaiseCredit new) ≡ t
  pub raise_count : (ty new : ℕ) → called_table c t (RaiseCount ty new) ≡ t
  pub open_next : (ty : ℕ) → called_table c t (OpenNext ty) ≡ t
