-- A table owned by value: what a packet or a local call answers, and the table after it.
use Rattle.std.specs.Prelude.{ℕ, List}
use Rattle.streams.specs.declared.Conn.{Conn}
use Rattle.entries.specs.declared.Entry.{Entry}
use Rattle.calls.specs.declared.Call.{Call}
use Rattle.spaces.specs.declared.Records.{Records}
use Rattle.receive.specs.Taking.{took_of, took_table}
use Rattle.local.specs.Calling.{called_at, called_table}
use Rattle.endings.specs.declared.Took.{Took}
use Rattle.streams.specs.declared.Called.{Called}
use Rattle.owned.specs.declared.Owned.{Owned}

abbrev pub owned_packet_of : Conn → Records → List Entry → ℕ → List ℕ → Owned Took
owned_packet_of c rs t first s = record { told = took_of c rs t first s; table = took_table c rs t first s }

abbrev pub owned_call_of : Conn → List Entry → Call → Owned Called
owned_call_of c t call = record { told = called_at c t call; table = called_table c t call }
