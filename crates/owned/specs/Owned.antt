-- A table owned by value: what a call answers, and the table after it.
use Rattle.std.specs.Prelude.{ℕ, List, length}
use Rattle.kinds.specs.declared.Kind.{Kind}
use Rattle.kinds.specs.declared.Role.{Role}
use Rattle.streams.specs.declared.Conn.{Conn}
use Rattle.entries.specs.declared.Entry.{Entry}
use Rattle.streams.specs.declared.Limits.{Limits}
use Rattle.opening.specs.Opening.{opening_when}
use Rattle.tables.specs.Opened.{opened_table}
use Rattle.single.specs.Single.{took_frame_of, frame_table}
use Rattle.opening.specs.declared.Opened.{Opened}
use Rattle.steps.specs.declared.TookFrame.{TookFrame}
use Rattle.owned.specs.declared.Owned.{Owned}

abbrev pub owned_opened_of : Role → List Entry → Limits → Owned Opened
owned_opened_of role t limits = record { told = opening_when role (length t) limits; table = opened_table role t limits }

abbrev pub owned_frame_of : Conn → List Entry → List ℕ → ℕ → Kind → Owned TookFrame
owned_frame_of c t s at kind = record { told = took_frame_of c t s at kind; table = frame_table c t s at kind }
