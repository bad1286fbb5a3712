-- The records of the three spaces: Initial, Handshake, and one for 0-RTT with 1-RTT.
use Rattle.std.specs.Prelude.{ℕ, Bool, ◌&&◌}
use Rattle.records.specs.declared.Record.{Record}
use Rattle.records.specs.Marks.{sound_of}
use Rattle.records.specs.Ring.{taken_of}
use Rattle.kinds.specs.declared.Space.{Space}
use Rattle.kinds.specs.declared.Space.TheVariants.{Initial, Handshake, Application}
use Rattle.spaces.specs.declared.Records.{Records}

abbrev pub record_of : Records → Space → Record
record_of rs Initial = rs.initial
record_of rs Handshake = rs.handshake
record_of rs Application = rs.application

-- with another record of a space
abbrev pub with_record : Records → Space → Record → Records
with_record rs Initial R = record { initial = R; handshake = rs.handshake; application = rs.application }
with_record rs Handshake R = record { initial = rs.initial; handshake = R; application = rs.application }
with_record rs Application R = record { initial = rs.initial; handshake = rs.handshake; application = R }

-- 120 covers all three, whatever the packet's space
unfoldable pub records_fit : Records → Bool
records_fit rs = sound_of rs.initial && (sound_of rs.handshake && sound_of rs.application)

-- with a number more in a space
unfoldable pub recorded_of : Records → Space → ℕ → Records
recorded_of rs space n = with_record rs space (taken_of (record_of rs space) n).«record»
