-- The space of a packet's number, RFC 9000 12.3.
use Rattle.kinds.specs.declared.Kind as kinds
use Rattle.kinds.specs.declared.Kind.TheVariants as Kind'
use Rattle.kinds.specs.declared.Space.{Space}
use Rattle.kinds.specs.declared.Space.TheVariants.{Initial, Handshake, Application}

-- "Three spaces: Initial, Handshake, and one for 0-RTT with 1-RTT"
abbrev pub space_of : kinds.Kind → Space
space_of Kind'.Initial = Initial
space_of Kind'.Handshake = Handshake
space_of Kind'.ZeroRtt = Application
space_of Kind'.OneRtt = Application
