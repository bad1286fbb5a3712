-- Which frames a packet may carry to a server and to a client, RFC 9000 Table 3 and 12.5 in the words of docs/RULES.md, "Admission": the one place where admission is ruled.
use Rattle.std.specs.Prelude.{ℕ, Bool, true, false, not, eqb}
use Rattle.answers.specs.Choice.{◌⇒◌∣◌}
use Rattle.kinds.specs.declared.Kind.{Kind}
use Rattle.kinds.specs.declared.Kind.TheVariants.{Initial, Handshake, ZeroRtt, OneRtt}
use Rattle.kinds.specs.declared.Role.{Role}
use Rattle.kinds.specs.declared.Role.TheVariants.{Server, Client}

-- in all kinds but 0-RTT
abbrev pub except_early : Kind → Bool
except_early Initial = true
except_early Handshake = true
except_early ZeroRtt = false
except_early OneRtt = true

-- in 1-RTT
abbrev pub only_one_rtt : Kind → Bool
only_one_rtt Initial = false
only_one_rtt Handshake = false
only_one_rtt ZeroRtt = false
only_one_rtt OneRtt = true

-- in 0-RTT and 1-RTT
abbrev pub early_or_one_rtt : Kind → Bool
early_or_one_rtt Initial = false
early_or_one_rtt Handshake = false
early_or_one_rtt ZeroRtt = true
early_or_one_rtt OneRtt = true

-- the packets that may carry frames to us: 17.2.3, "A 0-RTT packet is used to carry "early" data from the client to the server", so that none is for a client
abbrev pub reaches : Role → Kind → Bool
reaches Server kind = true
reaches Client kind = except_early kind

-- a frame that servers alone send (19.7, 19.20): in 1-RTT at a client, and never at a server
abbrev pub from_servers : Role → Kind → Bool
from_servers Server kind = false
from_servers Client kind = only_one_rtt kind

-- whether a packet of this kind may carry a frame of this type to us
unfoldable pub admitted : Role → Kind → ℕ → Bool
admitted role kind ty =
    -- nothing in 0-RTT at a client
    not (reaches role kind) ⇒ false
    -- PADDING, PING and CONNECTION_CLOSE 0x1c in all kinds
    ∣ eqb ty 0x00 ⇒ true
    ∣ eqb ty 0x01 ⇒ true
    ∣ eqb ty 0x1c ⇒ true
    -- ACK and CRYPTO in all but 0-RTT
    ∣ eqb ty 0x02 ⇒ except_early kind
    ∣ eqb ty 0x03 ⇒ except_early kind
    ∣ eqb ty 0x06 ⇒ except_early kind
    -- PATH_RESPONSE and RETIRE_CONNECTION_ID in 1-RTT
    ∣ eqb ty 0x1b ⇒ only_one_rtt kind
    ∣ eqb ty 0x19 ⇒ only_one_rtt kind
    -- NEW_TOKEN and HANDSHAKE_DONE are never admitted at a server, and in 1-RTT at a client
    ∣ eqb ty 0x07 ⇒ from_servers role kind
    ∣ eqb ty 0x1e ⇒ from_servers role kind
    -- all others in 0-RTT and 1-RTT
    ∣ early_or_one_rtt kind
