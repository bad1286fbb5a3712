-- Where a header's parts lie: one after the other, none overlapping another, all within the rest; and the packet has bytes, so that splitting ends.
use Rattle.std.specs.Prelude.{◌≡◌, Bool, true, false, ℕ, ◌+◌, ◌≤◌, ◌<◌, List, length, Result, Ok, Err}
use Rattle.answers.specs.declared.Answer.TheVariants.{NoPacket}
use Rattle.invariants.specs.Invariant.{after}
use Rattle.datagram.specs.declared.Kind.{Kind}
use Rattle.datagram.specs.declared.Kind.TheVariants.{Initial, ZeroRtt, Handshake, Retry, OneRtt, VersionNegotiation, OtherVersion}
use Rattle.datagram.specs.declared.Header.{Header}
use Rattle.answers.specs.declared.Answer.{Answer}

-- the kinds that have a packet number
abbrev pub numbered : Kind → Bool
numbered Initial = true
numbered ZeroRtt = true
numbered Handshake = true
numbered Retry = false
numbered OneRtt = true
numbered VersionNegotiation = false
numbered OtherVersion = false

pub record Inside (s : List ℕ) (h : Header) : Type 0 where
  pub first : 0 < h.destination.at
  pub ids : after h.destination ≤ h.source.at
  pub token : after h.source ≤ h.token.at
  pub number : after h.token ≤ h.number
  pub end : h.number ≤ h.end
  pub within : h.end ≤ length s
  -- room for a sample of 16 bytes, 4 after the number's place (RFC 9001, 5.4.2)
  pub sample : numbered h.kind ≡ true → h.number + 20 ≤ h.end

-- a packet that lies inside, or 110
pub data Fine (s : List ℕ) : Result Header Answer → Type 0 where
  packet : (h : Header) → Inside s h → Fine s (Ok h)
  none : Fine s (Err NoPacket)
