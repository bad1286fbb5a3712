-- What a match on the kinds of packets leaves over: 0-RTT and 1-RTT, which share a space.
-- Assumes nothing.
use mathlib.Core.Path.{◌≡◌, refl}
use Rattle.kinds.specs.declared.Kind.{Kind}
use Rattle.kinds.specs.declared.Kind.TheVariants.{Initial, Handshake, ZeroRtt, OneRtt}
use Rattle.kinds.specs.Kinds.{space_of}
use Rattle.kinds.specs.declared.Space.TheVariants.{Application}

pub shared : (k : Kind) → (k ≡ Initial → ⊥) → (k ≡ Handshake → ⊥) → space_of k ≡ Application
shared Initial f g = absurd (f refl)
shared Handshake f g = absurd (g refl)
shared ZeroRtt f g = refl
shared OneRtt f g = refl
