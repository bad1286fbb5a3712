-- Records that fit do so each: the test is one of all three.
-- Assumes nothing.
use mathlib.Core.Path.{◌≡◌}
use mathlib.Core.Bool.{true, ◌&&◌, and-eq-true_iff}
use Rattle.records.specs.Marks.{sound_of}
use Rattle.kinds.specs.declared.Space.{Space}
use Rattle.kinds.specs.declared.Space.TheVariants.{Initial, Handshake, Application}
use Rattle.spaces.specs.declared.Records.{Records}
use Rattle.spaces.specs.Spaces.{record_of, records_fit}

module _ (rs : Records) where
  pub each : records_fit rs ≡ true → (space : Space) → sound_of (record_of rs space) ≡ true
  unfolding records_fit
  each e =
      let a = (and-eq-true_iff (sound_of rs.initial) (sound_of rs.handshake && sound_of rs.application)).0 e in
      let b = (and-eq-true_iff (sound_of rs.handshake) (sound_of rs.application)).0 a.1 in
      in_turn a.0 b.0 b.1
    where
      in_turn : sound_of rs.initial ≡ true → sound_of rs.handshake ≡ true → sound_of rs.application ≡ true → (space : Space) → sound_of (record_of rs space) ≡ true
      in_turn i h a Initial = i
      in_turn i h a Handshake = h
      in_turn i h a Application = a
