-- What a match leaves for `_`: the frames that ask nothing of the streams, and those that look at no entry.
-- Assumes nothing.
use Prim.Native.Nat.{ℕ}
use mathlib.Core.Path.{◌≡◌, refl}
use mathlib.Core.Bool.{Bool}
use mathlib.Core.List.{List, [], ◌∷◌}
use denote.Enum.Declared.{tag_of}
use types.Run.{OneOf, miss}
use Rattle.kinds.specs.declared.Kind.{Kind}
use Rattle.kinds.specs.declared.Role.{Role}
use Rattle.frames.specs.declared.Frame.{Frame}
use Rattle.frames.specs.declared.Frame.TheVariants.{Padding, Ping, Ack, AckEcn, ResetStream, StopSending, Crypto, NewToken, Stream, MaxData, MaxStreamData, MaxStreams, DataBlocked, StreamDataBlocked, StreamsBlocked, NewConnectionId, RetireConnectionId, PathChallenge, PathResponse, ConnectionClose, ApplicationClose, HandshakeDone}
use Rattle.frames.specs.contracts.Frame as frame
use Rattle.halves.specs.Stream.{place_of}
use Rattle.views.specs.View.{view_of, frame_place}
use Rattle.rules.specs.declared.View.{View}
use Rattle.rules.specs.declared.View.TheVariants.{Ends, Blocks, ForSender, Acks, Closes, Nothing}
use Rattle.rules.specs.contracts.View as view

-- what a match that names these frames leaves asks nothing
pub plain : (role : Role) (kind : Kind) (f : Frame)
    → ((x0 x1 x2 x3 x4 : ℕ) → f ≡ Ack x0 x1 x2 x3 x4 → ⊥)
    → ((x0 x1 x2 x3 x4 x5 x6 x7 : ℕ) → f ≡ AckEcn x0 x1 x2 x3 x4 x5 x6 x7 → ⊥)
    → ((x0 x1 x2 : ℕ) → f ≡ ResetStream x0 x1 x2 → ⊥)
    → ((x0 x1 : ℕ) → f ≡ StopSending x0 x1 → ⊥)
    → ((x0 x1 : ℕ) (x2 : Bool) (x3 x4 : ℕ) → f ≡ Stream x0 x1 x2 x3 x4 → ⊥)
    → ((x0 x1 : ℕ) → f ≡ MaxStreamData x0 x1 → ⊥)
    → ((x0 x1 : ℕ) → f ≡ StreamDataBlocked x0 x1 → ⊥)
    → ((x0 x1 x2 x3 : ℕ) → f ≡ ConnectionClose x0 x1 x2 x3 → ⊥)
    → ((x0 x1 x2 : ℕ) → f ≡ ApplicationClose x0 x1 x2 → ⊥)
    → Nothing ≡ view_of role kind f
plain role kind Padding a b d e g h i j k = refl
plain role kind Ping a b d e g h i j k = refl
plain role kind (Ack x0 x1 x2 x3 x4) a b d e g h i j k = absurd (a x0 x1 x2 x3 x4 refl)
plain role kind (AckEcn x0 x1 x2 x3 x4 x5 x6 x7) a b d e g h i j k = absurd (b x0 x1 x2 x3 x4 x5 x6 x7 refl)
plain role kind (ResetStream x0 x1 x2) a b d e g h i j k = absurd (d x0 x1 x2 refl)
plain role kind (StopSending x0 x1) a b d e g h i j k = absurd (e x0 x1 refl)
plain role kind (Crypto x0 x1 x2) a b d e g h i j k = refl
plain role kind (NewToken x0 x1) a b d e g h i j k = refl
plain role kind (Stream x0 x1 x2 x3 x4) a b d e g h i j k = absurd (g x0 x1 x2 x3 x4 refl)
plain role kind (MaxData x0) a b d e g h i j k = refl
plain role kind (MaxStreamData x0 x1) a b d e g h i j k = absurd (h x0 x1 refl)
plain role kind (MaxStreams x0 x1) a b d e g h i j k = refl
plain role kind (DataBlocked x0) a b d e g h i j k = refl
plain role kind (StreamDataBlocked x0 x1) a b d e g h i j k = absurd (i x0 x1 refl)
plain role kind (StreamsBlocked x0 x1) a b d e g h i j k = refl
plain role kind (NewConnectionId x0 x1 x2 x3 x4) a b d e g h i j k = refl
plain role kind (RetireConnectionId x0) a b d e g h i j k = refl
plain role kind (PathChallenge x0) a b d e g h i j k = refl
plain role kind (PathResponse x0) a b d e g h i j k = refl
plain role kind (ConnectionClose x0 x1 x2 x3) a b d e g h i j k = absurd (j x0 x1 x2 x3 refl)
plain role kind (ApplicationClose x0 x1 x2) a b d e g h i j k = absurd (k x0 x1 x2 refl)
plain role kind HandshakeDone a b d e g h i j k = refl

-- the tags of all but `Ends`
abbrev endless : List ℕ
endless = 1 ∷ 2 ∷ 3 ∷ 4 ∷ 5 ∷ []

pub elsewhere : (v : View) → OneOf endless (tag_of view.the_type v) → place_of 0 ≡ frame_place v
elsewhere v = elim v as (λ (k : View). OneOf endless (tag_of view.the_type k) → place_of 0 ≡ frame_place k) [
  | Ends id end fin ↦ λ o. absurd (miss endless 0 tt o)
  | Blocks id ↦ λ o. refl
  | ForSender id ↦ λ o. refl
  | Acks space largest ↦ λ o. refl
  | Closes ↦ λ o. refl
  | Nothing ↦ λ o. refl
]
