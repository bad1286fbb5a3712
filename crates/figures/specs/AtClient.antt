-- Admission at a client, docs/RULES.md, "Admission": NEW_TOKEN and HANDSHAKE_DONE in 1-RTT, nothing in 0-RTT, all else as at a server; and before it what comes first at either end.
use Rattle.std.specs.Prelude.{ℕ, ◌≡◌, Bool, true, false, List, [], ◌∷◌, ◌++◌, map, eqb, replicate, Some}
use Rattle.answers.specs.declared.Answer.TheVariants.{FrameEncoding}
use Rattle.wire.specs.Number.{number_at, shortest}
use Rattle.layouts.specs.Layout.{known}
use Rattle.kinds.specs.declared.Kind.{Kind}
use Rattle.kinds.specs.declared.Kind.TheVariants.{Initial, Handshake, ZeroRtt, OneRtt}
use Rattle.kinds.specs.declared.Role.TheVariants.{Server, Client}
use Rattle.frames.specs.declared.Frame.TheVariants.{Padding, NewToken, HandshakeDone}
use Rattle.admission.specs.Admission.{except_early, admitted}
use Rattle.frames.specs.Reading.{frame_at}
use Rattle.figures.specs.Admitted as admission
use Rattle.figures.specs.Admitted.{row, late, answers, rows}
use Rattle.figures.specs.ByKind.{column, readings, refused}
use Rattle.frames.specs.Fields.{read_as, refused_as}

-- in all kinds but 0-RTT
abbrev pub all : List Bool
all = admission.except_early

pub record AtClient : Type 0 where
  -- type by type: those of "all four kinds" and of "all but 0-RTT" in Initial, Handshake and 1-RTT, all others in 1-RTT
  pub table : rows Client
      ≡ all ∷ all ∷ all ∷ all ∷ late ∷ late ∷ all ∷ late ∷ (replicate 8 late ++ (replicate 12 late ++ (all ∷ late ∷ late ∷ [])))
  -- "all else as for a server's Initial, Handshake and 1-RTT"
  pub in_initial : column Client Initial ≡ column Server Initial
  pub in_handshake : column Client Handshake ≡ column Server Handshake
  -- "nothing in 0-RTT"; 12.4: "all frames can appear in 1-RTT packets"
  pub in_early : column Client ZeroRtt ≡ replicate 31 false
  pub in_late : column Client OneRtt ≡ replicate 31 true
  -- a type and nothing else: 10 where it is not admitted, 7 where it is and its fields are not there; PADDING, PING and HANDSHAKE_DONE have none
  pub alone : map (λ ty. answers Client (ty ∷ [])) admission.types
      ≡ row 0 0 10 0 ∷ row 0 0 10 0 ∷ row 7 7 10 7 ∷ row 7 7 10 7 ∷ row 10 10 10 7 ∷ row 10 10 10 7 ∷ row 7 7 10 7 ∷ row 10 10 10 7
      ∷ (replicate 20 (row 10 10 10 7) ++ (row 7 7 10 7 ∷ row 10 10 10 7 ∷ row 10 10 10 0 ∷ []))
  -- NEW_TOKEN whole, with an empty token, cut short, and padded
  pub token : readings Client (0x07 ∷ 2 ∷ 9 ∷ 9 ∷ []) ≡ row (refused 0x07) (refused 0x07) (refused 0x07) (read_as (NewToken 2 2) 0x07 4)
  pub token_empty : readings Client (0x07 ∷ 0 ∷ []) ≡ row (refused 0x07) (refused 0x07) (refused 0x07) (refused_as FrameEncoding 0x07)
  pub token_torn : readings Client (0x07 ∷ 2 ∷ 9 ∷ []) ≡ row (refused 0x07) (refused 0x07) (refused 0x07) (refused_as FrameEncoding 0x07)
  pub token_padded : readings Client (0x40 ∷ 0x07 ∷ 1 ∷ 9 ∷ []) ≡ replicate 4 (refused 0x07)
  -- HANDSHAKE_DONE, and padded
  pub done : readings Client (0x1e ∷ []) ≡ row (refused 0x1e) (refused 0x1e) (refused 0x1e) (read_as HandshakeDone 0x1e 1)
  pub done_padded : readings Client (0x40 ∷ 0x1e ∷ []) ≡ replicate 4 (refused 0x1e)
  -- neither at a server, whatever their fields
  pub not_at_servers : map (answers Server) ((0x07 ∷ 2 ∷ 9 ∷ 9 ∷ []) ∷ (0x07 ∷ 0 ∷ []) ∷ (0x1e ∷ []) ∷ []) ≡ replicate 3 (row 10 10 10 10)
  -- PADDING in 0-RTT
  pub padding : readings Client (0x00 ∷ []) ≡ row (read_as Padding 0 1) (read_as Padding 0 1) (refused 0x00) (read_as Padding 0 1)
  pub padding_server : readings Server (0x00 ∷ []) ≡ replicate 4 (read_as Padding 0 1)
  -- "7 for an unknown and 10 for a padded type stay before"; a type that cannot be read is 7
  pub before_admission : map (answers Client) ((0x1f ∷ []) ∷ (0x40 ∷ 0x40 ∷ []) ∷ (0x40 ∷ 0x00 ∷ []) ∷ (0x40 ∷ 0x21 ∷ []) ∷ [] ∷ (0x40 ∷ []) ∷ [])
      ≡ row 7 7 7 7 ∷ row 7 7 7 7 ∷ row 10 10 10 10 ∷ row 10 10 10 10 ∷ row 7 7 7 7 ∷ row 7 7 7 7 ∷ []
  -- at any place of any payload: 10 in 0-RTT for every type that is known and in its shortest form, whatever stands behind it
  pub nothing_early : (s : List ℕ) (at ty next : ℕ) → number_at s at ≡ Some (ty, next) → shortest at ty next ≡ true → known ty ≡ true → frame_at Client s at ZeroRtt ≡ refused ty
  -- every other type in every other packet is admitted at both ends or at none, and is then read alike
  pub as_at_servers : (kind : Kind) (ty : ℕ) → except_early kind ≡ true → eqb ty 0x07 ≡ false → eqb ty 0x1e ≡ false → admitted Client kind ty ≡ admitted Server kind ty
  pub read_alike : (s : List ℕ) (at : ℕ) (kind : Kind) (ty next : ℕ) → number_at s at ≡ Some (ty, next) → admitted Client kind ty ≡ admitted Server kind ty → frame_at Client s at kind ≡ frame_at Server s at kind
