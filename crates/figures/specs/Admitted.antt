-- docs/RULES.md, "For a frame" in its order, and "Admission", every type in every kind of packet at either end: beside each, its sentence.
use Rattle.std.specs.Prelude.{ℕ, ◌≡◌, Bool, true, false, List, [], ◌∷◌, ◌++◌, map, replicate}
use Rattle.answers.specs.declared.Answer.TheVariants.{FrameEncoding, ProtocolViolation}
use Rattle.kinds.specs.declared.Kind.{Kind}
use Rattle.kinds.specs.declared.Kind.TheVariants.{Initial, Handshake, ZeroRtt, OneRtt}
use Rattle.kinds.specs.declared.Role.{Role}
use Rattle.kinds.specs.declared.Role.TheVariants.{Server}
use Rattle.frames.specs.declared.Frame.TheVariants.{Ping}
use Rattle.admission.specs.Admission.{admitted}
use Rattle.frames.specs.Reading.{frame_at, any_frame_at}
use Rattle.frames.specs.Said.{reading_says}
use Rattle.frames.specs.Fields.{read_as, refused_as}

abbrev pub kinds : List Kind
kinds = Initial ∷ Handshake ∷ ZeroRtt ∷ OneRtt ∷ []

-- the types of section 19
abbrev pub types : List ℕ
types =
    0x00 ∷ 0x01 ∷ 0x02 ∷ 0x03 ∷ 0x04 ∷ 0x05 ∷ 0x06 ∷ 0x07 ∷ 0x08 ∷ 0x09 ∷ 0x0a ∷ 0x0b ∷ 0x0c ∷ 0x0d ∷ 0x0e ∷ 0x0f
    ∷ 0x10 ∷ 0x11 ∷ 0x12 ∷ 0x13 ∷ 0x14 ∷ 0x15 ∷ 0x16 ∷ 0x17 ∷ 0x18 ∷ 0x19 ∷ 0x1a ∷ 0x1b ∷ 0x1c ∷ 0x1d ∷ 0x1e ∷ []

-- in Initial, Handshake, 0-RTT and 1-RTT
abbrev pub row : {A : Type 0} → A → A → A → A → List A
row a b c d = a ∷ b ∷ c ∷ d ∷ []

abbrev pub all : List Bool
all = row true true true true

abbrev pub except_early : List Bool
except_early = row true true false true

abbrev pub early : List Bool
early = row false false true true

abbrev pub late : List Bool
late = row false false false true

abbrev pub never : List Bool
never = row false false false false

-- the number that a payload gets in each kind of packet
abbrev pub answers : Role → List ℕ → List ℕ
answers role s = map (λ kind. (reading_says (frame_at role s 0 kind)).number) kinds

-- the rule, a row for each type
abbrev pub rows : Role → List (List Bool)
rows role = map (λ ty. map (λ kind. admitted role kind ty) kinds) types

pub record Admitted : Type 0 where
  -- "PADDING, PING and CONNECTION_CLOSE 0x1c in all four kinds; ACK and CRYPTO in all but 0-RTT; PATH_RESPONSE and RETIRE_CONNECTION_ID in 1-RTT; all others in 0-RTT and 1-RTT. NEW_TOKEN and HANDSHAKE_DONE are never admitted at a server"
  pub table : rows Server
      ≡ all ∷ all ∷ except_early ∷ except_early ∷ early ∷ early ∷ except_early ∷ never ∷ (replicate 8 early
      ++ (early ∷ early ∷ early ∷ early ∷ early ∷ early ∷ early ∷ early ∷ early ∷ late ∷ early ∷ late ∷ all ∷ early ∷ never ∷ []))
  -- the same on payloads that are a type and nothing else: 10 where it is not admitted, "admitted [..] (10), fields (7)"; PADDING and PING have no fields
  pub alone : map (λ ty. answers Server (ty ∷ [])) types
      ≡ row 0 0 0 0 ∷ row 0 0 0 0 ∷ row 7 7 10 7 ∷ row 7 7 10 7 ∷ row 10 10 7 7 ∷ row 10 10 7 7 ∷ row 7 7 10 7 ∷ row 10 10 10 10 ∷ (replicate 17 (row 10 10 7 7)
      ++ (row 10 10 10 7 ∷ row 10 10 7 7 ∷ row 10 10 10 7 ∷ row 7 7 7 7 ∷ row 10 10 7 7 ∷ row 10 10 10 10 ∷ []))
  -- "type readable (7)": no byte, a type cut short, a place outside; "type 0 if none was read"
  pub unreadable : map (λ s. frame_at Server s 0 OneRtt) ([] ∷ (0x40 ∷ []) ∷ (0xc0 ∷ 0 ∷ 0 ∷ 0 ∷ 0 ∷ 0 ∷ 0 ∷ []) ∷ []) ≡ refused_as FrameEncoding 0 ∷ refused_as FrameEncoding 0 ∷ refused_as FrameEncoding 0 ∷ []
  pub outside : frame_at Server (1 ∷ []) 5 OneRtt ≡ refused_as FrameEncoding 0
  -- "shortest (10)": PING in one, two, four and eight bytes
  pub shortest : map (λ s. frame_at Server s 0 OneRtt) ((1 ∷ []) ∷ (0x40 ∷ 1 ∷ []) ∷ (0x80 ∷ 0 ∷ 0 ∷ 1 ∷ []) ∷ (0xc0 ∷ 0 ∷ 0 ∷ 0 ∷ 0 ∷ 0 ∷ 0 ∷ 1 ∷ []) ∷ [])
      ≡ read_as Ping 1 1 ∷ refused_as ProtocolViolation 1 ∷ refused_as ProtocolViolation 1 ∷ refused_as ProtocolViolation 1 ∷ []
  -- "known (7)", after "shortest": 0x1e and 0x1f; 40 21 is 0x21 and not in shortest form, 40 40 is 0x40 and is
  pub unknown : map (λ s. any_frame_at s 0) ((0x1f ∷ []) ∷ (0x3f ∷ []) ∷ (0x40 ∷ 0x21 ∷ []) ∷ (0x40 ∷ 0x40 ∷ []) ∷ []) ≡ refused_as FrameEncoding 0x1f ∷ refused_as FrameEncoding 0x3f ∷ refused_as ProtocolViolation 0x21 ∷ refused_as FrameEncoding 0x40 ∷ []
  -- .. before admission: in every kind of packet
  pub unknown_anywhere : map (answers Server) ((0x1f ∷ []) ∷ (0x40 ∷ 0x40 ∷ []) ∷ (0x40 ∷ 0x21 ∷ []) ∷ (0x40 ∷ 0x1e ∷ []) ∷ []) ≡ row 7 7 7 7 ∷ row 7 7 7 7 ∷ row 10 10 10 10 ∷ row 10 10 10 10 ∷ []
  -- "admitted in this packet kind and role (10), fields (7)": a torn ACK in 0-RTT, a torn CONNECTION_CLOSE 0x1d in Initial, a torn and an empty NEW_TOKEN; the ACK and the CONNECTION_CLOSE where they are admitted
  pub before_fields : frame_at Server (0x02 ∷ 9 ∷ []) 0 ZeroRtt ∷ frame_at Server (0x02 ∷ 9 ∷ []) 0 OneRtt ∷ frame_at Server (0x1d ∷ 9 ∷ []) 0 Initial ∷ frame_at Server (0x1d ∷ 9 ∷ []) 0 ZeroRtt ∷ frame_at Server (0x07 ∷ 9 ∷ []) 0 OneRtt ∷ frame_at Server (0x07 ∷ 0 ∷ []) 0 OneRtt ∷ []
      ≡ refused_as ProtocolViolation 0x02 ∷ refused_as FrameEncoding 0x02 ∷ refused_as ProtocolViolation 0x1d ∷ refused_as FrameEncoding 0x1d ∷ refused_as ProtocolViolation 0x07 ∷ refused_as ProtocolViolation 0x07 ∷ []
