-- Admission by the packet, as RFC 9000, 12.5 reads it, where docs/RULES.md reads it by the frame; and RETIRE_CONNECTION_ID, of which 12.5 says other than Table 3: 12.5 decides.
use Rattle.std.specs.Prelude.{ℕ, ◌+◌, ◌≡◌, Bool, true, false, not, List, [], ◌∷◌, ◌++◌, map, eqb, replicate, set, Some, Result}
use Rattle.answers.specs.Choice.{◌⇒◌∣◌}
use Rattle.answers.specs.declared.Answer.TheVariants.{FrameEncoding, ProtocolViolation}
use Rattle.wire.specs.Number.{number_at}
use Rattle.kinds.specs.declared.Kind.{Kind}
use Rattle.kinds.specs.declared.Kind.TheVariants.{Initial, Handshake, ZeroRtt, OneRtt}
use Rattle.kinds.specs.declared.Role.{Role}
use Rattle.kinds.specs.declared.Role.TheVariants.{Server}
use Rattle.frames.specs.declared.Frame.TheVariants.{NewConnectionId, RetireConnectionId}
use Rattle.frames.specs.declared.Reading.{Reading}
use Rattle.admission.specs.Admission.{admitted}
use Rattle.frames.specs.Reading.{frame_at, any_frame_at}
use Rattle.figures.specs.Faults.{identity}
use Rattle.figures.specs.Admitted.{kinds, types, row, all, except_early, early, late, never, answers, rows}
use Rattle.frames.specs.Fields.{read_as, refused_as}
use Rattle.fields.specs.declared.Refusal.{Refusal}

-- the column Pkts of Table 3: IH01, IH_1, __01, ___1; the "ih" of CONNECTION_CLOSE is 0x1c alone
abbrev pub table3 : List (List Bool)
table3 =
    all ∷ all ∷ except_early ∷ except_early ∷ early ∷ early ∷ except_early ∷ late ∷ (replicate 8 early
    ++ (replicate 11 early ++ (late ∷ all ∷ early ∷ late ∷ [])))

-- PADDING, PING, ACK, CRYPTO and CONNECTION_CLOSE 0x1c
abbrev pub any_space : List ℕ
any_space = 0x00 ∷ 0x01 ∷ 0x02 ∷ 0x03 ∷ 0x06 ∷ 0x1c ∷ []

-- ACK, CRYPTO, HANDSHAKE_DONE, NEW_TOKEN, PATH_RESPONSE and RETIRE_CONNECTION_ID
abbrev pub not_early : List ℕ
not_early = 0x02 ∷ 0x03 ∷ 0x06 ∷ 0x1e ∷ 0x07 ∷ 0x1b ∷ 0x19 ∷ []

-- NEW_TOKEN and HANDSHAKE_DONE
abbrev pub from_servers : List ℕ
from_servers = 0x07 ∷ 0x1e ∷ []

abbrev pub column : Role → Kind → List Bool
column role kind = map (admitted role kind) types

-- whether a type is on a list
unfoldable pub is_on : List ℕ → ℕ → Bool
is_on [] ty = false
is_on (t ∷ l) ty = eqb t ty ⇒ true ∣ is_on l ty

-- which types are on a list
abbrev pub on : List ℕ → List Bool
on l = map (is_on l) types

-- a whole NEW_CONNECTION_ID: sequence number 3, an ID of one byte
abbrev pub whole : List ℕ
whole = identity 3 0 1 17

-- what is read in each kind of packet
abbrev pub readings : Role → List ℕ → List (Result Reading Refusal)
readings role s = map (frame_at role s 0) kinds

-- 10, with this type
abbrev pub refused : ℕ → Result Reading Refusal
refused = refused_as ProtocolViolation

pub record ByKind : Type 0 where
  -- "PADDING, PING, and CRYPTO frames MAY appear in any packet number space", CONNECTION_CLOSE 0x1c and ACK too; "All other frame types MUST only be sent in the application data packet number space"
  pub in_initial : column Server Initial ≡ on any_space
  pub in_handshake : column Server Handshake ≡ on any_space
  -- "it is not possible to send the following frames in 0-RTT packets for various reasons: ACK, CRYPTO, HANDSHAKE_DONE, NEW_TOKEN, PATH_RESPONSE, and RETIRE_CONNECTION_ID"
  pub in_early : column Server ZeroRtt ≡ map not (on not_early)
  -- 12.4: "all frames can appear in 1-RTT packets"; two come from servers alone (19.7, 19.20)
  pub in_late : column Server OneRtt ≡ map not (on from_servers)
  -- all else is Table 3: three rows differ, the last in its 0-RTT entry alone
  pub table_3 : rows Server ≡ set (set (set table3 0x07 never) 0x1e never) 0x19 late
  -- RETIRE_CONNECTION_ID whole, cut short in its field, with none, and padded; "admitted [..] (10), fields (7)", "shortest (10)"
  pub retire_whole : readings Server (0x19 ∷ 5 ∷ []) ≡ row (refused 0x19) (refused 0x19) (refused 0x19) (read_as (RetireConnectionId 5) 0x19 2)
  pub retire_torn : map (readings Server) ((0x19 ∷ 0x41 ∷ []) ∷ (0x19 ∷ []) ∷ []) ≡ replicate 2 (row (refused 0x19) (refused 0x19) (refused 0x19) (refused_as FrameEncoding 0x19))
  pub retire_padded : readings Server (0x40 ∷ 0x19 ∷ 5 ∷ []) ≡ replicate 4 (refused 0x19)
  -- its neighbour NEW_CONNECTION_ID whole; cut short in its fields, and with none; PATH_CHALLENGE, its neighbour above, whole and cut short
  pub identity_whole : readings Server whole ≡ row (refused 0x18) (refused 0x18) (read_as (NewConnectionId 3 0 4 1 5) 0x18 21) (read_as (NewConnectionId 3 0 4 1 5) 0x18 21)
  pub neighbours : map (answers Server) ((0x18 ∷ 3 ∷ []) ∷ (0x18 ∷ []) ∷ (0x1a ∷ replicate 8 5) ∷ (0x1a ∷ replicate 7 5) ∷ []) ≡ row 10 10 7 7 ∷ row 10 10 7 7 ∷ row 10 10 0 0 ∷ row 10 10 7 7 ∷ []
  -- at either end, at any place of any payload: 10 in 0-RTT whatever stands behind the type; in 1-RTT it is read as it stands
  pub retire_early : (role : Role) (s : List ℕ) (at : ℕ) → number_at s at ≡ Some (0x19, at + 1) → frame_at role s at ZeroRtt ≡ refused 0x19
  pub retire_late : (role : Role) (s : List ℕ) (at : ℕ) → number_at s at ≡ Some (0x19, at + 1) → frame_at role s at OneRtt ≡ any_frame_at s at
