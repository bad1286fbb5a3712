-- What each of the 22 frames asks of the streams, with values that all differ, whatever packet carries it; and at which entry of the table it looks. docs/RULES.md, "Streams and credit".
use Rattle.std.specs.Prelude.{ℕ, ◌-◌, ◌^◌, ◌≡◌, true, false, [], ◌∷◌, map}
use Rattle.kinds.specs.declared.Role.TheVariants.{Server}
use Rattle.kinds.specs.declared.Kind.{Kind}
use Rattle.kinds.specs.declared.Kind.TheVariants.{Initial as Initial', Handshake as Handshake', ZeroRtt, OneRtt}
use Rattle.frames.specs.declared.Frame.TheVariants as Frame'
use Rattle.halves.specs.declared.Stream.{Stream}
use Rattle.halves.specs.Stream.{stream_of, id_of, place_of}
use Rattle.kinds.specs.declared.Space.TheVariants.{Initial, Handshake, Application}
use Rattle.rules.specs.declared.View.TheVariants.{Ends, Blocks, ForSender, Acks, Closes, Nothing}
use Rattle.views.specs.View.{end_of, view_of, stream_in, frame_place}

-- a stream by its type and ordinal
abbrev pub named : ℕ → ℕ → Stream
named ty ordinal = record { half = ty; ordinal = ordinal }

pub record Asked : Type 0 where
  -- "STREAM with end = offset + length", with FIN and without; "RESET_STREAM: [..] its final size taken as an end with FIN"
  pub ends : (kind : Kind) → map (view_of Server kind) (Frame'.Stream 3 5 true 8 11 ∷ Frame'.Stream 3 5 false 8 11 ∷ Frame'.ResetStream 3 5 8 ∷ []) ≡ Ends 3 16 true ∷ Ends 3 16 false ∷ Ends 3 8 true ∷ []
  -- STREAM_DATA_BLOCKED; STOP_SENDING and MAX_STREAM_DATA
  pub without_end : (kind : Kind) → map (view_of Server kind) (Frame'.StreamDataBlocked 3 5 ∷ Frame'.StopSending 3 5 ∷ Frame'.MaxStreamData 3 5 ∷ []) ≡ Blocks 3 ∷ ForSender 3 ∷ ForSender 3 ∷ []
  -- an ACK in its space: "Three spaces: Initial, Handshake, and one for 0-RTT with 1-RTT"
  pub acknowledges : map (λ kind. view_of Server kind (Frame'.Ack 3 5 8 11 14)) (Initial' ∷ Handshake' ∷ ZeroRtt ∷ OneRtt ∷ []) ≡ Acks Initial 3 ∷ Acks Handshake 3 ∷ Acks Application 3 ∷ Acks Application 3 ∷ []
  pub acknowledges_counts : map (λ kind. view_of Server kind (Frame'.AckEcn 3 5 8 11 14 17 20 23)) (Initial' ∷ Handshake' ∷ ZeroRtt ∷ OneRtt ∷ []) ≡ Acks Initial 3 ∷ Acks Handshake 3 ∷ Acks Application 3 ∷ Acks Application 3 ∷ []
  -- CONNECTION_CLOSE of both types
  pub closes : (kind : Kind) → map (view_of Server kind) (Frame'.ConnectionClose 3 5 8 11 ∷ Frame'.ApplicationClose 3 5 8 ∷ []) ≡ Closes ∷ Closes ∷ []
  -- the other thirteen ask nothing
  pub others : (kind : Kind) → map (view_of Server kind) (Frame'.Padding ∷ Frame'.Ping ∷ Frame'.Crypto 3 5 8 ∷ Frame'.NewToken 3 5 ∷ Frame'.MaxData 3 ∷ Frame'.MaxStreams false 3 ∷ Frame'.MaxStreams true 3 ∷ Frame'.DataBlocked 3 ∷ Frame'.StreamsBlocked false 3 ∷ Frame'.StreamsBlocked true 3 ∷ Frame'.NewConnectionId 3 5 8 11 14 ∷ Frame'.RetireConnectionId 3 ∷ Frame'.PathChallenge 3 ∷ Frame'.PathResponse 3 ∷ Frame'.HandshakeDone ∷ [])
      ≡ Nothing ∷ Nothing ∷ Nothing ∷ Nothing ∷ Nothing ∷ Nothing ∷ Nothing ∷ Nothing ∷ Nothing ∷ Nothing ∷ Nothing ∷ Nothing ∷ Nothing ∷ Nothing ∷ Nothing ∷ []
  -- offset plus length as far as 64 bits hold it
  pub end_sums : end_of 0 0 ≡ 0
  pub end_highest : end_of (2 ^ 62 - 2) 1 ≡ 2 ^ 62 - 1
  pub end_next : end_of (2 ^ 62 - 1) 1 ≡ 2 ^ 62
  pub end_long : end_of (2 ^ 64 - 3) 1 ≡ 2 ^ 64 - 2
  pub end_longest : end_of (2 ^ 64 - 2) 1 ≡ 2 ^ 64 - 1
  pub end_no_length : end_of (2 ^ 64 - 1) 0 ≡ 2 ^ 64 - 1
  pub end_above : end_of (2 ^ 64 - 1) 1 ≡ 2 ^ 64 - 1
  pub end_far_above : end_of (2 ^ 64 - 1) (2 ^ 64 - 1) ≡ 2 ^ 64 - 1
  -- "Type is ID mod 4, ordinal ID div 4", and back
  pub streams : map stream_of (0 ∷ 1 ∷ 2 ∷ 3 ∷ 4 ∷ 7 ∷ 254 ∷ (2 ^ 62 - 1) ∷ []) ≡ named 0 0 ∷ named 1 0 ∷ named 2 0 ∷ named 3 0 ∷ named 0 1 ∷ named 3 1 ∷ named 2 63 ∷ named 3 (2 ^ 60 - 1) ∷ []
  pub ids : map (id_of 0) (0 ∷ 1 ∷ 63 ∷ (2 ^ 60 - 1) ∷ (2 ^ 60) ∷ []) ≡ 0 ∷ 4 ∷ 252 ∷ (2 ^ 62 - 4) ∷ 0 ∷ []
  pub ids_first : map (λ ty. id_of ty 0) (0 ∷ 1 ∷ 2 ∷ 3 ∷ 4 ∷ []) ≡ 0 ∷ 1 ∷ 2 ∷ 3 ∷ 0 ∷ []
  -- "192 entries [..]: ordinals 0 to 63 of types 0 (client, two-way), 1 (server, two-way) and 2 (client, one-way)": the first and the last of each
  pub places : map place_of (0 ∷ 4 ∷ 252 ∷ 1 ∷ 5 ∷ 253 ∷ 2 ∷ 6 ∷ 254 ∷ []) ≡ 0 ∷ 1 ∷ 63 ∷ 64 ∷ 65 ∷ 127 ∷ 128 ∷ 129 ∷ 191 ∷ []
  -- those that have none
  pub placeless : map place_of (256 ∷ 257 ∷ 258 ∷ 3 ∷ 7 ∷ 255 ∷ (2 ^ 62 - 2) ∷ (2 ^ 62 - 1) ∷ []) ≡ 0 ∷ 0 ∷ 0 ∷ 0 ∷ 0 ∷ 0 ∷ 0 ∷ 0 ∷ []
  -- a frame looks at its stream's entry where it names an end, and else leaves all
  pub looks_at : map stream_in (Ends 5 9 true ∷ Ends 3 9 false ∷ Blocks 5 ∷ ForSender 5 ∷ Acks Application 5 ∷ Closes ∷ Nothing ∷ []) ≡ 5 ∷ 3 ∷ 0 ∷ 0 ∷ 0 ∷ 0 ∷ 0 ∷ []
  pub looks_at_place : map frame_place (Ends 5 9 true ∷ Ends 254 9 false ∷ Ends 3 9 false ∷ Blocks 5 ∷ ForSender 5 ∷ Acks Application 5 ∷ Closes ∷ Nothing ∷ []) ≡ 65 ∷ 191 ∷ 0 ∷ 0 ∷ 0 ∷ 0 ∷ 0 ∷ 0 ∷ []
