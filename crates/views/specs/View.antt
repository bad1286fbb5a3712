-- What a frame asks of the streams, and which entry of the table it looks at.
use Rattle.std.specs.Prelude.{ℕ, ◌+◌, ◌-◌, ◌^◌, true, ltb}
use Rattle.answers.specs.Choice.{◌⇒◌∣◌}
use Rattle.kinds.specs.declared.Kind.{Kind}
use Rattle.kinds.specs.declared.Role.{Role}
use Rattle.frames.specs.declared.Frame.{Frame}
use Rattle.frames.specs.declared.Frame.TheVariants as Frame'
use Rattle.halves.specs.Seat.{seated_of}
use Rattle.halves.specs.Stream.{place_of}
use Rattle.kinds.specs.Kinds.{space_of}
use Rattle.rules.specs.declared.View.{View}
use Rattle.rules.specs.declared.View.TheVariants.{Ends, Blocks, ForSender, Acks, Closes, Nothing}

-- offset plus length, as far as 64 bits hold it: a frame that was read has no end above 2^62-1
unfoldable pub end_of : ℕ → ℕ → ℕ
end_of offset len =
    ltb (2 ^ 64 - 1) (offset + len) ⇒ 2 ^ 64 - 1
    ∣ offset + len

-- what a frame asks of the streams, each by the ID that it has at a server: an end with or without FIN; a stream that is blocked, or for whose sender, us, something is said; an acknowledgement; the connection's end; or nothing
abbrev pub view_of : Role → Kind → Frame → View
view_of role kind Frame'.Padding = Nothing
view_of role kind Frame'.Ping = Nothing
view_of role kind (Frame'.Ack largest delay count first at) = Acks (space_of kind) largest
view_of role kind (Frame'.AckEcn largest delay count first at ect0 ect1 ce) = Acks (space_of kind) largest
view_of role kind (Frame'.ResetStream id code size) = Ends (seated_of role id) size true
view_of role kind (Frame'.StopSending id code) = ForSender (seated_of role id)
view_of role kind (Frame'.Crypto offset at len) = Nothing
view_of role kind (Frame'.NewToken at len) = Nothing
view_of role kind (Frame'.Stream id offset fin at len) = Ends (seated_of role id) (end_of offset len) fin
view_of role kind (Frame'.MaxData maximum) = Nothing
view_of role kind (Frame'.MaxStreamData id maximum) = ForSender (seated_of role id)
view_of role kind (Frame'.MaxStreams uni maximum) = Nothing
view_of role kind (Frame'.DataBlocked maximum) = Nothing
view_of role kind (Frame'.StreamDataBlocked id maximum) = Blocks (seated_of role id)
view_of role kind (Frame'.StreamsBlocked uni maximum) = Nothing
view_of role kind (Frame'.NewConnectionId sequence retire at len token) = Nothing
view_of role kind (Frame'.RetireConnectionId sequence) = Nothing
view_of role kind (Frame'.PathChallenge at) = Nothing
view_of role kind (Frame'.PathResponse at) = Nothing
view_of role kind (Frame'.ConnectionClose code ty at len) = Closes
view_of role kind (Frame'.ApplicationClose code at len) = Closes
view_of role kind Frame'.HandshakeDone = Nothing

-- the stream whose entry it looks at; stream 0 for those that look at none, and leave it
abbrev pub stream_in : View → ℕ
stream_in (Ends id end fin) = id
stream_in (Blocks id) = 0
stream_in (ForSender id) = 0
stream_in (Acks space largest) = 0
stream_in Closes = 0
stream_in Nothing = 0

abbrev pub frame_place : View → ℕ
frame_place v = place_of (stream_in v)
