-- The figures of RFC 9000, section 19, a row for each type from 0x00 on: how many numbers follow the type, what stands after them, and how many numbers after that.
use Rattle.std.specs.Prelude.{ℕ, Bool, List, [], ◌∷◌, get_or, leb}
use Rattle.layouts.specs.declared.Tail.{Tail}
use Rattle.layouts.specs.declared.Tail.TheVariants.{Nothing, Counted, Remainder, Eight, Identity, Ranges}
use Rattle.layouts.specs.declared.Layout.{Layout}

abbrev pub layout : ℕ → Tail → ℕ → Layout
layout n t m = record { numbers = n; tail = t; after = m }

unfoldable pub layouts : List Layout
layouts =
    -- 0x00 PADDING, 19.1
    layout 0 Nothing 0
    -- 0x01 PING, 19.2
    ∷ layout 0 Nothing 0
    -- 0x02 ACK, 19.3: Largest Acknowledged, ACK Delay, ACK Range Count, First ACK Range; ACK Ranges
    ∷ layout 4 Ranges 0
    -- 0x03 ACK, 19.3: the same; ECN Counts (19.3.2): ECT0 Count, ECT1 Count, ECN-CE Count
    ∷ layout 4 Ranges 3
    -- 0x04 RESET_STREAM, 19.4: Stream ID, Application Protocol Error Code, Final Size
    ∷ layout 3 Nothing 0
    -- 0x05 STOP_SENDING, 19.5: Stream ID, Application Protocol Error Code
    ∷ layout 2 Nothing 0
    -- 0x06 CRYPTO, 19.6: Offset; Length, Crypto Data
    ∷ layout 1 Counted 0
    -- 0x07 NEW_TOKEN, 19.7: Token Length, Token
    ∷ layout 0 Counted 0
    -- 0x08 to 0x0f STREAM, 19.8: Stream ID, Offset if bit 0x04 (OFF) is set; Length if bit 0x02 (LEN) is set, Stream Data; bit 0x01 is FIN
    ∷ layout 1 Remainder 0
    ∷ layout 1 Remainder 0
    ∷ layout 1 Counted 0
    ∷ layout 1 Counted 0
    ∷ layout 2 Remainder 0
    ∷ layout 2 Remainder 0
    ∷ layout 2 Counted 0
    ∷ layout 2 Counted 0
    -- 0x10 MAX_DATA, 19.9: Maximum Data
    ∷ layout 1 Nothing 0
    -- 0x11 MAX_STREAM_DATA, 19.10: Stream ID, Maximum Stream Data
    ∷ layout 2 Nothing 0
    -- 0x12 and 0x13 MAX_STREAMS, 19.11: Maximum Streams
    ∷ layout 1 Nothing 0
    ∷ layout 1 Nothing 0
    -- 0x14 DATA_BLOCKED, 19.12: Maximum Data
    ∷ layout 1 Nothing 0
    -- 0x15 STREAM_DATA_BLOCKED, 19.13: Stream ID, Maximum Stream Data
    ∷ layout 2 Nothing 0
    -- 0x16 and 0x17 STREAMS_BLOCKED, 19.14: Maximum Streams
    ∷ layout 1 Nothing 0
    ∷ layout 1 Nothing 0
    -- 0x18 NEW_CONNECTION_ID, 19.15: Sequence Number, Retire Prior To; Length, Connection ID, Stateless Reset Token
    ∷ layout 2 Identity 0
    -- 0x19 RETIRE_CONNECTION_ID, 19.16: Sequence Number
    ∷ layout 1 Nothing 0
    -- 0x1a PATH_CHALLENGE, 19.17: Data
    ∷ layout 0 Eight 0
    -- 0x1b PATH_RESPONSE, 19.18: Data
    ∷ layout 0 Eight 0
    -- 0x1c CONNECTION_CLOSE, 19.19: Error Code, Frame Type; Reason Phrase Length, Reason Phrase
    ∷ layout 2 Counted 0
    -- 0x1d CONNECTION_CLOSE, 19.19: Error Code; Reason Phrase Length, Reason Phrase
    ∷ layout 1 Counted 0
    -- 0x1e HANDSHAKE_DONE, 19.20
    ∷ layout 0 Nothing 0
    ∷ []

-- the layout of a type
unfoldable pub layout_of : ℕ → Layout
layout_of ty = get_or layouts ty (layout 0 Nothing 0)

-- whether the type is one of section 19
unfoldable pub known : ℕ → Bool
known ty = leb ty 0x1e
