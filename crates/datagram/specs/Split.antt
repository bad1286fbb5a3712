-- Splitting a datagram, docs/RULES.md, "Splitting a datagram": one packet's header from the rest of a datagram.
use Rattle.std.specs.Prelude.{ℕ, ◌+◌, ◌-◌, ◌%◌, not, List, length, ltb, eqb, Result, Ok, Err}
use Rattle.answers.specs.Choice.{◌⇒◌∣◌}
use Rattle.answers.specs.declared.Answer.TheVariants.{Done, NoPacket}
use Rattle.wire.specs.Number.{number_at}
use Rattle.invariants.specs.Invariant.{part_of, after, bytes_after, with_bytes, invariant_of, with_invariant}
use Rattle.invariants.specs.declared.Part.{Part}
use Rattle.datagram.specs.declared.Kind.{Kind}
use Rattle.datagram.specs.declared.Kind.TheVariants.{Initial, ZeroRtt, Handshake, Retry, OneRtt, VersionNegotiation, OtherVersion}
use Rattle.datagram.specs.Header.{bit, first_of, type_of, header_of, whole_of}
use Rattle.answers.specs.declared.Answer.{Answer}
use Rattle.datagram.specs.declared.Header.{Header}

-- everything else is 110
abbrev pub none : Result Header Answer
none = Err NoPacket

-- version 0, Version Negotiation: the remainder is one or more whole 4-byte versions
unfoldable pub negotiation_of : List ℕ → Part → Part → Result Header Answer
negotiation_of s destination source =
    eqb (length s - after source) 0 ⇒ none
    ∣ not (eqb ((length s - after source) % 4) 0) ⇒ none
    ∣ Ok (whole_of s VersionNegotiation 0 destination source)

-- Retry takes the rest, at least 16 bytes (17.2.5: its token and its tag)
unfoldable pub retry_of : List ℕ → Part → Part → Result Header Answer
retry_of s destination source =
    ltb (length s - after source) 16 ⇒ none
    ∣ Ok (whole_of s Retry 1 destination source)

-- a Length, which counts from the packet number; it must be at least 20 (RFC 9001, 5.4.2: the sample is 16 bytes, 4 after that place) and fit
unfoldable pub numbered_of : List ℕ → Kind → Part → Part → Part → Result Header Answer
numbered_of s kind destination source token =
    with_bytes (bytes_after s (number_at s (after token))) none (λ counted.
    ltb counted.len 20 ⇒ none
    ∣ Ok (header_of kind 1 destination source token counted.at (after counted)))

-- Initial has a token after its length (17.2.2)
unfoldable pub initial_of : List ℕ → Part → Part → Result Header Answer
initial_of s destination source =
    with_bytes (bytes_after s (number_at s (after source))) none (λ token.
    numbered_of s Initial destination source token)

-- version 1: bit 0x40 must be set and ID lengths are 0 to 20; bits 0x30: 0 Initial, 1 0-RTT, 2 Handshake, 3 Retry
unfoldable pub version_one_of : List ℕ → Part → Part → Result Header Answer
version_one_of s destination source =
    not (bit 6 (first_of s)) ⇒ none
    ∣ ltb 20 destination.len ⇒ none
    ∣ ltb 20 source.len ⇒ none
    ∣ eqb (type_of s) 0 ⇒ initial_of s destination source
    ∣ eqb (type_of s) 3 ⇒ retry_of s destination source
    ∣ eqb (type_of s) 1 ⇒ numbered_of s ZeroRtt destination source (part_of (after source) 0)
    ∣ numbered_of s Handshake destination source (part_of (after source) 0)

-- long: version 0, version 1, or another version, whose rest belongs to that packet
unfoldable pub long_of : List ℕ → Result Header Answer
long_of s =
    with_invariant (invariant_of s) none (λ version destination source.
    eqb version 0 ⇒ negotiation_of s destination source
    ∣ eqb version 1 ⇒ version_one_of s destination source
    ∣ Ok (whole_of s OtherVersion version destination source))

-- short: bit 0x40 set, 8-byte connection ID, then at least 20 bytes, to the end
unfoldable pub short_of : List ℕ → Result Header Answer
short_of s =
    not (bit 6 (first_of s)) ⇒ none
    ∣ ltb (length s) (1 + 8 + 20) ⇒ none
    ∣ Ok (whole_of s OneRtt 1 (part_of 1 8) (part_of 9 0))

-- the next packet of a datagram whose rest is s; an empty rest is "done"
unfoldable pub next_of : List ℕ → Result Header Answer
next_of s =
    eqb (length s) 0 ⇒ Err Done
    ∣ bit 7 (first_of s) ⇒ long_of s
    ∣ short_of s
