-- The two seats of a connection, RFC 9000 2.1: "Client-initiated streams have even-numbered stream IDs (with the bit set to 0), and server-initiated streams have odd-numbered stream IDs". All rules go by the half of a stream, and a half is read off the ID that the stream has at a server.
-- A client's half of type 0 is a server's of type 1, and so on: this is the one place where the role turns an ID into another.
use Rattle.std.specs.Prelude.{ℕ, ◌+◌, ◌-◌, ◌%◌, eqb}
use Rattle.answers.specs.Choice.{◌⇒◌∣◌}
use Rattle.kinds.specs.declared.Role.{Role}
use Rattle.kinds.specs.declared.Role.TheVariants.{Server, Client}

-- types 0 and 1 change places, and so do 2 and 3; the ordinal stays
unfoldable pub exchanged_of : ℕ → ℕ
exchanged_of id =
    eqb (id % 2) 0 ⇒ id + 1
    ∣ id - 1

-- an ID on the wire as the ID that the stream of the same half and ordinal has at a server; and back
abbrev pub seated_of : Role → ℕ → ℕ
seated_of Server id = id
seated_of Client id = exchanged_of id

-- the other end of the connection
abbrev pub other_of : Role → Role
other_of Server = Client
other_of Client = Server
