-- docs/RULES.md, "Bench examples": C1 to C16 as rows of a single claim about the definitions.
use Rattle.std.specs.Prelude.{ℕ, ◌≡◌, List, [], ◌∷◌, replicate, ◌++◌, Some, Ok}
use Rattle.kinds.specs.declared.Role.TheVariants.{Server}
use Rattle.answers.specs.Answers.{number_of}
use Rattle.wire.specs.Number.{number_at}
use Rattle.kinds.specs.declared.Kind.TheVariants.{OneRtt}
use Rattle.numbers.specs.Numbers.{recovered_of}
use Rattle.numbers.specs.declared.Size.TheVariants.{Two}
use Rattle.records.specs.declared.Record.{Record}
use Rattle.records.specs.Marks.{none_of}
use Rattle.records.specs.Ring.{taken_of}
use Rattle.halves.specs.Stream.{entries}
use Rattle.entries.specs.Entry.{fresh}
use Rattle.streams.specs.Small.{small}
use Rattle.demands.specs.Hosts.{answered, acted, hosted}
use Rattle.demands.specs.Hosts.Act.{TakeFrame}
use Rattle.accounts.specs.History.{State}

-- the small connection, opened on a table of 192 entries
abbrev pub bench : State
bench = hosted Server small (replicate entries (fresh 0))

-- payloads of one 1-RTT frame, each taken in turn: the number of each answer, and the total after it
unfoldable pub taken : State → List (List ℕ) → List (ℕ × ℕ)
taken h [] = []
taken h (s ∷ l) = (number_of (answered h (TakeFrame s 0 OneRtt)), (acted h (TakeFrame s 0 OneRtt)).conn.total) ∷ taken (acted h (TakeFrame s 0 OneRtt)) l

-- STREAM with OFF and LEN on a stream, from an offset on, of n bytes 0x61, all below 64; with FIN; and RESET_STREAM with code 0
abbrev pub stream : ℕ → ℕ → ℕ → List ℕ
stream id offset n = 0x0e ∷ id ∷ offset ∷ n ∷ replicate n 0x61

abbrev pub final : ℕ → ℕ → ℕ → List ℕ
final id offset n = 0x0f ∷ id ∷ offset ∷ n ∷ replicate n 0x61

abbrev pub reset : ℕ → ℕ → List ℕ
reset id size = 0x04 ∷ id ∷ 0 ∷ size ∷ []

-- the record that holds 8,192 alone
abbrev pub only8192 : Record
only8192 = (taken_of none_of 8192).«record»

pub record Bench : Type 0 where
  -- "The small connection: counts 4 and 4, stream credits 16, connection credit 40."
  pub small_is : small ≡ record { credit = 40; counts = 4 ∷ 4 ∷ []; initial = 16 ∷ 16 ∷ 16 ∷ [] }
  pub small_two : taken bench (stream 14 0 16 ∷ stream 14 16 1 ∷ []) ≡ (0, 16) ∷ (3, 16) ∷ []
  pub small_four : taken bench (stream 14 0 0 ∷ stream 18 0 0 ∷ []) ≡ (0, 0) ∷ (4, 0) ∷ []
  -- "C1 25 reads 37. C2 4025 reads 37. C3 7bbd reads 15,293. C4 9d7f3e7d reads 494,878,333. C5 c2197c5eff14e88c reads 151,288,809,941,952,652"
  pub c1 : number_at (0x25 ∷ []) 0 ≡ Some (37, 1)
  pub c2 : number_at (0x40 ∷ 0x25 ∷ []) 0 ≡ Some (37, 2)
  pub c3 : number_at (0x7b ∷ 0xbd ∷ []) 0 ≡ Some (15293, 2)
  pub c4 : number_at (0x9d ∷ 0x7f ∷ 0x3e ∷ 0x7d ∷ []) 0 ≡ Some (494878333, 4)
  pub c5 : number_at (0xc2 ∷ 0x19 ∷ 0x7c ∷ 0x5e ∷ 0xff ∷ 0x14 ∷ 0xe8 ∷ 0x8c ∷ []) 0 ≡ Some (151288809941952652, 8)
  -- "C6 largest 0xa82f30ea, two bytes 0x9b32: 0xa82f9b32 (A.3)"
  pub c6 : recovered_of 0xa82f30eb Two 0x9b32 ≡ Ok 0xa82f9b32
  -- "C7 stream 0 to end 16: total 16; to 17: 3"
  pub c7 : taken bench (stream 0 0 16 ∷ stream 0 16 1 ∷ []) ≡ (0, 16) ∷ (3, 16) ∷ []
  -- "C8 stream 12 accepted, 16: 4"
  pub c8 : taken bench (stream 12 0 0 ∷ stream 16 0 0 ∷ []) ≡ (0, 0) ∷ (4, 0) ∷ []
  -- "C9 streams 3 and 1, unopened: 5"
  pub c9_3 : taken bench (stream 3 0 0 ∷ []) ≡ (5, 0) ∷ []
  pub c9_1 : taken bench (stream 1 0 0 ∷ []) ≡ (5, 0) ∷ []
  -- "C10 FIN at 10, then an empty frame at 10: accepted, total 10; then end 11: 6"
  pub c10 : taken bench (final 0 0 10 ∷ stream 0 10 0 ∷ stream 0 10 1 ∷ []) ≡ (0, 10) ∷ (0, 10) ∷ (6, 10) ∷ []
  -- "C11 streams 0 and 4 at 16, then stream 8 to 8: total 40; to 9 instead: 3"
  pub c11_8 : taken bench (stream 0 0 16 ∷ stream 4 0 16 ∷ stream 8 0 8 ∷ []) ≡ (0, 16) ∷ (0, 32) ∷ (0, 40) ∷ []
  pub c11_9 : taken bench (stream 0 0 16 ∷ stream 4 0 16 ∷ stream 8 0 9 ∷ []) ≡ (0, 16) ∷ (0, 32) ∷ (3, 32) ∷ []
  -- "C12 stream 4 at 5, reset at 7: total 7; reset again at 7: the same; at 6: 6"
  pub c12 : taken bench (stream 4 0 5 ∷ reset 4 7 ∷ reset 4 7 ∷ reset 4 6 ∷ []) ≡ (0, 5) ∷ (0, 7) ∷ (0, 7) ∷ (6, 7) ∷ []
  -- "C13 offset 2^62-1, length 1: 7; length 0: 3"
  pub c13_1 : taken bench ((0x0e ∷ 0 ∷ replicate 8 0xff ++ (1 ∷ 0x61 ∷ [])) ∷ []) ≡ (7, 0) ∷ []
  pub c13_0 : taken bench ((0x0e ∷ 0 ∷ replicate 8 0xff ++ (0 ∷ [])) ∷ []) ≡ (3, 0) ∷ []
  -- "C14 ACK largest 5, first run 6: 7"
  pub c14 : taken bench ((0x02 ∷ 5 ∷ 0 ∷ 0 ∷ 6 ∷ []) ∷ []) ≡ (7, 0) ∷ []
  -- "C15 FIN at 10, then end 17: 6, not 3"
  pub c15 : taken bench (final 0 0 10 ∷ stream 0 10 7 ∷ []) ≡ (0, 10) ∷ (6, 10) ∷ []
  -- "C16 only 8,192 recorded: number 0 gives 106, number 1 is taken"
  pub c16_0 : number_of (taken_of only8192 0).answer ≡ 106
  pub c16_1 : number_of (taken_of only8192 1).answer ≡ 0
