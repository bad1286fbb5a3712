-- docs/RULES.md, "120 for the table": "120 for the table, before all else and only then": each of its clauses at a place of each type that has entries and from both sides, through the call for one frame, and some through every call; and the same of a record.
-- That all calls find the same is a law (`OnlyThen`).
use Rattle.std.specs.Prelude.{ℕ, ◌+◌, ◌-◌, ◌^◌, ◌≡◌, List, [], ◌∷◌, ◌++◌, map, length, replicate, set}
use Rattle.kinds.specs.declared.Role.TheVariants.{Server}
use Rattle.answers.specs.Answers.{number_of}
use Rattle.answers.specs.declared.Answer.TheVariants.{Accepted, DoesNotFit, Closed}
use Rattle.kinds.specs.declared.Kind.TheVariants.{OneRtt}
use Rattle.records.specs.declared.Record.{Record}
use Rattle.streams.specs.declared.Limits.{Limits}
use Rattle.streams.specs.declared.Mark.{Mark}
use Rattle.streams.specs.declared.Mark.TheVariants.{Open, Code}
use Rattle.kinds.specs.declared.Space.TheVariants.{Initial, Handshake, Application}
use Rattle.entries.specs.declared.Entry.{Entry}
use Rattle.entries.specs.Entry.{fresh}
use Rattle.opening.specs.Opening.{opening_when}
use Rattle.calls.specs.declared.Call.TheVariants.{RaiseCredit, RaiseStream, RaiseCount, OpenNext}
use Rattle.spaces.specs.declared.Records.{Records}
use Rattle.accounts.specs.History.{State}
use Rattle.demands.specs.Hosts.{Act, answered, acted, records_after}
use Rattle.demands.specs.Hosts.Act.{TakeFrame, TakePacket, Make, HandOut}

-- ---- hosts

-- the connection credit, the counts of types 0 and 2, the initial credits of types 0, 1 and 2
abbrev pub limits_of : ℕ → ℕ → ℕ → ℕ → ℕ → ℕ → Limits
limits_of credit count0 count2 initial0 initial1 initial2 = record { credit = credit; counts = count0 ∷ count2 ∷ []; initial = initial0 ∷ initial1 ∷ initial2 ∷ [] }

-- an entry, with and without a known final size
abbrev pub sized : ℕ → ℕ → ℕ → Entry
sized credit end size = record { credit = credit; end = end; size = size }

abbrev pub unsized : ℕ → ℕ → Entry
unsized credit end = sized credit end (2 ^ 64 - 1)

-- a table of 192 entries as opening sets them but for three: the first of type 0, the second of type 1 and the last of type 2, that is places 0, 65 and 191
abbrev pub table_of : ℕ → ℕ → ℕ → Entry → Entry → Entry → List Entry
table_of initial0 initial1 initial2 a b c = (a ∷ replicate 63 (fresh initial0)) ++ ((fresh initial1 ∷ b ∷ replicate 62 (fresh initial1)) ++ (replicate 63 (fresh initial2) ++ (c ∷ [])))

-- a host with limits, so many streams of each type open, a total, the next numbers of its spaces, a mark and a table
abbrev pub whole_host : Limits → List ℕ → ℕ → List ℕ → Mark → List Entry → State
whole_host limits opened total next mark table = record { conn = record { limits = limits; opened = opened; total = total; next = next; mark = mark; role = Server }; table = table }

abbrev pub host_of : Limits → List ℕ → ℕ → List Entry → State
host_of limits opened total table = whole_host limits opened total (0 ∷ 0 ∷ 0 ∷ []) Open table

-- connection credit 100, counts 4 and 64, initial credits 16, 17 and 18
abbrev pub plain : Limits
plain = limits_of 100 4 64 16 17 18

-- such a host where just the three entries are the last open ones of their types, and one where they are the first that are not
abbrev pub opened : ℕ → Entry → Entry → Entry → State
opened total a b c = host_of plain (1 ∷ 2 ∷ 64 ∷ 1 ∷ []) total (table_of 16 17 18 a b c)

abbrev pub unopened : ℕ → Entry → Entry → Entry → State
unopened total a b c = host_of plain (0 ∷ 1 ∷ 63 ∷ 0 ∷ []) total (table_of 16 17 18 a b c)

-- with other limits, where nothing came; and with all 64 streams of each type open, so that no entry is held to an initial credit
abbrev pub limited : Limits → State
limited limits = host_of limits (1 ∷ 2 ∷ 64 ∷ 1 ∷ []) 0 (table_of 16 17 18 (fresh 16) (fresh 17) (fresh 18))

abbrev pub all_open : Limits → State
all_open limits = host_of limits (64 ∷ 64 ∷ 64 ∷ 64 ∷ []) 0 (table_of 16 17 18 (fresh 16) (fresh 17) (fresh 18))

-- so many of each type open, where the counts are 4 and 63
abbrev pub opened_by : List ℕ → State
opened_by l = host_of (limits_of 100 4 63 16 17 18) l 0 (table_of 16 17 18 (fresh 16) (fresh 17) (fresh 18))

-- so many entries, each as opening sets it; no stream has credit, so that nothing but their number can be wrong
abbrev pub long : ℕ → State
long n = host_of (limits_of 100 4 4 0 0 0) (0 ∷ 0 ∷ 0 ∷ 0 ∷ []) 0 (replicate n (fresh 0))

-- so great ends on the first five streams of type 2 that their sum is 2^64+7, and a total
abbrev pub five_ends : ℕ → State
five_ends total =
    let most = unsized (2 ^ 62 - 1) (2 ^ 62 - 1) in
    host_of (limits_of (2 ^ 62 - 1) 4 64 16 17 18) (1 ∷ 2 ∷ 64 ∷ 1 ∷ []) total (set (set (set (set (set (table_of 16 17 18 (fresh 16) (fresh 17) (fresh 18)) 128 most) 129 most) 130 most) 131 most) 132 (unsized 18 11))

-- ---- records

-- the first slot alone is marked: fits with 0 as the largest number, or 8,192, and not with none, 1, or a number above 2^62-1
abbrev pub first_marked : ℕ → Record
first_marked top = record { words = 1 ∷ replicate 127 0; top = top }

-- the records of a host that has got just the number 8,192 in each space, so that 0 is below the record, 1 is not, and one byte t from 0 to 129 stands for 8,192 + t
abbrev pub each : Record → Records
each R = record { initial = R; handshake = R; application = R }

abbrev pub held : Records
held = each (first_marked 8193)

-- .. with another record in one of the three
abbrev pub in_each : Record → List Records
in_each R =
    record { initial = R; handshake = first_marked 8193; application = first_marked 8193 }
    ∷ record { initial = first_marked 8193; handshake = R; application = first_marked 8193 }
    ∷ record { initial = first_marked 8193; handshake = first_marked 8193; application = R }
    ∷ []

-- ---- calls

-- what the call for one frame answers to a PING
abbrev pub pinged : List State → List ℕ
pinged = map (λ h. number_of (answered h (TakeFrame (1 ∷ []) 0 OneRtt)))

-- each call that 120 is for: a PING alone and in a packet, the credit, a stream's credit and a count raised, a stream opened
abbrev pub every_call : List Act
every_call = TakeFrame (1 ∷ []) 0 OneRtt ∷ TakePacket held 0x40 (1 ∷ 1 ∷ []) ∷ Make (RaiseCredit 200) ∷ Make (RaiseStream 0 50) ∷ Make (RaiseCount 0 5) ∷ Make (OpenNext 1) ∷ []

abbrev pub answers_of : State → List ℕ
answers_of h = map (λ (x : Act). number_of (answered h x)) every_call

abbrev pub states_of : State → List State
states_of h = map (acted h) every_call

-- a host that fits, and some that do not: by an end, by the total and by their number of entries
abbrev pub fine : State
fine = opened 18 (unsized 16 5) (sized 17 6 6) (sized 18 7 7)

abbrev pub spoiled : List State
spoiled = opened 30 (unsized 16 17) (sized 17 6 6) (sized 18 7 7) ∷ opened 19 (unsized 16 5) (sized 17 6 6) (sized 18 7 7) ∷ long 191 ∷ []

-- the answers to a packet with each of these records: a number and a PING; its first byte tells the kind
abbrev pub packets_with : ℕ → List Records → List ℕ
packets_with first l = map (λ (rs : Records). number_of (answered fine (TakePacket rs first (1 ∷ 1 ∷ [])))) l

-- ---- the rows

pub record Unfit : Type 0 where
  -- "an end is above its credit"
  pub ends : pinged (opened 51 (unsized 16 16) (unsized 17 17) (unsized 18 18)
      ∷ opened 52 (unsized 16 17) (unsized 17 17) (unsized 18 18) ∷ opened 52 (unsized 16 16) (unsized 17 18) (unsized 18 18) ∷ opened 52 (unsized 16 16) (unsized 17 17) (unsized 18 19) ∷ [])
      ≡ 0 ∷ 120 ∷ 120 ∷ 120 ∷ []
  -- "a known final size differs from the end": it is below it, and above
  pub sizes : pinged (opened 18 (sized 16 5 5) (sized 17 6 6) (sized 18 7 7)
      ∷ opened 18 (sized 16 5 4) (sized 17 6 6) (sized 18 7 7) ∷ opened 18 (sized 16 5 5) (sized 17 6 5) (sized 18 7 7) ∷ opened 18 (sized 16 5 5) (sized 17 6 6) (sized 18 7 6)
      ∷ opened 18 (sized 16 5 6) (sized 17 6 6) (sized 18 7 7) ∷ opened 18 (sized 16 5 5) (sized 17 6 7) (sized 18 7 7) ∷ opened 18 (sized 16 5 5) (sized 17 6 6) (sized 18 7 8) ∷ [])
      ≡ 0 ∷ 120 ∷ 120 ∷ 120 ∷ 120 ∷ 120 ∷ 120 ∷ []
  -- .. also where no stream can have it: 2^64-1 alone stands for none
  pub far_sizes : pinged (map (λ (n : ℕ). opened 18 (sized 16 5 n) (sized 17 6 6) (sized 18 7 7)) (2 ^ 62 ∷ (2 ^ 64 - 2) ∷ (2 ^ 64 - 1) ∷ [])
      ++ map (λ (n : ℕ). unopened 0 (fresh 16) (sized 17 0 n) (fresh 18)) (2 ^ 62 ∷ (2 ^ 64 - 2) ∷ (2 ^ 64 - 1) ∷ []))
      ≡ 120 ∷ 120 ∷ 0 ∷ 120 ∷ 120 ∷ 0 ∷ []
  -- "an unopened entry is not as opening set it": its credit, its end, its final size; an open one may have each
  pub unopened_credits : pinged (unopened 0 (fresh 16) (fresh 17) (fresh 18)
      ∷ unopened 0 (fresh 15) (fresh 17) (fresh 18) ∷ unopened 0 (fresh 16) (fresh 16) (fresh 18) ∷ unopened 0 (fresh 16) (fresh 17) (fresh 17)
      ∷ unopened 0 (fresh 17) (fresh 17) (fresh 18) ∷ unopened 0 (fresh 16) (fresh 18) (fresh 18) ∷ unopened 0 (fresh 16) (fresh 17) (fresh 19) ∷ [])
      ≡ 0 ∷ 120 ∷ 120 ∷ 120 ∷ 120 ∷ 120 ∷ 120 ∷ []
  pub unopened_ends : pinged (unopened 1 (unsized 16 1) (fresh 17) (fresh 18) ∷ unopened 1 (fresh 16) (unsized 17 1) (fresh 18) ∷ unopened 1 (fresh 16) (fresh 17) (unsized 18 1) ∷ []) ≡ 120 ∷ 120 ∷ 120 ∷ []
  pub unopened_sizes : pinged (unopened 0 (sized 16 0 0) (fresh 17) (fresh 18) ∷ unopened 0 (fresh 16) (sized 17 0 0) (fresh 18) ∷ unopened 0 (fresh 16) (fresh 17) (sized 18 0 0) ∷ []) ≡ 120 ∷ 120 ∷ 120 ∷ []
  pub unopened_borders : pinged (map (λ (i : ℕ). host_of plain (0 ∷ 0 ∷ 0 ∷ 0 ∷ []) 0 (set (table_of 16 17 18 (fresh 16) (fresh 17) (fresh 18)) i (fresh 15))) (63 ∷ 64 ∷ 127 ∷ 128 ∷ [])) ≡ replicate 4 120
  pub open_ones : pinged (opened 0 (fresh 15) (fresh 16) (fresh 17) ∷ opened 0 (fresh 17) (fresh 18) (fresh 19) ∷ opened 3 (unsized 16 1) (unsized 17 1) (unsized 18 1) ∷ opened 0 (sized 16 0 0) (sized 17 0 0) (sized 18 0 0) ∷ []) ≡ 0 ∷ 0 ∷ 0 ∷ 0 ∷ []
  -- "the total is not the sum of the ends or is above the connection credit"
  pub totals : pinged (map (λ (n : ℕ). opened n (unsized 16 5) (unsized 17 6) (unsized 18 7)) (17 ∷ 18 ∷ 19 ∷ [])) ≡ 120 ∷ 0 ∷ 120 ∷ []
  -- .. a sum above 2^64 is no smaller number: four ends of 2^62-1 and one of 11 are 2^64+7
  pub far_sum : pinged (map (λ (n : ℕ). five_ends n) (7 ∷ (2 ^ 62 - 1) ∷ (2 ^ 64 - 1) ∷ [])) ≡ 120 ∷ 120 ∷ 120 ∷ []
  pub total_within : pinged (map (λ (n : ℕ). host_of (limits_of n 4 64 16 17 18) (1 ∷ 2 ∷ 64 ∷ 1 ∷ []) 18 (table_of 16 17 18 (unsized 16 5) (unsized 17 6) (unsized 18 7))) (17 ∷ 18 ∷ 19 ∷ [])) ≡ 120 ∷ 0 ∷ 0 ∷ []
  -- "a limit is above its ceiling": "64 streams a type, credit 2^62-1". The connection credit; the counts of types 0 and 2 ..
  pub ceiling_credit : pinged (map (λ (n : ℕ). limited (limits_of n 4 64 16 17 18)) ((2 ^ 62 - 1) ∷ 2 ^ 62 ∷ (2 ^ 64 - 1) ∷ [])) ≡ 0 ∷ 120 ∷ 120 ∷ []
  pub ceiling_counts : pinged (limited (limits_of 100 64 64 16 17 18) ∷ limited (limits_of 100 65 64 16 17 18) ∷ limited (limits_of 100 64 65 16 17 18) ∷ []) ≡ 0 ∷ 120 ∷ 120 ∷ []
  -- .. the three initial credits, where no entry is held to them ..
  pub ceiling_initial : pinged (map all_open (limits_of 100 64 64 (2 ^ 62 - 1) (2 ^ 62 - 1) (2 ^ 62 - 1)
      ∷ limits_of 100 64 64 (2 ^ 62) 17 18 ∷ limits_of 100 64 64 16 (2 ^ 62) 18 ∷ limits_of 100 64 64 16 17 (2 ^ 62) ∷ []))
      ≡ 0 ∷ 120 ∷ 120 ∷ 120 ∷ []
  -- .. an entry's credit; the streams of types 1 and 3 that we opened
  pub ceiling_entries : pinged (opened 0 (fresh (2 ^ 62 - 1)) (fresh (2 ^ 62 - 1)) (fresh (2 ^ 62 - 1))
      ∷ opened 0 (fresh (2 ^ 62)) (fresh 17) (fresh 18) ∷ opened 0 (fresh 16) (fresh (2 ^ 62)) (fresh 18) ∷ opened 0 (fresh 16) (fresh 17) (fresh (2 ^ 62)) ∷ [])
      ≡ 0 ∷ 120 ∷ 120 ∷ 120 ∷ []
  pub ceiling_ours : pinged (map opened_by ((1 ∷ 64 ∷ 1 ∷ 64 ∷ []) ∷ (1 ∷ 65 ∷ 1 ∷ 64 ∷ []) ∷ (1 ∷ 64 ∷ 1 ∷ 65 ∷ []) ∷ [])) ≡ 0 ∷ 120 ∷ 120 ∷ []
  -- "more is open than the count allows", where the counts are 4 and 63
  pub more_open : pinged (map opened_by ((4 ∷ 1 ∷ 63 ∷ 1 ∷ []) ∷ (5 ∷ 1 ∷ 63 ∷ 1 ∷ []) ∷ (4 ∷ 1 ∷ 64 ∷ 1 ∷ []) ∷ [])) ≡ 0 ∷ 120 ∷ 120 ∷ []
  -- "it is not 192 entries (all that opening asks)"
  pub not_192 : pinged (map long (191 ∷ 192 ∷ 193 ∷ [])) ≡ 120 ∷ 0 ∷ 120 ∷ []
  pub opening_192 : map (λ (n : ℕ). number_of (opening_when Server (length (replicate n (sized 1 2 3))) plain).answer) (0 ∷ 191 ∷ 192 ∷ 193 ∷ []) ≡ 120 ∷ 120 ∷ 0 ∷ 120 ∷ []
  -- "before all else", of every call: what fits is accepted, and else it is 120 and "nothing changed"
  pub accepted : answers_of fine ≡ replicate 6 0
  pub refused : map answers_of spoiled ≡ replicate 3 (replicate 6 120)
  pub same_hosts : map (λ (h : State). map (acted h) (TakeFrame (1 ∷ []) 0 OneRtt ∷ TakePacket held 0x40 (1 ∷ 1 ∷ []) ∷ Make (RaiseStream 0 50) ∷ [])) spoiled ≡ map (replicate 3) spoiled
  pub same_records : map (λ h. records_after h held 0x40 (1 ∷ 1 ∷ [])) spoiled ≡ replicate 3 held
  -- handing out a number asks for no table
  pub handing_out : map (λ h. number_of (answered h (HandOut Application))) spoiled ≡ replicate 3 0
  -- ".. and only then": next numbers above 2^62 and an odd closing mark do not make it 120
  pub far_numbers : answers_of (whole_host plain (1 ∷ 2 ∷ 64 ∷ 1 ∷ []) 0 ((2 ^ 62 + 1) ∷ 2 ^ 63 ∷ (2 ^ 64 - 1) ∷ []) Open (table_of 16 17 18 (fresh 16) (fresh 17) (fresh 18))) ≡ replicate 6 0
  pub no_numbers : map (λ space. number_of (answered (whole_host plain (1 ∷ 2 ∷ 64 ∷ 1 ∷ []) 0 ((2 ^ 62 + 1) ∷ 2 ^ 63 ∷ (2 ^ 64 - 1) ∷ []) Open (table_of 16 17 18 (fresh 16) (fresh 17) (fresh 18))) (HandOut space))) (Initial ∷ Handshake ∷ Application ∷ []) ≡ 103 ∷ 103 ∷ 103 ∷ []
  pub odd_marks : pinged (map (λ (mark : Mark). whole_host plain (1 ∷ 2 ∷ 64 ∷ 1 ∷ []) 0 (0 ∷ 0 ∷ 0 ∷ []) mark (table_of 16 17 18 (fresh 16) (fresh 17) (fresh 18))) (Code Accepted 0 ∷ Code DoesNotFit 0x1f ∷ Code Closed (2 ^ 64 - 1) ∷ [])) ≡ 101 ∷ 101 ∷ 101 ∷ []
  -- "One that marks a number below 0, or whose largest number is not marked or above 2^62-1, is 120": in each of the three spaces, whatever the space of the packet
  pub records_fit_law : packets_with 0x40 (in_each (first_marked 1)) ≡ 0 ∷ 0 ∷ 0 ∷ []
  pub records_stray : packets_with 0xc0 (in_each (first_marked 0)) ≡ 120 ∷ 120 ∷ 120 ∷ []
  pub records_unmarked : packets_with 0xe0 (in_each (first_marked 2)) ≡ 120 ∷ 120 ∷ 120 ∷ []
  pub records_above : packets_with 0x40 (in_each (first_marked (2 ^ 62 + 1))) ≡ 120 ∷ 120 ∷ 120 ∷ []
  pub records_same : map (λ (rs : Records). acted fine (TakePacket rs 0x40 (1 ∷ 1 ∷ []))) (in_each (first_marked 0)) ≡ replicate 3 fine
  pub records_kept : map (λ (rs : Records). records_after fine rs 0x40 (1 ∷ 1 ∷ [])) (in_each (first_marked 0)) ≡ in_each (first_marked 0)
