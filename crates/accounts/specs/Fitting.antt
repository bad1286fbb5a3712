-- 120 for the table clause by clause, each from both sides, on a connection all of whose numbers differ: docs/RULES.md, "120 for the table": "120 for the table, before all else and only then".
use Rattle.std.specs.Prelude.{ℕ, ◌-◌, ◌^◌, ◌≡◌, Bool, true, false, List, [], ◌∷◌, ◌++◌, map, set, take, Some, None}
use Rattle.kinds.specs.declared.Role.TheVariants.{Server}
use Rattle.streams.specs.declared.Conn.{Conn}
use Rattle.streams.specs.declared.Limits.{Limits}
use Rattle.streams.specs.declared.Mark.TheVariants.{Open, ByPeer}
use Rattle.streams.specs.Conn.{limits_fit}
use Rattle.entries.specs.declared.Entry.{Entry}
use Rattle.limits.specs.Fits.{entry_fits, open_fit, conn_fits, fits, summed_of, concluded_of, part_of}
use Rattle.limits.specs.Rest.{opened_in, rest_of}
use Rattle.accounts.specs.History.{opened}
use Rattle.accounts.specs.Borders.{limits, held, before, entry, growing}

-- a connection with some limits on which nothing has happened
abbrev pub limited : Limits → Conn
limited o = record { limits = o; opened = 0 ∷ 0 ∷ 0 ∷ 0 ∷ []; total = 0; next = 7 ∷ 8 ∷ 9 ∷ []; mark = Open; role = Server }

-- how many streams of each type are open
abbrev pub opening : ℕ → ℕ → ℕ → ℕ → Conn
opening open0 open1 open2 open3 = held open0 open1 open2 open3 0 Open

-- whether an entry fits at some places of the connection before, on which 1, 2 and 3 streams of the three types that receive are open
abbrev pub fitting : Entry → List ℕ → List Bool
fitting e l = map (λ i. entry_fits before i e) l

-- the table as opening sets it
abbrev pub table : List Entry
table = (opened Server (limits 40 3 5 16 17 18)).table

pub record Fitting : Type 0 where
  -- "a limit is above its ceiling": "64 streams a type, credit 2^62-1", each at its ceiling and each one above it
  pub ceilings : map conn_fits (limited (limits (2 ^ 62 - 1) 64 64 (2 ^ 62 - 1) (2 ^ 62 - 1) (2 ^ 62 - 1)) ∷ limited (limits (2 ^ 62) 3 5 16 17 18) ∷ limited (limits 40 65 5 16 17 18) ∷ limited (limits 40 3 65 16 17 18) ∷ limited (limits 40 3 5 (2 ^ 62) 17 18) ∷ limited (limits 40 3 5 16 (2 ^ 62) 18) ∷ limited (limits 40 3 5 16 17 (2 ^ 62)) ∷ [])
      ≡ true ∷ false ∷ false ∷ false ∷ false ∷ false ∷ false ∷ []
  pub ceilings_alone : map limits_fit (limits (2 ^ 62 - 1) 64 64 (2 ^ 62 - 1) (2 ^ 62 - 1) (2 ^ 62 - 1) ∷ limits (2 ^ 62) 0 0 0 0 0 ∷ limits 0 65 0 0 0 0 ∷ limits 0 0 65 0 0 0 ∷ limits 0 0 0 (2 ^ 62) 0 0 ∷ limits 0 0 0 0 (2 ^ 62) 0 ∷ limits 0 0 0 0 0 (2 ^ 62) ∷ [])
      ≡ true ∷ false ∷ false ∷ false ∷ false ∷ false ∷ false ∷ []
  -- "more is open than the count allows": the counts of types 0 and 2 are 3 and 5, and of types 1 and 3 we may open 64
  pub open_most : map open_fit (opening 3 64 5 64 ∷ opening 0 0 0 0 ∷ []) ≡ true ∷ true ∷ []
  pub open_above : map open_fit (opening 4 0 0 0 ∷ opening 0 65 0 0 ∷ opening 0 0 6 0 ∷ opening 0 0 0 65 ∷ []) ≡ false ∷ false ∷ false ∷ false ∷ []
  pub open_fits : map conn_fits (opening 3 64 5 64 ∷ opening 4 0 0 0 ∷ opening 0 65 0 0 ∷ opening 0 0 6 0 ∷ opening 0 0 0 65 ∷ []) ≡ true ∷ false ∷ false ∷ false ∷ false ∷ []
  -- "the total .. is above the connection credit"
  pub total_within : map conn_fits (held 1 2 3 4 40 Open ∷ held 1 2 3 4 41 Open ∷ []) ≡ true ∷ false ∷ []
  -- "and only then": neither a closing mark nor a number handed out counts
  pub mark_free : conn_fits (held 1 2 3 4 40 ByPeer) ≡ true
  pub next_free : conn_fits (record { limits = limits 40 3 5 16 17 18; opened = 1 ∷ 2 ∷ 3 ∷ 4 ∷ []; total = 20; next = (2 ^ 64 - 1) ∷ (2 ^ 64 - 1) ∷ (2 ^ 64 - 1) ∷ []; mark = Open; role = Server }) ≡ true
  -- "an end is above its credit"
  pub end_within : map (entry_fits before 0) (growing 16 0 ∷ growing 16 16 ∷ growing 16 17 ∷ growing 20 20 ∷ growing 20 21 ∷ []) ≡ true ∷ true ∷ false ∷ true ∷ false ∷ []
  -- "a known final size differs from the end"
  pub size_same : map (entry_fits before 0) (entry 16 5 5 ∷ entry 16 5 4 ∷ entry 16 5 6 ∷ entry 16 0 0 ∷ entry 16 5 0 ∷ entry 16 0 5 ∷ []) ≡ true ∷ false ∷ false ∷ true ∷ false ∷ false ∷ []
  -- an entry's credit above its ceiling
  pub credit_within : map (entry_fits before 0) (growing (2 ^ 62 - 1) 0 ∷ growing (2 ^ 62) 0 ∷ growing (2 ^ 62 - 1) (2 ^ 62 - 1) ∷ growing (2 ^ 62) (2 ^ 62) ∷ []) ≡ true ∷ false ∷ true ∷ false ∷ []
  -- .. unopened too
  pub credit_unopened : map (λ credit. entry_fits (limited (limits 40 3 5 credit 17 18)) 0 (growing credit 0)) ((2 ^ 62 - 1) ∷ (2 ^ 62) ∷ []) ≡ true ∷ false ∷ []
  -- "an unopened entry is not as opening set it": the three initial credits, at the first and the last place of each type
  pub unopened : map (λ credit. map (λ i. entry_fits (opening 0 0 0 0) i (growing credit 0)) (0 ∷ 63 ∷ 64 ∷ 127 ∷ 128 ∷ 191 ∷ [])) (16 ∷ 17 ∷ 18 ∷ [])
      ≡ (true ∷ true ∷ false ∷ false ∷ false ∷ false ∷ []) ∷ (false ∷ false ∷ true ∷ true ∷ false ∷ false ∷ []) ∷ (false ∷ false ∷ false ∷ false ∷ true ∷ true ∷ []) ∷ []
  -- .. its end is 0, and it has no final size
  pub unopened_end : map (λ i. entry_fits (opening 0 0 0 0) i (growing 16 1)) (0 ∷ 63 ∷ []) ≡ false ∷ false ∷ []
  pub unopened_size : map (λ i. entry_fits (opening 0 0 0 0) i (entry 16 0 0)) (0 ∷ 63 ∷ []) ≡ false ∷ false ∷ []
  -- an open one may have another credit, an end and a final size: the last open place of each type, and the first that is not
  pub open_credit : fitting (growing 19 0) (0 ∷ 1 ∷ 63 ∷ 64 ∷ 65 ∷ 66 ∷ 127 ∷ 128 ∷ 130 ∷ 131 ∷ 191 ∷ []) ≡ true ∷ false ∷ false ∷ true ∷ true ∷ false ∷ false ∷ true ∷ true ∷ false ∷ false ∷ []
  pub open_end : fitting (growing 18 9) (0 ∷ 1 ∷ 65 ∷ 66 ∷ 130 ∷ 131 ∷ []) ≡ true ∷ false ∷ true ∷ false ∷ true ∷ false ∷ []
  pub open_size : fitting (entry 18 9 9) (0 ∷ 1 ∷ 65 ∷ 66 ∷ 130 ∷ 131 ∷ []) ≡ true ∷ false ∷ true ∷ false ∷ true ∷ false ∷ []
  pub open_empty : fitting (entry 18 0 0) (0 ∷ 1 ∷ 65 ∷ 66 ∷ 130 ∷ 131 ∷ []) ≡ true ∷ false ∷ true ∷ false ∷ true ∷ false ∷ []
  -- where all 64 are open, the last of each type
  pub open_last : map (λ i. entry_fits (opening 64 64 64 64) i (entry 19 9 9)) (63 ∷ 127 ∷ 191 ∷ []) ≡ true ∷ true ∷ true ∷ []
  -- "the total is not the sum of the ends or is above the connection credit": one entry more, where 2 are open with initial credit 16 and the connection credit is 40
  pub sums : map (summed_of 40 2 16 1 (growing 16 16)) (Some 0 ∷ Some 24 ∷ Some 25 ∷ None ∷ []) ≡ Some 16 ∷ Some 40 ∷ None ∷ None ∷ []
  pub sums_unfit : map (λ e. summed_of 40 2 16 1 e (Some 24)) (growing 16 17 ∷ entry 16 5 4 ∷ growing (2 ^ 62) 0 ∷ entry 16 5 5 ∷ []) ≡ None ∷ None ∷ None ∷ Some 29 ∷ []
  pub sums_unopened : map (λ e. summed_of 40 2 16 2 e (Some 24)) (growing 16 0 ∷ growing 17 0 ∷ growing 16 1 ∷ entry 16 0 0 ∷ []) ≡ Some 24 ∷ None ∷ None ∷ None ∷ []
  pub concludes : map (concluded_of before) (Some 20 ∷ Some 19 ∷ Some 21 ∷ None ∷ []) ≡ true ∷ false ∷ false ∷ false ∷ []
  pub concludes_conn : map (λ c. concluded_of c (Some 40)) (held 3 2 5 4 40 Open ∷ held 4 2 5 4 40 Open ∷ held 3 2 6 4 40 Open ∷ []) ≡ true ∷ false ∷ false ∷ []
  pub concludes_above : concluded_of (held 1 2 3 4 41 Open) (Some 41) ≡ false
  -- of 64 entries so many are opened
  pub opened_in_law : map opened_in (0 ∷ 1 ∷ 63 ∷ 64 ∷ 65 ∷ (2 ^ 64 - 1) ∷ []) ≡ 0 ∷ 1 ∷ 63 ∷ 64 ∷ 64 ∷ 64 ∷ []
  -- the rest of them are as opening set them, or they do not fit; where all are opened there is no rest
  pub rest : map (rest_of 40 63 16 (Some 40)) (true ∷ false ∷ []) ≡ Some 40 ∷ None ∷ []
  pub rest_none : map (rest_of 40 64 (2 ^ 62) (Some 41)) (true ∷ false ∷ []) ≡ Some 41 ∷ Some 41 ∷ []
  pub rest_sum : map (λ sum. rest_of 40 0 16 sum true) (Some 0 ∷ Some 40 ∷ Some 41 ∷ None ∷ []) ≡ Some 0 ∷ Some 40 ∷ None ∷ None ∷ []
  pub rest_credit : map (λ init. rest_of 40 1 init (Some 20) true) ((2 ^ 62 - 1) ∷ (2 ^ 62) ∷ []) ≡ Some 20 ∷ None ∷ []
  pub rest_unfit : map (rest_of 40 64 16 None) (true ∷ false ∷ []) ≡ None ∷ None ∷ []
  -- what the check asks for each type
  pub parts : map (part_of before) (0 ∷ 1 ∷ 2 ∷ []) ≡ record { credit = 40; opened = 1; initial = 16 } ∷ record { credit = 40; opened = 2; initial = 17 } ∷ record { credit = 40; opened = 3; initial = 18 } ∷ []
  -- the whole check: "it is not 192 entries" ..
  pub whole : map (fits (opening 0 0 0 0)) (table ∷ take 191 table ∷ (table ++ (growing 18 0 ∷ [])) ∷ [] ∷ []) ≡ true ∷ false ∷ false ∷ false ∷ []
  -- .. also where nothing would be missing from a missing entry: type 2 has no initial credit here
  pub whole_short : map (fits (limited (limits 40 3 5 16 17 0))) ((opened Server (limits 40 3 5 16 17 0)).table ∷ take 191 (opened Server (limits 40 3 5 16 17 0)).table ∷ []) ≡ true ∷ false ∷ []
  -- .. "the total is not the sum of the ends" ..
  pub whole_total : map (λ total. fits (held 1 0 1 0 total Open) (set (set table 0 (growing 16 6)) 128 (growing 18 9))) (14 ∷ 15 ∷ 16 ∷ []) ≡ false ∷ true ∷ false ∷ []
  -- .. and each entry, to the last
  pub whole_entries : map (λ i. fits (opening 0 0 0 0) (set table i (growing 19 0))) (0 ∷ 63 ∷ 64 ∷ 127 ∷ 128 ∷ 191 ∷ []) ≡ false ∷ false ∷ false ∷ false ∷ false ∷ false ∷ []
  -- .. and the connection: 3 may be open of type 0, and 5 of type 2
  pub whole_conn : map (λ c. fits c table) (opening 3 64 5 64 ∷ opening 4 64 5 64 ∷ opening 3 64 6 64 ∷ opening 3 65 5 64 ∷ opening 3 64 5 65 ∷ []) ≡ true ∷ false ∷ false ∷ false ∷ false ∷ []
