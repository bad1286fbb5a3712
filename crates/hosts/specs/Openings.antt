-- docs/RULES.md, "Local calls": "Opening a connection sets every entry to its type's initial credit, end 0, no final size", whatever stood there; and what a refused opening leaves.
use Rattle.std.specs.Prelude.{ℕ, ◌^◌, ◌≡◌, List, [], ◌∷◌, ◌++◌, map, replicate}
use Rattle.kinds.specs.declared.Role.TheVariants.{Server}
use Rattle.answers.specs.Answers.{number_of}
use Rattle.answers.specs.declared.Answer.TheVariants.{AboveCeiling, DoesNotFit}
use Rattle.streams.specs.declared.Conn.{Conn}
use Rattle.streams.specs.declared.Mark.{Mark}
use Rattle.streams.specs.declared.Mark.TheVariants.{Open, Code}
use Rattle.streams.specs.declared.Limits.{Limits}
use Rattle.entries.specs.declared.Entry.{Entry}
use Rattle.entries.specs.Entry.{fresh}
use Rattle.opening.specs.Opening.{opening_when}
use Rattle.tables.specs.Opened.{opened_table}
use Rattle.hosts.specs.Unfit.{limits_of, sized, plain}

-- limits that grant nothing
abbrev pub no_limits : Limits
no_limits = limits_of 0 0 0 0 0 0

-- a connection of which nothing came
abbrev pub conn_of : Limits → Mark → Conn
conn_of limits mark = record { limits = limits; opened = 0 ∷ 0 ∷ 0 ∷ 0 ∷ []; total = 0; next = 0 ∷ 0 ∷ 0 ∷ []; mark = mark; role = Server }

-- n entries of whatever stood there before
abbrev pub used : ℕ → List Entry
used n = replicate n (sized 1 2 3)

-- each of the six numbers above its ceiling
abbrev pub too_high : List Limits
too_high = limits_of (2 ^ 62) 4 5 16 17 18 ∷ limits_of 100 65 5 16 17 18 ∷ limits_of 100 4 65 16 17 18 ∷ limits_of 100 4 5 (2 ^ 62) 17 18 ∷ limits_of 100 4 5 16 (2 ^ 62) 18 ∷ limits_of 100 4 5 16 17 (2 ^ 62) ∷ []

pub record Openings : Type 0 where
  -- Opening "sets every entry to its type's initial credit, end 0, no final size", whatever stood there
  pub opened_conn : (opening_when Server 192 (limits_of 100 4 5 16 17 18)).conn ≡ conn_of (limits_of 100 4 5 16 17 18) Open
  pub opened_entries : opened_table Server (used 192) (limits_of 100 4 5 16 17 18) ≡ replicate 64 (fresh 16) ++ (replicate 64 (fresh 17) ++ replicate 64 (fresh 18))
  -- "not 192 entries" is 120, and before 103; a refused opening leaves the table, and gives a connection that is closed and grants nothing
  pub unopened_answers : map (λ (n : ℕ). map (λ (l : Limits). number_of (opening_when Server n l).answer) too_high) (191 ∷ 192 ∷ 193 ∷ []) ≡ replicate 6 120 ∷ replicate 6 103 ∷ replicate 6 120 ∷ []
  pub unopened_conns : map (λ (l : Limits). (opening_when Server 192 l).conn) too_high ≡ replicate 6 (conn_of no_limits (Code AboveCeiling 0))
  pub unopened_tables : map (λ (l : Limits). opened_table Server (used 192) l) too_high ≡ replicate 6 (used 192)
  pub not_192_conns : map (λ (n : ℕ). (opening_when Server n plain).conn) (0 ∷ 191 ∷ 193 ∷ []) ≡ replicate 3 (conn_of no_limits (Code DoesNotFit 0))
  pub not_192_tables : map (λ (n : ℕ). opened_table Server (used n) plain) (191 ∷ 193 ∷ []) ≡ map used (191 ∷ 193 ∷ [])
