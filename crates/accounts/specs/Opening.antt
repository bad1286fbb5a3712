-- Opening with six different numbers, whole: which credit and which count goes to which type, the entries that are set, and what a refused opening gives. docs/RULES.md, "Local calls": "open a connection (initial stream credits for types 0, 1 and 2, counts for types 0 and 2, connection credit)".
use Rattle.std.specs.Prelude.{◌-◌, ◌^◌, ◌≡◌, [], ◌∷◌, map, length}
use Rattle.kinds.specs.declared.Role.TheVariants.{Server}
use Rattle.answers.specs.declared.Answer.TheVariants.{Accepted, AboveCeiling, Closed, DoesNotFit}
use Rattle.streams.specs.declared.Conn.{Conn}
use Rattle.streams.specs.declared.Limits.{Limits}
use Rattle.streams.specs.declared.Mark.{Mark}
use Rattle.streams.specs.declared.Mark.TheVariants.{Open, Code}
use Rattle.streams.specs.Conn.{advertised_of, initial_of, count_of}
use Rattle.entries.specs.Entry.{entry_at}
use Rattle.opening.specs.declared.Opened.{Opened}
use Rattle.opening.specs.Opening.{opened_conn, opening_of, opening_when, entries_of}
use Rattle.accounts.specs.History.{opened}
use Rattle.accounts.specs.Borders.{limits, growing}

-- six different numbers
abbrev pub six : Limits
six = limits 40 3 5 16 17 18

-- a connection with some limits on which nothing has happened
abbrev pub unused : Limits → Mark → Conn
unused o mark = record { limits = o; opened = 0 ∷ 0 ∷ 0 ∷ 0 ∷ []; total = 0; next = 0 ∷ 0 ∷ 0 ∷ []; mark = mark; role = Server }

abbrev pub is_opened : Limits → Opened
is_opened o = record { answer = Accepted; conn = unused o Open }

-- refused for a limit, and for the table: a connection that advertises nothing and is closed, with no type read
abbrev pub above_ceiling : Opened
above_ceiling = record { answer = AboveCeiling; conn = unused (limits 0 0 0 0 0 0) (Code AboveCeiling 0) }

abbrev pub does_not_fit : Opened
does_not_fit = record { answer = DoesNotFit; conn = unused (limits 0 0 0 0 0 0) (Code DoesNotFit 0) }

pub record Opening : Type 0 where
  -- "initial stream credits for types 0, 1 and 2"
  pub credits : map (initial_of six) (0 ∷ 1 ∷ 2 ∷ []) ≡ 16 ∷ 17 ∷ 18 ∷ []
  -- "counts for types 0 and 2"
  pub counts : map (advertised_of six) (0 ∷ 2 ∷ []) ≡ 3 ∷ 5 ∷ []
  -- the stream count of each type then: "For types 1 and 3 the stream count is the number we opened"
  pub counts_opened : map (count_of (opened_conn Server six Open)) (0 ∷ 1 ∷ 2 ∷ 3 ∷ []) ≡ 3 ∷ 0 ∷ 5 ∷ 0 ∷ []
  -- the connection: nothing open, nothing counted, no number handed out
  pub conn : opened_conn Server six Open ≡ unused six Open
  pub opens : opening_of Server six ≡ is_opened six
  -- zero limits are limits
  pub opens_nothing : opening_of Server (limits 0 0 0 0 0 0) ≡ is_opened (limits 0 0 0 0 0 0)
  -- "64 streams a type, credit 2^62-1": each at its ceiling
  pub opens_most : opening_of Server (limits (2 ^ 62 - 1) 64 64 (2 ^ 62 - 1) (2 ^ 62 - 1) (2 ^ 62 - 1)) ≡ is_opened (limits (2 ^ 62 - 1) 64 64 (2 ^ 62 - 1) (2 ^ 62 - 1) (2 ^ 62 - 1))
  -- .. and each one above it
  pub refuses : map (opening_of Server) (limits (2 ^ 62) 3 5 16 17 18 ∷ limits 40 65 5 16 17 18 ∷ limits 40 3 65 16 17 18 ∷ limits 40 3 5 (2 ^ 62) 17 18 ∷ limits 40 3 5 16 (2 ^ 62) 18 ∷ limits 40 3 5 16 17 (2 ^ 62) ∷ [])
      ≡ above_ceiling ∷ above_ceiling ∷ above_ceiling ∷ above_ceiling ∷ above_ceiling ∷ above_ceiling ∷ []
  -- "it is not 192 entries (all that opening asks)": 120, and before 103
  pub table : map (λ n. opening_when Server n six) (0 ∷ 191 ∷ 192 ∷ 193 ∷ []) ≡ does_not_fit ∷ does_not_fit ∷ is_opened six ∷ does_not_fit ∷ []
  pub table_first : map (λ n. opening_when Server n (limits (2 ^ 62) 3 5 16 17 18)) (191 ∷ 192 ∷ 193 ∷ []) ≡ does_not_fit ∷ above_ceiling ∷ does_not_fit ∷ []
  -- all entries are set where it is accepted, and none where it is refused
  pub sets : map entries_of (Accepted ∷ AboveCeiling ∷ DoesNotFit ∷ Closed ∷ []) ≡ 192 ∷ 0 ∷ 0 ∷ 0 ∷ []
  -- "Opening a connection sets every entry to its type's initial credit, end 0, no final size": the first and the last entry of each type
  pub set_entries : map (entry_at (opened Server six).table) (0 ∷ 63 ∷ 64 ∷ 127 ∷ 128 ∷ 191 ∷ []) ≡ growing 16 0 ∷ growing 16 0 ∷ growing 17 0 ∷ growing 17 0 ∷ growing 18 0 ∷ growing 18 0 ∷ []
  pub set_length : length (opened Server six).table ≡ 192
  pub set_conn : (opened Server six).conn ≡ unused six Open
