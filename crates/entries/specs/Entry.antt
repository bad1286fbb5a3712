-- An entry of the stream table, docs/RULES.md, "Streams and credit": "An entry holds credit, furthest end, and final size if known".
use Rattle.std.specs.Prelude.{ℕ, ◌-◌, ◌^◌, max, Bool, true, false, List, get_or, eqb, Option, Some, None}
use Rattle.answers.specs.Choice.{◌⇒◌∣◌}
use Rattle.halves.specs.Stream.{place_of}
use Rattle.entries.specs.declared.Entry.{Entry}

-- "credit 2^62-1"
abbrev pub most_credit : ℕ
most_credit = 2 ^ 62 - 1

-- the final size, if it is known: a value that no stream can have stands for none
unfoldable pub final_of : ℕ → Option ℕ
final_of size =
    eqb size (2 ^ 64 - 1) ⇒ None
    ∣ Some size

abbrev pub is_known : Option ℕ → Bool
is_known None = false
is_known (Some size) = true

-- an entry as opening sets it
abbrev pub fresh : ℕ → Entry
fresh credit = record { credit = credit; end = 0; size = 2 ^ 64 - 1 }

-- "Acceptance sets furthest end, total and, where given, final size"
unfoldable pub reached : Entry → ℕ → Bool → Entry
reached e end fin = record { credit = e.credit; end = max e.end end; size = fin ⇒ end ∣ e.size }

-- with another credit
abbrev pub credited : Entry → ℕ → Entry
credited e credit = record { credit = credit; end = e.end; size = e.size }

-- an entry of a table, and the entry of a stream
abbrev pub entry_at : List Entry → ℕ → Entry
entry_at t i = get_or t i (fresh 0)

abbrev pub entry_of : List Entry → ℕ → Entry
entry_of t id = entry_at t (place_of id)
