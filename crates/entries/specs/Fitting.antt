-- When an entry fits by itself, docs/RULES.md, "120 for the table".
use Rattle.std.specs.Prelude.{ℕ, Bool, true, not, ◌&&◌, ◌||◌, ltb, leb, eqb, Option, Some, None}
use Rattle.entries.specs.Entry.{most_credit, final_of, is_known}
use Rattle.entries.specs.declared.Entry.{Entry}

-- a known final size is the end
abbrev pub size_fits : Option ℕ → ℕ → Bool
size_fits None end = true
size_fits (Some size) end = eqb size end

-- as opening sets it
unfoldable pub is_fresh : Entry → ℕ → Bool
is_fresh e credit = eqb e.credit credit && (eqb e.end 0 && not (is_known (final_of e.size)))

-- an entry at an ordinal of its half, of which so many are open and whose initial credit is init: its end is within its credit, a known final size is the end, it is as opening set it unless it is open,
-- and its credit is within the ceiling
unfoldable pub entry_fits_as : ℕ → ℕ → ℕ → Entry → Bool
entry_fits_as opened init n e =
    leb e.end e.credit
    && (size_fits (final_of e.size) e.end
    && ((ltb n opened || is_fresh e init)
    && leb e.credit most_credit))
