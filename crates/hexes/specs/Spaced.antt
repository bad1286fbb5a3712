-- Bytes written with blanks and newlines before each and after the last, and a text with these taken out: what the laws of reading speak of.
use Rattle.std.specs.Prelude.{ℕ, ◌<◌, ◌≡◌, true, List, [], ◌∷◌, ◌++◌}
use Rattle.answers.specs.Choice.{◌⇒◌∣◌}
use Rattle.text.specs.Text.{every}
use Rattle.hexes.specs.Hex.{hex_of}
use Rattle.dumps.specs.Dump.{is_gap}

-- a text with its blanks and newlines taken out
unfoldable pub solid_of : List ℕ → List ℕ
solid_of [] = []
solid_of (c ∷ s) =
    is_gap c ⇒ solid_of s
    ∣ c ∷ solid_of s

-- a byte and what stands before it
pub record Spaced : Type 0 where
  pub gap : List ℕ
  pub byte : ℕ

-- the text of bytes, each after its gap, and of what stands after the last
unfoldable pub spaced_of : List Spaced → List ℕ → List ℕ
spaced_of [] last = last
spaced_of (x ∷ l) last = x.gap ++ (hex_of (x.byte ∷ []) ++ spaced_of l last)

-- what is meant by a gap: any number of blanks and newlines; and by spaced bytes: each is below 256 and stands after a gap
abbrev pub OnlyGaps : List ℕ → Type 0
OnlyGaps s = every is_gap s ≡ true

abbrev pub AreSpaced : List Spaced → Type 0
AreSpaced [] = Unit
AreSpaced (x ∷ l) = OnlyGaps x.gap × (x.byte < 256) × AreSpaced l
