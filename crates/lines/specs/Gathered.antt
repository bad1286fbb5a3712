-- A line that comes in pieces, kept at the front of a row of bytes until a newline (10) ends it.
use Rattle.std.specs.Prelude.{ℕ, suc, ◌≤◌, ◌≡◌, Bool, List, length, take, ltb, Option, Some, None, Result}
use Rattle.answers.specs.Choice.{◌⇒◌∣◌}
use Rattle.std.specs.Result.{result_ok}
use Rattle.wire.specs.Writing.{Bytes, writes}
use Rattle.search.specs.Words.{before}
use Rattle.lines.specs.declared.gather.Gathered.{Gathered}
use Rattle.answers.specs.declared.Answer.{Answer}

-- the line by what writing a piece after it answered: one that the row does not hold is too long
abbrev pub line_after : Result ℕ Answer → Option ℕ
line_after w = result_ok w

-- the line with a piece more, and the row then: the piece stands after what is kept; a line that is too long stays so
unfoldable pub grown_of : Option ℕ → List ℕ → List ℕ → Option ℕ × List ℕ
grown_of (Some len) piece row = let w = writes (Bytes piece) row len in (line_after w.0, w.1)
grown_of None piece row = (None, row)

-- what comes, up to the first newline
unfoldable pub piece_of : List ℕ → List ℕ
piece_of s = take (before 10 s) s

-- whether a newline comes
unfoldable pub ends_in : List ℕ → Bool
ends_in s = ltb (before 10 s) (length s)

-- how many bytes are used: the piece and its newline
unfoldable pub used_of : List ℕ → ℕ
used_of s =
    ends_in s ⇒ suc (before 10 s)
    ∣ length s

-- the line with what comes up to the first newline, and the row then
unfoldable pub gathered_of : Option ℕ → List ℕ → List ℕ → Gathered × List ℕ
gathered_of line s row =
    let g = grown_of line (piece_of s) row in
    (record { line = g.0; ended = ends_in s; used = used_of s }, g.1)

-- what is meant by a row and a line that keep the text l: as much of it as the row holds is there, or it is known to be too long
pub record Keeps (row : List ℕ) (line : Option ℕ) (l : List ℕ) : Type 0 where
  pub known : line ≡ (grown_of (Some 0) l row).0
  pub there : length l ≤ length row → take (length l) row ≡ l
