-- A line with a piece more is what writing the piece after it answers; and what is gathered, by whether a newline is found.
-- Assumes nothing.
use mathlib.Core.Path.{◌≡◌, ap}
use mathlib.Core.List.{List}
use Prim.Native.Nat.{ℕ, ◌+◌, ◌≤◌, ◌<◌}
use native.Mathlib.Numerals.{add-one}
use native.Mathlib.Omega.{arith}
use borrow.Author.Tests.{lt-ltb, le-ltb}
use lib.Dec.{ltb}
use lib.ListN.{length, take}
use Rattle.wire.specs.Writing.{Bytes, writes}
use Rattle.search.specs.Words.{find_of}
use Rattle.lines.specs.Gathered.{line_after, grown_of, piece_of, ends_in, used_of, gathered_of}
use Rattle.lines.proofs.Finding.{from_start, up_to, within}
use Rattle.std.specs.Prelude.{Option, Some, Result}
use Rattle.answers.specs.declared.Answer.{Answer}

pub as_written : (len : ℕ) (piece row : List ℕ) {w : Result ℕ Answer} {after : List ℕ} → (w, after) ≡ writes (Bytes piece) row len → {x : Option ℕ} → line_after w ≡ x → (x, after) ≡ grown_of (Some len) piece row
unfolding grown_of
as_written len piece row e f = rw (← f) (ap (λ (o : Result ℕ Answer × List ℕ). (line_after o.0, o.1)) e)

module _ (line : Option ℕ) (s row : List ℕ) (end : ℕ) (e : end ≡ find_of s 0 10) {grown : Option ℕ} {after : List ℕ} (g : (grown, after) ≡ grown_of line (take end s) row) where
  piece_more : (grown, after) ≡ grown_of line (piece_of s) row
  unfolding piece_of
  piece_more = rw (up_to s 10 end e) at g

  pub ended_line : end < length s → (record { line = grown; ended = ltb end (length s); used = end + 1 }, after) ≡ gathered_of line s row
  unfolding gathered_of ends_in used_of
  ended_line h = rw (← piece_more, add-one, ← from_start s 10 end e, lt-ltb end (length s) h)

  pub open_line : length s ≤ end → (record { line = grown; ended = ltb end (length s); used = end }, after) ≡ gathered_of line s row
  unfolding gathered_of ends_in used_of
  open_line h =
      let l : end ≡ length s = omega (arith, within s 10 end e) in
      rw (← piece_more, ← from_start s 10 end e, le-ltb end (length s) h, l)
