-- What every writer answers and leaves (docs/RULES.md, "Answer numbers", 108 and 109): what can never be written is refused first, then too little room is 108;
-- else all the bytes stand at the place and all else is as it was, and after a refusal all is as it was.
use Rattle.std.specs.Prelude.{◌≡◌, ℕ, ◌+◌, ◌-◌, ◌^◌, ◌≤◌, List, length, ltb, Result, Ok, Err}
use Rattle.std.proofs.lemmas.List.Edits.{sets}
use Rattle.answers.specs.Choice.{◌⇒◌∣◌}
use Rattle.answers.specs.declared.Answer.{Answer}
use Rattle.answers.specs.declared.Answer.TheVariants.{NoRoom, Unwritable}
use Rattle.wire.specs.Number.{bytes_of, Stands}

-- what is to be written: bytes, or the answer that refuses it before any room is asked
pub data Draft : Type 0 where
  Bytes : List ℕ → Draft
  Never : Answer → Draft

-- the answer, and the output at exit
unfoldable pub writes : Draft → List ℕ → ℕ → Result ℕ Answer × List ℕ
writes (Never answer) out at = (Err answer, out)
writes (Bytes l) out at =
    ltb (length out) (at + length l) ⇒ (Err NoRoom, out)
    ∣ (Ok (at + length l), sets out at l)

-- a number on the wire: above 2^62-1 there is no form, 109
unfoldable pub number_draft : ℕ → Draft
number_draft v =
    ltb (2 ^ 62 - 1) v ⇒ Never Unwritable
    ∣ Bytes (bytes_of v)

-- what holds of bytes l that were written up to the place n: n is past them and within the output, in which they stand, and which is else as it was
pub record Written (l out : List ℕ) (at n : ℕ) (after : List ℕ) : Type 0 where
  pub ends : n ≡ at + length l
  pub room : n ≤ length out
  pub holds : after ≡ sets out at l
  pub stands : Stands after at l
