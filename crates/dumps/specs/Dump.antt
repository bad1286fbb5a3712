-- Bytes in hexadecimal as a person copies them out of a capture: two digits for each, in either case, with blanks (32) and newlines (10) between bytes alone.
-- A text may come in pieces, so that one can begin inside a byte: `half` is the value of the digit that the byte has begun with, or none where none has begun.
use Rattle.std.specs.Prelude.{ℕ, ◌+◌, ◌*◌, Bool, ◌||◌, List, [], ◌∷◌, ◌++◌, length, ltb, eqb, Option, Some, None, Result, Ok, Err}
use Rattle.std.proofs.lemmas.List.Edits.{sets}
use Rattle.answers.specs.Choice.{◌⇒◌∣◌}
use Rattle.dumps.specs.Digits.{half_of}
use Rattle.dumps.specs.declared.Step.{Step}
use Rattle.dumps.specs.declared.Step.TheVariants.{Between, Begun, Byte}
use Rattle.dumps.specs.declared.Taken.{Taken}
use Rattle.dumps.specs.declared.DumpError.{DumpError}
use Rattle.dumps.specs.declared.DumpError.TheVariants.{Wrong, NoRoom}

-- what may stand between bytes
unfoldable pub is_gap : ℕ → Bool
is_gap c = eqb c 32 || eqb c 10

-- a character where no byte has begun, by the digit that it is
abbrev pub first_by : Option ℕ → ℕ → Option Step
first_by (Some digit) c = Some (Begun digit)
first_by None c =
    is_gap c ⇒ Some Between
    ∣ None

unfoldable pub first_of : ℕ → Option Step
first_of c = first_by (half_of c) c

-- a character where a byte has begun with the digit half, by the digit that it is
abbrev pub second_by : ℕ → Option ℕ → Option Step
second_by half (Some digit) = Some (Byte (half * 16 + digit))
second_by half None = None

unfoldable pub second_of : ℕ → ℕ → Option Step
second_of half c = second_by half (half_of c)

-- the digit that a byte has begun with: 16 and above count as none
abbrev pub begun_by : Option ℕ → Option ℕ
begun_by (Some half) =
    ltb half 16 ⇒ Some half
    ∣ None
begun_by None = None

unfoldable pub begun_of : Option ℕ → Option ℕ
begun_of half = begun_by half

-- a character after a digit that has begun a byte, or after none
abbrev pub next_by : Option ℕ → ℕ → Option Step
next_by (Some half) c = second_of half c
next_by None c = first_of c

unfoldable pub next_of : Option ℕ → ℕ → Option Step
next_of half c = next_by (begun_of half) c

-- what is read of a text: the digit that a byte is left begun with, the characters used, and the bytes
pub record Reading : Type 0 where
  pub half : Option ℕ
  pub used : ℕ
  pub bytes : List ℕ

-- nothing is read
abbrev pub stopped : Option ℕ → Reading
stopped half = record { half = half; used = 0; bytes = [] }

-- what is read, after n characters that gave these bytes
abbrev pub behind : ℕ → List ℕ → Reading → Reading
behind n bytes r = record { half = r.half; used = n + r.used; bytes = bytes ++ r.bytes }

-- a text by what its first character is; `rest` is what is read of the other ones, by the digit that a byte has then begun with
unfoldable pub stepped : Option Step → Option ℕ → (Option ℕ → Reading) → Reading
stepped (Some Between) half rest = behind 1 [] (rest half)
stepped (Some (Begun first)) half rest = behind 1 [] (rest (Some first))
stepped (Some (Byte byte)) half rest = behind 1 (byte ∷ []) (rest None)
stepped None half rest = stopped half

-- a text, up to the first character that cannot stand where it does
unfoldable pub read_of : Option ℕ → List ℕ → Reading
read_of half [] = stopped half
read_of half (c ∷ s) = stepped (next_of half c) half (λ h. read_of h s)

-- what a piece of n characters answers by what is read of it: all of it, or a wrong character
abbrev pub answer_of : ℕ → Reading → Result Taken DumpError
answer_of n r =
    ltb r.used n ⇒ Err (Wrong r.used r.half (length r.bytes))
    ∣ Ok (record { half = r.half; len = length r.bytes })

-- what taking a piece answers, and the output at exit: the bytes at its front and all else as it was
unfoldable pub taken_of : Option ℕ → List ℕ → List ℕ → Result Taken DumpError × List ℕ
taken_of half s out =
    let r = read_of (begun_of half) s in
    ltb (length out) (length s) ⇒ (Err NoRoom, out)
    ∣ (answer_of (length s) r, sets out 0 r.bytes)
