-- Bytes in hexadecimal: each as two digits, the higher first; written in lower case, read in either.
use Rattle.std.specs.Prelude.{ℕ, ◌+◌, ◌*◌, ◌/◌, ◌%◌, Bool, not, ◌&&◌, List, [], ◌∷◌, length, ltb, eqb, Result, Ok, Err}
use Rattle.std.proofs.lemmas.List.Edits.{sets}
use Rattle.answers.specs.Choice.{◌⇒◌∣◌}
use Rattle.text.specs.Text.{every}
use Rattle.dumps.specs.Digits.{half_of, is_half}
use Rattle.std.specs.Option.{unwrap_or}
use Rattle.hexes.specs.declared.HexError.{HexError}
use Rattle.hexes.specs.declared.HexError.TheVariants.{Wrong, NoRoom}

-- the digit of half a byte: 0 to 9, then a to f
unfoldable pub digit_of : ℕ → ℕ
digit_of h =
    ltb h 10 ⇒ 48 + h
    ∣ 87 + h

-- the digits of bytes
unfoldable pub hex_of : List ℕ → List ℕ
hex_of [] = []
hex_of (b ∷ l) = digit_of (b / 16) ∷ digit_of (b % 16) ∷ hex_of l

-- whether a text is pairs of digits
unfoldable pub is_pairs : List ℕ → Bool
is_pairs s = eqb (length s % 2) 0 && every is_half s

-- the bytes of pairs
unfoldable pub bytes_in : List ℕ → List ℕ
bytes_in [] = []
bytes_in (a ∷ []) = []
bytes_in (a ∷ b ∷ l) = (unwrap_or (half_of a) 0 * 16 + unwrap_or (half_of b) 0) ∷ bytes_in l

-- what reading a text answers, and the output at exit: the bytes at its front and all else as it was; after a refusal all as it was
unfoldable pub pairs_of : List ℕ → List ℕ → Result ℕ HexError × List ℕ
pairs_of s out =
    not (is_pairs s) ⇒ (Err Wrong, out)
    ∣ ltb (length out) (length s / 2) ⇒ (Err NoRoom, out)
    ∣ (Ok (length s / 2), sets out 0 (bytes_in s))
