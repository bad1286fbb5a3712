-- Worked examples: the definitions, computed.
-- Assumes nothing.
use mathlib.Core.Path.{◌≡◌, refl}
use mathlib.Core.List.{[], ◌∷◌}
use Prim.Native.Nat.{◌-◌, ◌^◌}
use Rattle.text.specs.Decimal.{digits_of, decimal_of, value_from, is_digit, parsed_of}
use Rattle.text.specs.Text.{every}
use Rattle.answers.specs.declared.Answer.TheVariants.{NoRoom}
use Rattle.wire.specs.Writing.{Bytes, writes}
use Rattle.std.specs.Prelude.{Some, None, Ok, Err}

-- "0", "120", and the largest number, of 20 digits
zero_digit : decimal_of 0 ≡ 48 ∷ []
unfolding decimal_of digits_of
zero_digit = refl

three_digits : decimal_of 120 ≡ 49 ∷ 50 ∷ 48 ∷ []
unfolding decimal_of digits_of
three_digits = refl

largest : decimal_of (2 ^ 64 - 1) ≡ 49 ∷ 56 ∷ 52 ∷ 52 ∷ 54 ∷ 55 ∷ 52 ∷ 52 ∷ 48 ∷ 55 ∷ 51 ∷ 55 ∷ 48 ∷ 57 ∷ 53 ∷ 53 ∷ 49 ∷ 54 ∷ 49 ∷ 53 ∷ []
unfolding decimal_of digits_of
largest = refl

-- one more than the largest, the empty text, "4x" and "007"
too_large : parsed_of (49 ∷ 56 ∷ 52 ∷ 52 ∷ 54 ∷ 55 ∷ 52 ∷ 52 ∷ 48 ∷ 55 ∷ 51 ∷ 55 ∷ 48 ∷ 57 ∷ 53 ∷ 53 ∷ 49 ∷ 54 ∷ 49 ∷ 54 ∷ []) ≡ None
unfolding parsed_of every is_digit value_from
too_large = refl

empty : parsed_of [] ≡ None
unfolding parsed_of
empty = refl

another : parsed_of (52 ∷ 120 ∷ []) ≡ None
unfolding parsed_of every is_digit
another = refl

leading_zeros : parsed_of (48 ∷ 48 ∷ 55 ∷ []) ≡ Some 7
unfolding parsed_of every is_digit value_from
leading_zeros = refl

-- "ab" at place 1 of three bytes, and at place 2
text_written : writes (Bytes (97 ∷ 98 ∷ [])) (1 ∷ 2 ∷ 3 ∷ []) 1 ≡ (Ok 3, 1 ∷ 97 ∷ 98 ∷ [])
unfolding writes
text_written = refl

text_refused : writes (Bytes (97 ∷ 98 ∷ [])) (1 ∷ 2 ∷ 3 ∷ []) 2 ≡ (Err NoRoom, 1 ∷ 2 ∷ 3 ∷ [])
unfolding writes
text_refused = refl
