-- Decimal digits, as the characters 48 to 57: a number of 64 bits in them, and what a text of them is.
use Rattle.std.specs.Prelude.{ℕ, zero, suc, ◌+◌, ◌*◌, ◌-◌, ◌/◌, ◌%◌, ◌^◌, Bool, not, ◌&&◌, List, [], ◌∷◌, ◌++◌, length, leb, ltb, eqb, Option, Some, None}
use Rattle.answers.specs.Choice.{◌⇒◌∣◌}
use Rattle.text.specs.Text.{every}

-- the digits of n, the highest first, none for 0: all of them, if they are no more than k
unfoldable pub digits_of : ℕ → ℕ → List ℕ
digits_of zero n = []
digits_of (suc k) n =
    eqb n 0 ⇒ []
    ∣ digits_of k (n / 10) ++ ((48 + n % 10) ∷ [])

-- a number below 10^20 in digits: the last one is always there
unfoldable pub decimal_of : ℕ → List ℕ
decimal_of n = digits_of 19 (n / 10) ++ ((48 + n % 10) ∷ [])

-- the value of digits that stand after those of v
unfoldable pub value_from : ℕ → List ℕ → ℕ
value_from v [] = v
value_from v (c ∷ l) = value_from (v * 10 + (c - 48)) l

unfoldable pub is_digit : ℕ → Bool
is_digit c = leb 48 c && leb c 57

-- what a text is: one or more digits with a value that 64 bits hold, or nothing of the kind
unfoldable pub parsed_of : List ℕ → Option ℕ
parsed_of s =
    eqb (length s) 0 ⇒ None
    ∣ not (every is_digit s) ⇒ None
    ∣ ltb (2 ^ 64 - 1) (value_from 0 s) ⇒ None
    ∣ Some (value_from 0 s)
