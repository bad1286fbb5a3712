-- What a line, a word and its characters are at their borders, from both sides (docs/REPLAY.md, "Lines"): "A line is words with single blanks between them", numbers are decimal, 0 to 2^64-1, bytes are pairs of hexadecimal digits in either case.
use Rattle.std.specs.Prelude.{ℕ, ◌-◌, ◌^◌, ◌≡◌, Bool, true, false, List, [], ◌∷◌, ◌++◌, map, replicate, Option, Some, None, Ok, Err}
use Rattle.text.specs.Decimal.{is_digit, parsed_of}
use Rattle.hexes.specs.Hex.{pairs_of}
use Rattle.dumps.specs.Digits.{half_of}
use Rattle.hexes.specs.declared.HexError.TheVariants.{Wrong, NoRoom}
use Rattle.lines.specs.declared.words.Signed.TheVariants.{Plus, Minus}
use Rattle.lines.specs.declared.gather.Gathered.{Gathered}
use Rattle.lines.specs.Gathered.{gathered_of}
use Rattle.lines.specs.Words.{count_of, word_of, signed_of, bytes_of}

-- 2^64-1 in digits, less its last one, which is "5"
abbrev pub most : List ℕ
most = 49 ∷ 56 ∷ 52 ∷ 52 ∷ 54 ∷ 55 ∷ 52 ∷ 52 ∷ 48 ∷ 55 ∷ 51 ∷ 55 ∷ 48 ∷ 57 ∷ 53 ∷ 53 ∷ 49 ∷ 54 ∷ 49 ∷ []

-- a line, whether it has ended, and how much was used of what came
abbrev pub gathered : Option ℕ → Bool → ℕ → Gathered
gathered line ended used = record { line = line; ended = ended; used = used }

pub record Borders : Type 0 where
  -- "", " ", "a", "a b", " a", "a ", "a  b", and a tab, which is no blank
  pub counts : map count_of ([] ∷ (32 ∷ []) ∷ (97 ∷ []) ∷ (97 ∷ 32 ∷ 98 ∷ []) ∷ (32 ∷ 97 ∷ []) ∷ (97 ∷ 32 ∷ []) ∷ (97 ∷ 32 ∷ 32 ∷ 98 ∷ []) ∷ (97 ∷ 9 ∷ 98 ∷ []) ∷ []) ≡ 0 ∷ 0 ∷ 1 ∷ 2 ∷ 0 ∷ 0 ∷ 0 ∷ 1 ∷ []
  -- the words of "a bc" count from 0, and one that is not there is empty
  pub words : map (word_of (97 ∷ 32 ∷ 98 ∷ 99 ∷ [])) (0 ∷ 1 ∷ 2 ∷ []) ≡ (97 ∷ []) ∷ (98 ∷ 99 ∷ []) ∷ [] ∷ []
  -- "/", "0", "9" and ":"
  pub digits : map is_digit (47 ∷ 48 ∷ 57 ∷ 58 ∷ []) ≡ false ∷ true ∷ true ∷ false ∷ []
  -- 2^64-1, one more, ten times as much; zeros before a number, more of them than a number has digits
  pub numbers : map parsed_of ((most ++ (53 ∷ [])) ∷ (most ++ (54 ∷ [])) ∷ (most ++ (53 ∷ 48 ∷ [])) ∷ (replicate 21 48 ++ (55 ∷ [])) ∷ (48 ∷ []) ∷ []) ≡ Some (2 ^ 64 - 1) ∷ None ∷ None ∷ Some 7 ∷ Some 0 ∷ []
  -- "5", "-5", "-0", "-", "--5", "+5", "5-" and ""
  pub signs : map signed_of ((53 ∷ []) ∷ (45 ∷ 53 ∷ []) ∷ (45 ∷ 48 ∷ []) ∷ (45 ∷ []) ∷ (45 ∷ 45 ∷ 53 ∷ []) ∷ (43 ∷ 53 ∷ []) ∷ (53 ∷ 45 ∷ []) ∷ [] ∷ []) ≡ Some (Plus 5) ∷ Some (Minus 5) ∷ Some (Minus 0) ∷ None ∷ None ∷ None ∷ None ∷ None ∷ []
  -- "/", "0", "9", ":"; "@", "A", "F", "G"; "`", "a", "f", "g"
  pub halves : map half_of (47 ∷ 48 ∷ 57 ∷ 58 ∷ 64 ∷ 65 ∷ 70 ∷ 71 ∷ 96 ∷ 97 ∷ 102 ∷ 103 ∷ []) ≡ None ∷ Some 0 ∷ Some 9 ∷ None ∷ None ∷ Some 10 ∷ Some 15 ∷ None ∷ None ∷ Some 10 ∷ Some 15 ∷ None ∷ []
  -- "1f2e" into three bytes, two and one; "1f2" and "1g2e", also where they would have no room; none
  pub pairs : map (λ (n : ℕ). pairs_of (49 ∷ 102 ∷ 50 ∷ 101 ∷ []) (replicate n 9)) (3 ∷ 2 ∷ 1 ∷ []) ≡ (Ok 2, 0x1f ∷ 0x2e ∷ 9 ∷ []) ∷ (Ok 2, 0x1f ∷ 0x2e ∷ []) ∷ (Err NoRoom, 9 ∷ []) ∷ []
  pub no_pairs : map (λ (s : List ℕ). pairs_of s []) ((49 ∷ 102 ∷ 50 ∷ []) ∷ (49 ∷ 103 ∷ 50 ∷ 101 ∷ []) ∷ [] ∷ []) ≡ (Err Wrong, []) ∷ (Err Wrong, []) ∷ (Ok 0, []) ∷ []
  -- "-" is no bytes; "--" is none of the kind
  pub dash : map (λ (s : List ℕ). bytes_of s (9 ∷ [])) ((45 ∷ []) ∷ (45 ∷ 45 ∷ []) ∷ []) ≡ (Ok 0, 9 ∷ []) ∷ (Err Wrong, 9 ∷ []) ∷ []
  -- after "c" on a row of three: "a" and a newline, "ab", "ab" and a newline, "abd" and one, a newline alone; what comes after a newline is left
  pub pieces : map (λ (s : List ℕ). gathered_of (Some 1) s (99 ∷ 0 ∷ 0 ∷ [])) ((97 ∷ 10 ∷ 98 ∷ []) ∷ (97 ∷ 98 ∷ []) ∷ (97 ∷ 98 ∷ 10 ∷ []) ∷ (97 ∷ 98 ∷ 100 ∷ 10 ∷ []) ∷ (10 ∷ 97 ∷ []) ∷ [] ∷ [])
      ≡ (gathered (Some 2) true 2, 99 ∷ 97 ∷ 0 ∷ []) ∷ (gathered (Some 3) false 2, 99 ∷ 97 ∷ 98 ∷ []) ∷ (gathered (Some 3) true 3, 99 ∷ 97 ∷ 98 ∷ []) ∷ (gathered None true 4, 99 ∷ 0 ∷ 0 ∷ []) ∷ (gathered (Some 1) true 1, 99 ∷ 0 ∷ 0 ∷ []) ∷ (gathered (Some 1) false 0, 99 ∷ 0 ∷ 0 ∷ []) ∷ []
  -- "A line of more than 4,096 bytes answers `too long`": one that is too long stays so up to its newline
  pub stays_long : gathered_of None (97 ∷ 10 ∷ 98 ∷ []) (0 ∷ 0 ∷ []) ≡ (gathered None true 2, 0 ∷ 0 ∷ [])
