-- What a text is at its borders, from both sides: digits and what is next to them, gaps between bytes and inside one, a byte that one piece begins and the next ends, and the output's room.
use Rattle.std.specs.Prelude.{ℕ, ◌≡◌, List, [], ◌∷◌, map, replicate, Option, Some, None, Result, Ok, Err}
use Rattle.dumps.specs.declared.Taken.{Taken}
use Rattle.dumps.specs.declared.DumpError.{DumpError}
use Rattle.dumps.specs.declared.DumpError.TheVariants.{Wrong, NoRoom}
use Rattle.dumps.specs.Dump.{taken_of}

-- a text that was read to its end, and one with a wrong character
abbrev pub all_read : Option ℕ → ℕ → Result Taken DumpError
all_read half n = Ok (record { half = half; len = n })

abbrev pub wrong_at : ℕ → Option ℕ → ℕ → Result Taken DumpError
wrong_at place half n = Err (Wrong place half n)

-- what a text answers after a digit, on an output of 8 bytes that are 9
abbrev pub told : Option ℕ → List ℕ → Result Taken DumpError
told half s = (taken_of half s (replicate 8 9)).0

-- what each character answers where no byte has begun, and where one has with the digit 1
abbrev pub free : List ℕ → List (Result Taken DumpError)
free l = map (λ (c : ℕ). told None (c ∷ [])) l

abbrev pub inside : List ℕ → List (Result Taken DumpError)
inside l = map (λ (c : ℕ). told (Some 1) (c ∷ [])) l

pub record Borders : Type 0 where
  -- "0a 0B", a newline, "0c": its bytes stand at the front, and all else stays
  pub three : taken_of None (48 ∷ 97 ∷ 32 ∷ 48 ∷ 66 ∷ 10 ∷ 48 ∷ 99 ∷ []) (replicate 8 9) ≡ (all_read None 3, 10 ∷ 11 ∷ 12 ∷ 9 ∷ 9 ∷ 9 ∷ 9 ∷ 9 ∷ [])
  -- "0", "9", "A", "F", "a", "f" begin a byte, and end one
  pub digits : free (48 ∷ 57 ∷ 65 ∷ 70 ∷ 97 ∷ 102 ∷ []) ≡ all_read (Some 0) 0 ∷ all_read (Some 9) 0 ∷ all_read (Some 10) 0 ∷ all_read (Some 15) 0 ∷ all_read (Some 10) 0 ∷ all_read (Some 15) 0 ∷ []
  pub second : map (λ (c : ℕ). taken_of (Some 1) (c ∷ []) (9 ∷ [])) (48 ∷ 57 ∷ 65 ∷ 70 ∷ 97 ∷ 102 ∷ []) ≡ (all_read None 1, 0x10 ∷ []) ∷ (all_read None 1, 0x19 ∷ []) ∷ (all_read None 1, 0x1a ∷ []) ∷ (all_read None 1, 0x1f ∷ []) ∷ (all_read None 1, 0x1a ∷ []) ∷ (all_read None 1, 0x1f ∷ []) ∷ []
  -- "/", ":", "@", "G", "`", "g" do neither
  pub others : free (47 ∷ 58 ∷ 64 ∷ 71 ∷ 96 ∷ 103 ∷ []) ≡ replicate 6 (wrong_at 0 None 0)
  pub others_inside : inside (47 ∷ 58 ∷ 64 ∷ 71 ∷ 96 ∷ 103 ∷ []) ≡ replicate 6 (wrong_at 0 (Some 1) 0)
  -- a blank and a newline stand between bytes; a tab, the characters next to a newline, a return and those next to a blank do not; none of them stands inside a byte
  pub gaps : free (32 ∷ 10 ∷ []) ≡ all_read None 0 ∷ all_read None 0 ∷ []
  pub no_gaps : free (0 ∷ 9 ∷ 11 ∷ 13 ∷ 31 ∷ 33 ∷ 255 ∷ []) ≡ replicate 7 (wrong_at 0 None 0)
  pub gaps_inside : inside (32 ∷ 10 ∷ 9 ∷ 13 ∷ []) ≡ replicate 4 (wrong_at 0 (Some 1) 0)
  -- gaps alone, before the first byte and after the last; "0 a", "0a 1 2" and "0az": the place of the wrong character, the digit before it, and the bytes up to there
  pub around : map (told None) ((32 ∷ 10 ∷ 32 ∷ []) ∷ (10 ∷ 32 ∷ 48 ∷ 97 ∷ 10 ∷ 10 ∷ []) ∷ []) ≡ all_read None 0 ∷ all_read None 1 ∷ []
  pub wrong : map (told None) ((48 ∷ 32 ∷ 97 ∷ []) ∷ (48 ∷ 97 ∷ 32 ∷ 49 ∷ 32 ∷ 50 ∷ []) ∷ (48 ∷ 97 ∷ 122 ∷ []) ∷ []) ≡ wrong_at 1 (Some 0) 0 ∷ wrong_at 4 (Some 1) 1 ∷ wrong_at 2 None 1 ∷ []
  -- what stands before a wrong character is written, and nothing after it
  pub written : taken_of None (48 ∷ 97 ∷ 122 ∷ 48 ∷ 98 ∷ []) (replicate 5 9) ≡ (wrong_at 2 None 1, 10 ∷ 9 ∷ 9 ∷ 9 ∷ 9 ∷ [])
  -- "0a1" leaves its last digit; "f" and " f" after the digit 1; "f" after 15, which is a digit, after none, and after 16, 17 and 255, which count as none
  pub left : told None (48 ∷ 97 ∷ 49 ∷ []) ≡ all_read (Some 1) 1
  pub carried : map (told (Some 1)) ((102 ∷ []) ∷ (32 ∷ 102 ∷ []) ∷ []) ≡ all_read None 1 ∷ wrong_at 0 (Some 1) 0 ∷ []
  pub halves : map (λ (half : Option ℕ). told half (102 ∷ [])) (Some 15 ∷ None ∷ Some 16 ∷ Some 17 ∷ Some 255 ∷ []) ≡ all_read None 1 ∷ all_read (Some 15) 0 ∷ all_read (Some 15) 0 ∷ all_read (Some 15) 0 ∷ all_read (Some 15) 0 ∷ []
  -- the empty text leaves what has begun; it asks no room
  pub empty : map (λ (half : Option ℕ). taken_of half [] []) (Some 0 ∷ Some 15 ∷ None ∷ Some 16 ∷ Some 17 ∷ Some 255 ∷ []) ≡ (all_read (Some 0) 0, []) ∷ (all_read (Some 15) 0, []) ∷ (all_read None 0, []) ∷ (all_read None 0, []) ∷ (all_read None 0, []) ∷ (all_read None 0, []) ∷ []
  -- "0a" into two bytes and into one; what is wrong is not looked for where there is no room
  pub room : map (λ (n : ℕ). taken_of None (48 ∷ 97 ∷ []) (replicate n 9)) (2 ∷ 1 ∷ []) ≡ (all_read None 1, 10 ∷ 9 ∷ []) ∷ (Err NoRoom, 9 ∷ []) ∷ []
  pub no_room : taken_of None (122 ∷ 122 ∷ []) (9 ∷ []) ≡ (Err NoRoom, 9 ∷ [])
