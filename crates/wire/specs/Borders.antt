-- The rules of numbers on the wire at their borders, from both sides: they hold the definitions to docs/RULES.md. Beside each, its sentence.
use Rattle.std.specs.Prelude.{◌≡◌, List, [], ◌∷◌, ◌++◌, map, ℕ, ◌-◌, ◌^◌, replicate, Option, Some, None, Ok, Err}
use Rattle.answers.specs.declared.Answer.TheVariants.{Unwritable, NoRoom}
use Rattle.wire.specs.Number.{number_at, size_of, bytes_of}
use Rattle.wire.specs.Writing.{writes, number_draft}

-- what is read at the place 0, for each of these
abbrev pub read_each : List (List ℕ) → List (Option (ℕ × ℕ))
read_each = map (λ (s : List ℕ). number_at s 0)

pub record Borders : Type 0 where
  -- "Writing uses the shortest form": 1, 2, 4 or 8 bytes
  pub sizes : map size_of (0 ∷ 63 ∷ 64 ∷ 16383 ∷ 16384 ∷ (2 ^ 30 - 1) ∷ 2 ^ 30 ∷ (2 ^ 62 - 1) ∷ []) ≡ 1 ∷ 1 ∷ 2 ∷ 2 ∷ 4 ∷ 4 ∷ 8 ∷ 8 ∷ []
  pub bytes_1 : bytes_of 63 ≡ 0x3f ∷ []
  pub bytes_2 : map bytes_of (64 ∷ 16383 ∷ []) ≡ (0x40 ∷ 0x40 ∷ []) ∷ (0x7f ∷ 0xff ∷ []) ∷ []
  pub bytes_4 : map bytes_of (16384 ∷ (2 ^ 30 - 1) ∷ []) ≡ (0x80 ∷ 0 ∷ 0x40 ∷ 0 ∷ []) ∷ (0xbf ∷ replicate 3 0xff) ∷ []
  pub bytes_8 : map bytes_of (2 ^ 30 ∷ (2 ^ 62 - 1) ∷ []) ≡ (0xc0 ∷ 0 ∷ 0 ∷ 0 ∷ 0x40 ∷ 0 ∷ 0 ∷ 0 ∷ []) ∷ replicate 8 0xff ∷ []
  -- "the top two bits of the first byte give 1, 2, 4 or 8 bytes": one fewer is cut short
  pub reads_1 : read_each ([] ∷ (0x3f ∷ []) ∷ (0x3f ∷ 0xff ∷ []) ∷ []) ≡ None ∷ Some (63, 1) ∷ Some (63, 1) ∷ []
  pub reads_2 : read_each ((0x40 ∷ []) ∷ (0x40 ∷ 1 ∷ []) ∷ (0x7f ∷ 0xff ∷ []) ∷ []) ≡ None ∷ Some (1, 2) ∷ Some (16383, 2) ∷ []
  pub reads_4 : read_each ((0x80 ∷ 0 ∷ 0 ∷ []) ∷ (0x80 ∷ 0 ∷ 0 ∷ 1 ∷ []) ∷ (0xbf ∷ replicate 3 0xff) ∷ []) ≡ None ∷ Some (1, 4) ∷ Some (2 ^ 30 - 1, 4) ∷ []
  pub reads_8 : read_each ((0xc0 ∷ replicate 6 0) ∷ (0xc0 ∷ replicate 6 0 ++ (1 ∷ [])) ∷ replicate 8 0xff ∷ []) ≡ None ∷ Some (1, 8) ∷ Some (2 ^ 62 - 1, 8) ∷ []
  -- at a place that is not the first
  pub reads_later : number_at (0xff ∷ 0xff ∷ 0x25 ∷ []) 2 ≡ Some (37, 3)
  -- "a value above 2^62-1" is 109, before 108; "output shorter than what is to be written" is 108 and leaves it; "Bytes past the written length stay"
  pub above_range : writes (number_draft (2 ^ 62)) [] 0 ≡ (Err Unwritable, [])
  pub no_room : writes (number_draft 64) (7 ∷ 7 ∷ []) 1 ≡ (Err NoRoom, 7 ∷ 7 ∷ [])
  pub room : writes (number_draft 64) (7 ∷ 7 ∷ 7 ∷ 7 ∷ []) 1 ≡ (Ok 3, 7 ∷ 0x40 ∷ 0x40 ∷ 7 ∷ [])
