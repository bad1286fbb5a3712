-- The rules of a packet record at their borders, from both sides: they hold the definitions to docs/RULES.md. Beside each, its sentence.
use Rattle.std.specs.Prelude.{◌≡◌, true, false, List, [], ◌∷◌, ◌++◌, map, ℕ, ◌+◌, ◌-◌, ◌^◌, replicate, None, Ok, Err}
use Rattle.answers.specs.Answers.{number_of}
use Rattle.answers.specs.declared.Answer.TheVariants.{DoesNotFit}
use Rattle.records.specs.declared.Record.{Record}
use Rattle.records.specs.Found.{found_of}
use Rattle.records.specs.Marks.{none_of, sound_of, check_of}
use Rattle.records.specs.Ring.{taken_of}
use Rattle.windows.specs.History.{answer_after, taken_numbers}
use Rattle.ring.specs.Runs.{span}

-- a record that marks 0, or another number of its slot, alone
abbrev pub first_slot : ℕ → Record
first_slot top = record { words = 1 ∷ replicate 127 0; top = top }

-- and one that marks the last slot alone
abbrev pub last_slot : ℕ → Record
last_slot top = record { words = replicate 127 0 ++ (2 ^ 63 ∷ []); top = top }

-- a record that marks 0, 1 and 3
abbrev pub three : Record
three = record { words = 11 ∷ replicate 127 0; top = 4 }

-- a record whose first and last words are these, and no other has a bit
abbrev pub seam : ℕ → ℕ → ℕ → Record
seam first last top = record { words = first ∷ (replicate 126 0 ++ (last ∷ [])); top = top }

-- the answers to numbers that come to a record, each to it as it is
abbrev pub answers_to : Record → List ℕ → List ℕ
answers_to R = map (λ (n : ℕ). number_of (taken_of R n).answer)

-- and to a record that was new, after these came, the latest first
abbrev pub answers_after : List ℕ → List ℕ → List ℕ
answers_after xs = map (λ (n : ℕ). number_of (answer_after (taken_numbers xs) n))

pub record Borders : Type 0 where
  -- "One that marks a number below 0": while nothing is recorded every mark is one
  pub new : sound_of none_of ≡ true
  pub stray : sound_of (first_slot 0) ≡ false
  pub below_zero : sound_of (record { words = 3 ∷ replicate 127 0; top = 1 }) ≡ false
  -- "or whose largest number is not marked"
  pub unmarked_largest : sound_of (record { words = replicate 128 0; top = 1 }) ≡ false
  pub marked_largest : sound_of (first_slot 1) ≡ true
  pub other_marked : sound_of (first_slot 2) ≡ false
  -- "or above 2^62-1, is 120"
  pub highest : sound_of (last_slot (2 ^ 62)) ≡ true
  pub above_highest : sound_of (first_slot (2 ^ 62 + 1)) ≡ false
  -- 120 before 111, 106 and 107, and 111 above 2^62-1 alone
  pub unfit_first : answers_to (first_slot 0) (0 ∷ 2 ^ 62 ∷ []) ≡ 120 ∷ 120 ∷ []
  pub in_range_law : answers_to none_of (0 ∷ (2 ^ 62 - 1) ∷ 2 ^ 62 ∷ []) ≡ 0 ∷ 0 ∷ 111 ∷ []
  -- "those from largest-8,191 to largest. Below that: 106. Already in it: 107"
  pub window : answers_to (taken_of none_of 8192).«record» (0 ∷ 1 ∷ 8191 ∷ 8192 ∷ 8193 ∷ []) ≡ 106 ∷ 0 ∷ 0 ∷ 107 ∷ 0 ∷ []
  -- the same by what a history says: 0 is still in reach of 8,191, and not of 8,192; a number that fell out of the record is below it, also if it was taken
  pub from_zero : answers_after (8191 ∷ 0 ∷ []) (0 ∷ 1 ∷ 8191 ∷ []) ≡ 107 ∷ 0 ∷ 107 ∷ []
  pub passed : answers_after (8192 ∷ 0 ∷ []) (0 ∷ 1 ∷ 8192 ∷ []) ≡ 106 ∷ 0 ∷ 107 ∷ []
  -- a refused number moves nothing
  pub refused_left : answers_after (2 ^ 62 ∷ 0 ∷ 9000 ∷ []) (0 ∷ 808 ∷ 809 ∷ 9000 ∷ (2 ^ 62 - 1) ∷ []) ≡ 106 ∷ 106 ∷ 0 ∷ 107 ∷ 0 ∷ []
  -- the slot 8,191 stands for -1 where the largest is 0, and for 8,191 where that is the largest
  pub last_slot_law : map sound_of (seam 1 (2 ^ 63) 1 ∷ seam 1 (2 ^ 63) 8192 ∷ []) ≡ false ∷ true ∷ []
  -- a record that fits is 0, one that does not 120
  pub checked : map (λ (R : Record). number_of (check_of R)) (none_of ∷ first_slot 1 ∷ three ∷ first_slot 0 ∷ first_slot 2 ∷ first_slot (2 ^ 62 + 1) ∷ []) ≡ 0 ∷ 0 ∷ 0 ∷ 120 ∷ 120 ∷ 120 ∷ []
  -- "next run downwards": below a number, which is not part of it, and down to 0; none below 0 or in a new record; 120 where the record does not fit
  pub runs : map (found_of three) (9 ∷ 4 ∷ 3 ∷ 2 ∷ 1 ∷ 0 ∷ []) ≡ Ok (span 3 3) ∷ Ok (span 3 3) ∷ Ok (span 1 0) ∷ Ok (span 1 0) ∷ Ok (span 0 0) ∷ Ok None ∷ []
  pub no_runs : found_of none_of 5 ∷ found_of (first_slot 0) 5 ∷ found_of (first_slot 2) 0 ∷ [] ≡ Ok None ∷ Err DoesNotFit ∷ Err DoesNotFit ∷ []
  -- a run over the end of the ring: 8,191 to 8,193 are its last slot and its first two
  pub over_the_end : map (found_of (seam 3 (2 ^ 63) 8194)) (8194 ∷ 8193 ∷ 8192 ∷ []) ≡ Ok (span 8193 8191) ∷ Ok (span 8192 8191) ∷ Ok (span 8191 8191) ∷ []
  -- a run at the lower end of the window: of the slots of 8,192 and 1 the first is not 0 again
  pub at_the_edge : map (found_of (seam 3 0 8193)) (8193 ∷ 3 ∷ 2 ∷ 1 ∷ []) ≡ Ok (span 8192 8192) ∷ Ok (span 1 1) ∷ Ok (span 1 1) ∷ Ok None ∷ []
