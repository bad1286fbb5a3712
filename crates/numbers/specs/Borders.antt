-- The rules of packet numbers at their borders, from both sides: they hold the definitions to docs/RULES.md. Beside each, its sentence.
use Rattle.std.specs.Prelude.{◌≡◌, [], ◌∷◌, map, ℕ, ◌+◌, ◌-◌, ◌^◌, pos, negsuc, Ok, Err}
use Rattle.answers.specs.declared.Answer.TheVariants.{NoSuchNumber}
use Rattle.numbers.specs.declared.Size.TheVariants.{One, Two, Three, Four}
use Rattle.numbers.specs.Numbers.{recovered_of, none, length_of}

pub record Recovery : Type 0 where
  -- "add W if it is at or below E-W/2"
  pub raised_not_1 : recovered_of 127 One 0 ≡ Ok 0
  pub raised_1 : recovered_of 128 One 0 ≡ Ok 256
  pub raised_not_2 : recovered_of (2 ^ 15 - 1) Two 0 ≡ Ok 0
  pub raised_2 : recovered_of (2 ^ 15) Two 0 ≡ Ok (2 ^ 16)
  pub raised_not_3 : recovered_of (2 ^ 23 - 1) Three 0 ≡ Ok 0
  pub raised_3 : recovered_of (2 ^ 23) Three 0 ≡ Ok (2 ^ 24)
  pub raised_not_4 : recovered_of (2 ^ 31 - 1) Four 0 ≡ Ok 0
  pub raised_4 : recovered_of (2 ^ 31) Four 0 ≡ Ok (2 ^ 32)
  -- "and below 2^62-W"
  pub raised_highest : recovered_of (2 ^ 62 - 257) One 0 ≡ Ok (2 ^ 62 - 256)
  pub raised_no_higher : recovered_of (2 ^ 62 - 1) One 0 ≡ Ok (2 ^ 62 - 256)
  -- "otherwise subtract W if it is above E+W/2"
  pub lowered_not_1 : recovered_of 256 One 128 ≡ Ok 384
  pub lowered_1 : recovered_of 256 One 129 ≡ Ok 129
  pub lowered_not_2 : recovered_of (2 ^ 16) Two (2 ^ 15) ≡ Ok (2 ^ 16 + 2 ^ 15)
  pub lowered_2 : recovered_of (2 ^ 16) Two (2 ^ 15 + 1) ≡ Ok (2 ^ 15 + 1)
  pub lowered_not_3 : recovered_of (2 ^ 24) Three (2 ^ 23) ≡ Ok (2 ^ 24 + 2 ^ 23)
  pub lowered_3 : recovered_of (2 ^ 24) Three (2 ^ 23 + 1) ≡ Ok (2 ^ 23 + 1)
  pub lowered_not_4 : recovered_of (2 ^ 32) Four (2 ^ 31) ≡ Ok (2 ^ 32 + 2 ^ 31)
  pub lowered_4 : recovered_of (2 ^ 32) Four (2 ^ 31 + 1) ≡ Ok (2 ^ 31 + 1)
  -- "and at least W": none recorded, 255 is itself
  pub lowered_no_lower : recovered_of 0 One 255 ≡ Ok 255
  -- "A result above 2^62-1 is 111"
  pub above_1 : recovered_of (2 ^ 62) One 128 ≡ Err NoSuchNumber
  pub within_1 : recovered_of (2 ^ 62) One 129 ≡ Ok (2 ^ 62 - 127)
  pub above_4 : recovered_of (2 ^ 62) Four (2 ^ 31) ≡ Err NoSuchNumber
  pub within_4 : recovered_of (2 ^ 62) Four (2 ^ 31 + 1) ≡ Ok (2 ^ 62 - 2 ^ 31 + 1)

pub record Sending : Type 0 where
  -- "the least n of 1 to 4 bytes with 2(pn-acked) at most 256^n (acked is -1 before any acknowledgement); 103 if there is none"
  pub before_any : map (λ (pn : ℕ). length_of pn (negsuc 0)) (0 ∷ 127 ∷ 128 ∷ (2 ^ 15 - 1) ∷ 2 ^ 15 ∷ (2 ^ 23 - 1) ∷ 2 ^ 23 ∷ (2 ^ 31 - 1) ∷ 2 ^ 31 ∷ [])
      ≡ Ok One ∷ Ok One ∷ Ok Two ∷ Ok Two ∷ Ok Three ∷ Ok Three ∷ Ok Four ∷ Ok Four ∷ none ∷ []
  -- the same from an acknowledged number on
  pub after_one : map (λ (pn : ℕ). length_of pn (pos 1000)) (1128 ∷ 1129 ∷ (1000 + 2 ^ 15) ∷ (1001 + 2 ^ 15) ∷ []) ≡ Ok One ∷ Ok Two ∷ Ok Two ∷ Ok Three ∷ []
  -- "pn is above 2^62-1"
  pub highest : length_of (2 ^ 62 - 1) (pos (2 ^ 62 - 2)) ≡ Ok One
  pub above_highest : length_of (2 ^ 62) (pos (2 ^ 62 - 2)) ≡ none
  -- "or acked is below -1": -1 has the same as its row above, -2 has none
  pub below_none : length_of 0 (negsuc 1) ≡ none
  -- "or not below pn"
  pub one_below : length_of 5 (pos 4) ≡ Ok One
  pub equal : length_of 5 (pos 5) ≡ none
  pub one_above : length_of 5 (pos 6) ≡ none
