-- What is said of a type and of fields loses nothing: a place comes with acceptance alone, and a number is that of one answer.
-- Assumes nothing.
use mathlib.Core.Path.{◌≡◌, refl, ap}
use Prim.Native.Nat.{ℕ}
use mathlib.Core.List.{List}
use Rattle.answers.specs.Answers.{Said}
use Rattle.answers.proofs.Numbers.{answer_of, again}
use Rattle.answers.proofs.Said.{one_value, found_by}
use Rattle.fields.specs.Said.{head_says, fields_say}
use Rattle.std.specs.Prelude.{Option, Some, None, Result, Ok, Err}
use Rattle.fields.specs.Heads.{refusal}
use Rattle.fields.specs.declared.Parts.{Parts}
use Rattle.fields.specs.declared.Refusal.{Refusal}

head_of : Said (ℕ × List ℕ) → Result (ℕ × ℕ) Refusal
head_of s = found_by (λ next. Ok (s.values.0, next)) (λ n. Err (refusal (answer_of n) s.values.0)) (record { number = s.number; values = s.values.1 })

head_again : (x : Result (ℕ × ℕ) Refusal) → head_of (head_says x) ≡ x
unfolding head_of
head_again (Ok (ty, next)) = refl
head_again (Err r) = ap (λ a. Err (refusal a r.ty)) (again r.answer)

pub one_head : (x y : Result (ℕ × ℕ) Refusal) → head_says x ≡ head_says y → x ≡ y
one_head = one_value head_says head_of head_again

fields_again : (x : Option (Parts × ℕ)) → found_by (λ v. Some (v.0, v.1)) (λ n. None) (fields_say x) ≡ x
fields_again (Some (parts, next)) = refl
fields_again None = refl

pub one_fields : (x y : Option (Parts × ℕ)) → fields_say x ≡ fields_say y → x ≡ y
one_fields = one_value fields_say (found_by (λ v. Some (v.0, v.1)) (λ n. None)) fields_again
