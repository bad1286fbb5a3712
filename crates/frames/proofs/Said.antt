-- What is said of reading a frame loses nothing: a frame comes with acceptance alone, and a number is that of one answer.
-- Assumes nothing.
use mathlib.Core.Path.{◌≡◌, refl, ap}
use Prim.Native.Nat.{ℕ}
use mathlib.Core.List.{List}
use Rattle.answers.specs.Answers.{Said}
use Rattle.answers.proofs.Numbers.{answer_of, again}
use Rattle.answers.proofs.Said.{one_value, found_by}
use Rattle.frames.specs.Said.{reading_says}
use Rattle.frames.specs.declared.Frame.{Frame}
use Rattle.frames.specs.declared.Reading.{Reading}
use Rattle.std.specs.Prelude.{Result, Ok, Err}
use Rattle.frames.specs.Fields.{read_as, refused_as}
use Rattle.fields.specs.declared.Refusal.{Refusal}

reading_of : Said (ℕ × List (Frame × ℕ)) → Result Reading Refusal
reading_of s = found_by (λ v. read_as v.0 s.values.0 v.1) (λ n. refused_as (answer_of n) s.values.0) (record { number = s.number; values = s.values.1 })

reading_again : (x : Result Reading Refusal) → reading_of (reading_says x) ≡ x
unfolding reading_of
reading_again (Ok r) = refl
reading_again (Err r) = ap (λ a. refused_as a r.ty) (again r.answer)

pub one_reading : (x y : Result Reading Refusal) → reading_says x ≡ reading_says y → x ≡ y
one_reading = one_value reading_says reading_of reading_again
