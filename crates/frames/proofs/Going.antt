-- Going on with a type that was read: what holds where it was refused, and wherever it goes on, holds of the whole.
-- Assumes nothing.
use mathlib.Core.Path.{◌≡◌, refl}
use Prim.Native.Nat.{ℕ}
use Rattle.answers.specs.declared.Answer.{Answer}
use Rattle.frames.specs.Reading.{with_head}
use Rattle.frames.specs.declared.Reading.{Reading}
use Rattle.std.specs.Prelude.{Result, Ok, Err}
use Rattle.frames.specs.Fields.{refused_as}
use Rattle.fields.specs.Heads.{refusal}
use Rattle.fields.specs.declared.Refusal.{Refusal}

pub with_head_law : (P : Result Reading Refusal → Type 0) (h : Result (ℕ × ℕ) Refusal) (k : ℕ → ℕ → Result Reading Refusal) → ((answer : Answer) (ty : ℕ) → h ≡ Err (refusal answer ty) → P (refused_as answer ty))
    → ((ty next : ℕ) → h ≡ Ok (ty, next) → P (k ty next)) → P (with_head h k)
with_head_law P (Ok (ty, next)) k p q = q ty next refl
with_head_law P (Err r) k p q = p r.answer r.ty refl
