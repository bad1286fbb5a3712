-- What is answered to a number that comes, and the record after it: by the record's check and the number's test, and the laws of an acceptance.
-- Assumes nothing.
use Prim.Native.Nat.{ℕ, ◌+◌, ◌-◌, ◌^◌, ◌≤◌, ◌<◌, max}
use mathlib.Core.Path.{◌≡◌, refl, sym, ap}
use mathlib.Core.Bool.{Bool, true, false, not, ◌&&◌, ◌||◌}
use native.Mathlib.Omega.{arith}
use lib.Dec.{ltb, leb, eqb}
use borrow.Author.Tests.{le-ltb, ltb-false, not-false}
use Rattle.answers.specs.Choice.{◌⇒◌∣◌}
use Rattle.answers.proofs.Choice.{holds}
use Rattle.answers.specs.Answers.{number_of}
use Rattle.answers.specs.declared.Answer.{Answer}
use Rattle.answers.specs.declared.Answer.TheVariants.{Accepted, BelowRecord, InRecord, NoSuchNumber, DoesNotFit}
use Rattle.records.specs.declared.Record.{Record}
use Rattle.records.specs.declared.Taken.{Taken}
use Rattle.records.specs.Marks.{recorded, sound_of, check_of, test_of}
use Rattle.records.specs.Ring.{ring_of, with_mark, left, taken_of, Accepts}
use Rattle.records.proofs.Sound.{sound_facts, fits}
use Rattle.records.proofs.Window.{with_marked}

-- a refusal is no acceptance
never : {G : Type 0} (a : Answer) → 0 < number_of a → a ≡ Accepted → G
never a h e = absurd (omega (arith, ap number_of e))

module _ (R : Record) where
  -- a record that is accepted can be
  pub can_be : check_of R ≡ Accepted → sound_of R ≡ true
  unfolding check_of
  can_be = holds (λ (a : Answer). a ≡ Accepted → sound_of R ≡ true) (sound_of R) Accepted DoesNotFit (λ e f. e) (λ e. never DoesNotFit (omega arith))

  -- a number that is accepted is not below the record
  pub within : (n : ℕ) → test_of R n ≡ Accepted → R.top ≤ n + 8192
  unfolding test_of
  within n = holds (λ (a : Answer). a ≡ Accepted → R.top ≤ n + 8192) (ltb (n + 8192) R.top) _ _ (λ e. never BelowRecord (omega arith)) (λ e f. ltb-false _ _ e)

  -- the way of an acceptance, and what its answer says
  module _ (n : ℕ) where
    pub take_new : check_of R ≡ Accepted → n ≤ 2 ^ 62 - 1 → test_of R n ≡ Accepted → record { answer = Accepted; «record» = with_mark R n } ≡ taken_of R n
    unfolding taken_of test_of
    take_new e h f = simp (can_be e, le-ltb (2 ^ 62 - 1) n h) (go (ltb (n + 8192) R.top) (recorded R n) f)
      where
        go : (a b : Bool) → (a ⇒ BelowRecord ∣ b ⇒ InRecord ∣ Accepted) ≡ Accepted
            → record { answer = Accepted; «record» = with_mark R n } ≡ (a ⇒ left R BelowRecord ∣ b ⇒ left R InRecord ∣ record { answer = Accepted; «record» = with_mark R n })
        go true b f = never BelowRecord (omega arith) f
        go false true f = never InRecord (omega arith) f
        go false false f = refl

    -- the laws of an answer: an acceptance by what it rests on, and a refusal leaves the record as it was
    pub accepts : (taken_of R n).answer ≡ Accepted → Accepts R n (taken_of R n).«record»
    unfolding taken_of test_of
    accepts =
        holds P (not (sound_of R)) _ _ (λ e. never DoesNotFit (omega arith)) (λ e.
        holds P (ltb (2 ^ 62 - 1) n) _ _ (λ a. never NoSuchNumber (omega arith)) (λ a.
        holds P (ltb (n + 8192) R.top) _ _ (λ b. never BelowRecord (omega arith)) (λ b.
        holds P (recorded R n) _ _ (λ d. never InRecord (omega arith)) (λ d f.
        record { could_be = sound_facts R (not-false (sound_of R) e); low = omega (arith, ltb-false (2 ^ 62 - 1) n a); fresh = simp (b, d); after = refl }))))
      where
        P : Taken → Type 0
        P t = t.answer ≡ Accepted → Accepts R n t.«record»

    pub leaves : ((taken_of R n).answer ≡ Accepted → ⊥) → (taken_of R n).«record» ≡ R
    unfolding taken_of
    leaves =
        holds P (not (sound_of R)) _ _ (λ e f. refl) (λ e.
        holds P (ltb (2 ^ 62 - 1) n) _ _ (λ a f. refl) (λ a.
        holds P (ltb (n + 8192) R.top) _ _ (λ b f. refl) (λ b.
        holds P (recorded R n) _ _ (λ d f. refl) (λ d f. absurd (f refl)))))
      where
        P : Taken → Type 0
        P t = (t.answer ≡ Accepted → ⊥) → t.«record» ≡ R

    -- after an acceptance of n exactly n is added, and exactly what fell out of the window is gone
    pub added : (taken_of R n).answer ≡ Accepted → (m : ℕ) → recorded (taken_of R n).«record» m ≡ (leb (max R.top (n + 1)) (m + 8192) && (eqb m n || recorded R m))
    unfolding with_mark ring_of
    added e m = let a = accepts e in rw a.after ((with_marked R n a.low).recorded_is m)

    -- and the record can be
    pub still_fits : (taken_of R n).answer ≡ Accepted → check_of (taken_of R n).«record» ≡ Accepted
    still_fits e = let a = accepts e in rw a.after (sym (fits (with_mark R n) ((with_marked R n a.low).sound a.could_be)))
