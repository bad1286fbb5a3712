-- A record holds the last 8,192 numbers taken since it was new: a new one holds none, a number that is taken is added and what falls out of the window is gone, and a refusal leaves it.
-- Assumes nothing.
use Prim.Native.Nat.{ℕ, ◌+◌, ◌-◌, ◌^◌, max}
use mathlib.Core.Path.{◌≡◌, refl, sym, ◌∙◌, ap}
use mathlib.Core.Bool.{Bool, true, false, ◌&&◌, true≢false, and-false}
use mathlib.Core.List.{List, [], ◌∷◌}
use native.Mathlib.Omega.{arith}
use lib.Dec.{leb}
use borrow.Author.Tests.{lt-ltb, le-ltb, le-leb, lt-leb}
use Rattle.answers.specs.Answers.{accepts}
use Rattle.answers.specs.Choice.{◌⇒◌∣◌}
use Rattle.answers.specs.declared.Answer.TheVariants.{Accepted, InRecord}
use Rattle.answers.proofs.Accepts.{accepts_true, takes}
use Rattle.answers.proofs.Choice.{holds, below_or_not}
use Rattle.records.specs.declared.Record.{Record}
use Rattle.records.specs.Marks.{recorded, none_of, sound_of}
use Rattle.records.specs.Ring.{ring_of, with_mark, left, taken_of}
use Rattle.windows.specs.History.{record_after, is_among, above_all, answer_after, taken_numbers, Holds}
use Rattle.records.proofs.None.{none_fits, none_recorded}
use Rattle.records.proofs.Taking.{can_be, accepts as accepted, leaves, added, still_fits}

-- what is answered next follows from what the record holds, and from that it fits
module _ (l : List ℕ) (R : Record) (fit : sound_of R ≡ true) (high : R.top ≡ above_all l) (held : (m : ℕ) → recorded R m ≡ (leb (above_all l) (m + 8192) && is_among m l)) where
  answers : (n : ℕ) → (taken_of R n).answer ≡ answer_after l n
  unfolding taken_of answer_after
  answers n =
      below_or_not (2 ^ 62 - 1) n (λ a. simp (fit, lt-ltb _ _ a)) (λ a.
      below_or_not (n + 8192) (above_all l) (λ b. simp (fit, le-ltb _ _ a, high, lt-ltb _ _ b)) (λ b.
      simp (fit, le-ltb _ _ a, high, le-ltb _ _ b, held n, le-leb _ _ b) (go (is_among n l))))
    where
      go : (b : Bool) → (b ⇒ left R InRecord ∣ record { answer = Accepted; «record» = with_mark R n }).answer ≡ (b ⇒ InRecord ∣ Accepted)
      go true = refl
      go false = refl

  as_taken : Holds l R
  as_taken = record { fits = fit; top = high; last = held; next = answers }

-- one number more: it is added, or the record is left
module _ (l : List ℕ) (R : Record) (h : Holds l R) (n : ℕ) where
  pub taken : answer_after l n ≡ Accepted → Holds (n ∷ l) (taken_of R n).«record»
  unfolding above_all is_among with_mark ring_of
  taken e =
      let a : (taken_of R n).answer ≡ Accepted = h.next n ∙ e in
      as_taken (n ∷ l) (taken_of R n).«record» (can_be (taken_of R n).«record» (still_fits R n a))
      (rw (accepted R n a).after (ap (λ (x : ℕ). max x (n + 1)) h.top))
      (λ m. added R n a m ∙ below_or_not (m + 8192) (max (above_all l) (n + 1))
      (λ b. simp (h.top, lt-leb _ _ b))
      (λ b. simp (h.top, h.last m, le-leb _ _ b, le-leb (above_all l) (m + 8192) (omega arith))))

  refused : (answer_after l n ≡ Accepted → ⊥) → Holds l (taken_of R n).«record»
  refused f = rw (leaves R n (λ e. f (sym (h.next n) ∙ e))) h

-- so after every history
pub kept : (xs : List ℕ) → Holds (taken_numbers xs) (record_after xs)
unfolding record_after taken_numbers above_all is_among none_of
kept [] = as_taken [] none_of (can_be none_of none_fits) refl (λ m. none_recorded m ∙ sym (and-false (leb 0 (m + 8192))))
kept (n ∷ xs) =
    holds (λ (l : List ℕ). Holds l (taken_of (record_after xs) n).«record») (accepts (answer_after (taken_numbers xs) n)) _ _
    (λ e. taken (taken_numbers xs) (record_after xs) (kept xs) n (accepts_true _ e))
    (λ e. refused (taken_numbers xs) (record_after xs) (kept xs) n (λ f. true≢false (sym (takes _ f) ∙ e)))
