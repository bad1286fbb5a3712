-- No length is given for the four reasons of docs/RULES.md, "Packet numbers" and for no other: the tests of the definition are these reasons.
-- Assumes nothing.
use mathlib.Core.Path.{◌≡◌, refl}
use mathlib.Core.Bool.{false}
use Prim.Native.Nat.{ℕ, zero, suc, ◌+◌, ◌-◌, ◌*◌, ◌^◌, ◌≤◌, ◌<◌}
use native.Mathlib.Omega.{arith}
use borrow.Author.Tests.{lt-ltb, le-ltb, ltb-true, ltb-false, leb-true, leb-false}
use lib.Dec.{ltb, leb}
use lib.IntN.{ℤ, pos, negsuc, ◌-ℤ◌}
use lib.Signed.{lt_z}
use Rattle.answers.specs.declared.Answer.{Answer}
use Rattle.answers.specs.declared.Answer.TheVariants.{AboveCeiling}
use Rattle.answers.proofs.Choice.{holds, below_or_not}
use Rattle.answers.proofs.Distinct.{impossible}
use Rattle.numbers.specs.declared.Size.{Size}
use Rattle.numbers.specs.declared.Size.TheVariants.{One, Two, Three, Four}
use Rattle.numbers.specs.Numbers.{none, twice_of, length_after, length_of}
use Rattle.numbers.specs.Sound.{NoLength}
use Rattle.numbers.specs.Sound.NoLength.{TooFar, AboveRange, BelowNone, NotBelow}
use Rattle.numbers.proofs.Lengths.{above_ceiling, not_below, too_far}
use Rattle.numbers.proofs.Laws.{from_acked, from_none}
use Rattle.std.specs.Prelude.{Result, Ok, Err}

module _ (pn next : ℕ) (acked : ℤ) (distance : next ≤ pn → pos pn -ℤ acked ≡ pos (pn + 1 - next)) where
  reason_after : (pn < next → lt_z acked (pos pn) ≡ false) → {a : Answer} → length_after pn next ≡ Err a → (a ≡ AboveCeiling) × NoLength pn acked
  unfolding length_after
  reason_after not_below {a} =
      let w = twice_of pn next in
      holds Why (leb (2 ^ 62) pn) _ _ (λ h. one (AboveRange (leb-true (2 ^ 62) pn h))) (λ h.
      holds Why (ltb pn next) _ _ (λ h. one (NotBelow (not_below (ltb-true pn next h)))) (λ b.
      holds Why (leb w (256 ^ 1)) _ _ (λ h. given One) (λ h.
      holds Why (leb w (256 ^ 2)) _ _ (λ h. given Two) (λ h.
      holds Why (leb w (256 ^ 3)) _ _ (λ h. given Three) (λ h.
      holds Why (leb w (256 ^ 4)) _ _ (λ h. given Four) (λ f. one (TooFar (pn + 1 - next) (distance (ltb-false pn next b)) (leb-false w (256 ^ 4) f))))))))
    where
      Why : Result Size Answer → Type 0
      Why r = r ≡ Err a → (a ≡ AboveCeiling) × NoLength pn acked

      one : NoLength pn acked → Why none
      one r e = (cc, r)

      given : (s : Size) → Why (Ok s)
      given s e = impossible cc

  far_after : (d : ℕ) → pos pn -ℤ acked ≡ pos d → 256 ^ 4 < 2 * d → length_after pn next ≡ none
  far_after d e h =
      below_or_not pn (2 ^ 62)
      (λ l. below_or_not pn next (not_below pn next l) (λ b. let f : pn + 1 - next ≡ d = let g = distance b in cc in too_far pn next l b (omega arith)))
      (above_ceiling pn next)

-- a refusal has one of the reasons
pub reason : (pn : ℕ) (acked : ℤ) {a : Answer} → length_of pn acked ≡ Err a → (a ≡ AboveCeiling) × NoLength pn acked
unfolding length_of
reason pn (pos a) = reason_after pn (a + 1) (pos a) (from_acked pn a) (λ h. le-ltb a pn (omega arith))
reason pn (negsuc zero) = reason_after pn 0 (negsuc 0) (from_none pn) (λ h. absurd (omega arith))
reason pn (negsuc (suc k)) = λ e. (cc, BelowNone (lt-ltb 0 (suc k) (omega arith)))

-- and with each of them there is none
pub refuses : (pn : ℕ) (acked : ℤ) → NoLength pn acked → length_of pn acked ≡ none
unfolding length_of
refuses pn (pos a) (TooFar d e h) = far_after pn (a + 1) (pos a) (from_acked pn a) d e h
refuses pn (pos a) (AboveRange h) = above_ceiling pn (a + 1) h
refuses pn (pos a) (BelowNone e) = impossible cc
refuses pn (pos a) (NotBelow e) = below_or_not pn (2 ^ 62) (λ l. not_below pn (a + 1) l (omega (arith, ltb-false a pn e))) (above_ceiling pn (a + 1))
refuses pn (negsuc zero) (TooFar d e h) = far_after pn 0 (negsuc 0) (from_none pn) d e h
refuses pn (negsuc zero) (AboveRange h) = above_ceiling pn 0 h
refuses pn (negsuc zero) (BelowNone e) = absurd (omega (arith, ltb-true 0 0 e))
refuses pn (negsuc zero) (NotBelow e) = impossible cc
refuses pn (negsuc (suc k)) r = refl
