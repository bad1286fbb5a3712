-- A record is known by its numbers: two that fit and that hold the same numbers are one. So `Marked` leaves one record.
-- Assumes nothing.
use Prim.Native.Nat.{ℕ, zero, suc, ◌+◌, ◌-◌, ◌*◌, ◌/◌, ◌%◌, ◌^◌, ◌≤◌, ◌<◌}
use mathlib.Core.Path.{◌≡◌, sym, ◌∙◌, ap, subst}
use mathlib.Core.Bool.{◌&&◌, ◌||◌, true≢false}
use native.Mathlib.Omega.{arith}
use native.Mathlib.Decide.{dec_le, ℕ_discrete}
use native.Mathlib.Nat.{le_antisymm}
use lib.ListN.{get_or}
use lib.Seq.{ext_get_or}
use lib.Dec.{eqb, leb}
use borrow.Author.Tests.{eq-eqb, ne_eqb, eqb-true, eqb-false}
use Rattle.records.specs.declared.Record.{Record}
use Rattle.ring.specs.Bits.{bit, bit_at}
use Rattle.records.specs.Marks.{recorded, Words, Sound}
use Rattle.records.specs.Parts.{Marked}
use Rattle.ring.proofs.Bits.{bit_shift}
use Rattle.ring.proofs.Marked.{bit_at_lt}
use Rattle.records.proofs.Ring.{rec_in, rec_above, same_place}

-- two words of k bits with the same bits are one
bits_ext : (k a b : ℕ) → a < 2 ^ k → b < 2 ^ k → ((i : ℕ) → i < k → bit a i ≡ bit b i) → a ≡ b
unfolding bit
bits_ext zero a b h l f = omega arith
bits_ext (suc k) a b h l f =
    let low : a / 1 % 2 ≡ b / 1 % 2 = f 0 (omega arith) in
    let high : a / 2 ≡ b / 2 = bits_ext k (a / 2) (b / 2) (omega arith) (omega arith) (λ i g. sym (bit_shift a 1 i) ∙ f (1 + i) (omega arith) ∙ bit_shift b 1 i) in
    omega arith

same_digit : (a b : ℕ) → a < 2 → b < 2 → eqb a 1 ≡ eqb b 1 → a ≡ b
same_digit a b h l e = go (ℕ_discrete a 1)
  where
    go : Dec (a ≡ 1) → a ≡ b
    go (yes p) = p ∙ sym (eqb-true b 1 (sym e ∙ eq-eqb a 1 p))
    go (no p) = omega (arith, eqb-false b 1 (sym e ∙ ne_eqb a 1 p))

module _ (R S : Record) (hold : (m : ℕ) → recorded R m ≡ recorded S m) (r : Sound R) (s : Sound S) where
  top_le : R.top ≤ S.top
  top_le = go (dec_le R.top S.top)
    where
      go : Dec (R.top ≤ S.top) → R.top ≤ S.top
      go (yes p) = p
      go (no p) =
          absurd (true≢false (sym (rec_in R (R.top - 1) (omega arith) (omega arith) ∙ eq-eqb _ 1 (r.last (omega arith))) ∙ hold (R.top - 1) ∙ rec_above S (R.top - 1) (omega arith)))

  same_in : R.top ≡ S.top → (m : ℕ) → m < R.top → R.top ≤ m + 8192 → bit_at R.words m ≡ bit_at S.words m
  same_in e m a b = same_digit _ _ (bit_at_lt R.words m) (bit_at_lt S.words m) (sym (rec_in R m a b) ∙ hold m ∙ rec_in S m (omega arith) (omega arith))

  same_bit : R.top ≡ S.top → (p : ℕ) → p < 8192 → bit_at R.words p ≡ bit_at S.words p
  same_bit e p h = go (dec_le R.top p)
    where
      -- the number of the window that has the bit p
      at : (q : ℕ) → p + q * 8192 < R.top → R.top ≤ p + q * 8192 + 8192 → bit_at R.words p ≡ bit_at S.words p
      at q a b =
          same_place R.words p (p + q * 8192) (omega arith) (omega arith) ∙ same_in e (p + q * 8192) a b ∙ sym (same_place S.words p (p + q * 8192) (omega arith) (omega arith))

      go : Dec (R.top ≤ p) → bit_at R.words p ≡ bit_at S.words p
      go (yes l) = r.clean p l h ∙ sym (s.clean p (omega arith) h)
      go (no l) = at ((R.top - 1 - p) / 8192) (omega arith) (omega arith)

pub same_record : (R S : Record) → Words R → Words S → Sound R → Sound S → ((m : ℕ) → recorded R m ≡ recorded S m) → R ≡ S
unfolding bit_at
same_record R S v w r s hold =
    let top : R.top ≡ S.top = le_antisymm (top_le R S hold r s) (top_le S R (λ m. sym (hold m)) s r) in
    let words : R.words ≡ S.words =
    ext_get_or 0 R.words S.words (v.long ∙ sym w.long) (λ k h.
    bits_ext 64 (get_or R.words k 0) (get_or S.words k 0) (v.small k) (w.small k) (λ i g.
    let e : (k * 64 + i) / 64 % 128 ≡ k = omega (arith, v.long) in
    let f : (k * 64 + i) % 64 ≡ i = omega arith in
    subst (λ (x : ℕ). bit (get_or R.words k 0) x ≡ bit (get_or S.words k 0) x) f
    (subst (λ (x : ℕ). bit (get_or R.words x 0) ((k * 64 + i) % 64) ≡ bit (get_or S.words x 0) ((k * 64 + i) % 64)) e (same_bit R S hold r s top (k * 64 + i) (omega (arith, v.long)))))) in
    λ j. record { words = words j; top = top j }

-- so what `mark` promises of a record that fits leaves one record
pub marked_one : (R S T : Record) (n : ℕ) → Sound R → Words S → Words T → Marked R n S → Marked R n T → S ≡ T
marked_one R S T n r v w a b =
    let e : S.top ≡ T.top = a.top ∙ sym b.top in
    same_record S T v w (a.sound r) (b.sound r) (λ m. a.recorded_is m ∙ ap (λ (x : ℕ). leb x (m + 8192) && (eqb m n || recorded R m)) e ∙ sym (b.recorded_is m))
