-- A ring is known by its bytes at the 4,096 places from one on: so what the two copies around the seam leave is the one ring of the definition.
-- Assumes nothing.
use Prim.Native.Nat.{ℕ, ◌+◌, ◌-◌, ◌%◌, ◌≤◌, ◌<◌}
use mathlib.Core.Path.{◌≡◌, sym, ◌∙◌, ap}
use mathlib.Core.Bool.{false}
use mathlib.Core.List.{List}
use native.Mathlib.Omega.{arith}
use native.Mathlib.Decide.{dec_le}
use lib.ListN.{length, get_or}
use lib.Seq.{ext_get_or}
use Rattle.answers.specs.Choice.{◌⇒◌∣◌}
use Rattle.ring.proofs.Words.{list_length, list_at}
use Rattle.places.specs.Places.{within, place_of}
use Rattle.places.proofs.Bounds.{in_bounds, above_bounds}
use Rattle.places.proofs.Places.{place_of_law, place_at}
use Rattle.seams.specs.Seam.{fit_of, bytes_of, stored_of}
use Rattle.seams.specs.Parts.{Fit, Stored}
use Rattle.seams.proofs.Fitting.{fit_true}

module _ (read : ℕ) (b : ℕ → ℕ) where
  pub bytes_long : length (bytes_of read b) ≡ 4096
  unfolding bytes_of
  bytes_long = list_length 4096 _

  pub bytes_at : (p : ℕ) → read ≤ p → p < read + 4096 → get_or (bytes_of read b) (p % 4096) 0 ≡ b p
  unfolding bytes_of
  bytes_at p l h = list_at 4096 (λ i. b (place_of read i)) (p % 4096) (omega arith) ∙ ap b (place_at read p l h)

  pub bytes_are : (t : List ℕ) → length t ≡ 4096 → ((p : ℕ) → read ≤ p → p < read + 4096 → get_or t (p % 4096) 0 ≡ b p) → t ≡ bytes_of read b
  unfolding bytes_of
  bytes_are t long f = ext_get_or 0 t _ (long ∙ sym (list_length 4096 _)) (λ i h.
      let l : i < 4096 = omega arith in
      let q = place_of_law read i l in
      ap (λ (x : ℕ). get_or t x 0) (sym q.slot) ∙ f (place_of read i) q.least q.most ∙ sym (list_at 4096 (λ i. b (place_of read i)) i l))

module _ (ring : List ℕ) (at : ℕ) (s : List ℕ) (j n : ℕ) where
  abbrev after : ℕ → ℕ
  after p = within at (at + n) p ⇒ get_or s (j + (p - at)) 0 ∣ get_or ring (p % 4096) 0

  pub stored_none : fit_of (length ring) (length s) j n ≡ false → ring ≡ stored_of ring at s j n
  unfolding stored_of
  stored_none e = simp e

  module _ (fit : Fit (length ring) (length s) j n) where
    stored_bytes : stored_of ring at s j n ≡ bytes_of at after
    unfolding stored_of
    stored_bytes = simp (fit_true _ _ _ _ fit)

    pub stored_is : (t : List ℕ) → Stored ring at s j n t → t ≡ stored_of ring at s j n
    stored_is t k = bytes_are at after t k.long (λ p l h. go p l h (dec_le (at + n) p)) ∙ sym stored_bytes
      where
        go : (p : ℕ) → at ≤ p → p < at + 4096 → Dec (at + n ≤ p) → get_or t (p % 4096) 0 ≡ after p
        go p l h (yes a) = simp (above_bounds at (at + n) p a) (k.rest p a h)
        go p l h (no a) =
            let d : p % 4096 ≡ (at + (p - at)) % 4096 = omega arith in
            simp (in_bounds at (at + n) p l (omega arith)) (ap (λ (x : ℕ). get_or t x 0) d ∙ k.inside (p - at) (omega arith))

    pub stored_told : Stored ring at s j n (stored_of ring at s j n)
    stored_told =
        rw stored_bytes
        (record {
          long = bytes_long at after;
          inside = λ k h.
              let e : j + (at + k - at) ≡ j + k = omega arith in
              bytes_at at after (at + k) (omega arith) (omega (arith, fit.few)) ∙ simp (in_bounds at (at + n) (at + k) (omega arith) (omega arith)) (ap (λ (x : ℕ). get_or s x 0) e);
          rest = λ p l h. bytes_at at after p (omega arith) h ∙ simp (above_bounds at (at + n) p l);
        })
