-- Hexadecimal digits written, and what is left of bytes, or of pairs, from a place on.
-- Assumes nothing.
use mathlib.Core.Path.{◌≡◌, refl, sym, ◌∙◌}
use mathlib.Core.Bool.{Bool, true, and-eq-true_iff}
use Rattle.std.specs.List.{list_all}
use Rattle.std.specs.Prelude.{Some}
use mathlib.Core.List.{List, [], ◌∷◌}
use Prim.Native.Nat.{ℕ, suc, ◌+◌, ◌*◌, ◌/◌, ◌%◌, ◌≤◌, ◌<◌}
use native.Mathlib.Nat.{add_assoc}
use native.Mathlib.Numerals.{add-one}
use native.Mathlib.Omega.{arith}
use borrow.Author.Tests.{lt-ltb, le-ltb}
use lib.ListN.{length, get_or, drop, set}
use lib.Seq.{sets}
use Rattle.text.specs.Text.{every}
use Rattle.hexes.specs.Hex.{digit_of, hex_of, bytes_in}
use Rattle.dumps.specs.Digits.{half_of, is_half}
use Rattle.text.proofs.Steps.{step, every_step}

-- a test of every character, in the library's words
pub every_all : (test : ℕ → Bool) (l : List ℕ) → every test l ≡ list_all test l
unfolding every
every_all test [] = refl
every_all test (c ∷ l) = rw (every_all test l)

module _ (h : ℕ) where
  pub digit_figure : h < 10 → digit_of h ≡ 48 + h
  unfolding digit_of
  digit_figure l = simp (lt-ltb h 10 l)

  pub digit_letter : 10 ≤ h → digit_of h ≡ 87 + h
  unfolding digit_of
  digit_letter l = simp (le-ltb h 10 l)

pub length_hex : (l : List ℕ) → length (hex_of l) ≡ 2 * length l
unfolding hex_of
length_hex [] = refl
length_hex (b ∷ l) = omega (arith, length_hex l)

module _ (l : List ℕ) (i : ℕ) (h : i < length l) where
  -- one byte more is written
  pub hex_step : (out : List ℕ) (place : ℕ)
      → sets (set (set out place (digit_of (get_or l i 0 / 16))) (place + 1) (digit_of (get_or l i 0 % 16))) (place + 2) (hex_of (drop (i + 1) l)) ≡ sets out place (hex_of (drop i l))
  unfolding hex_of
  hex_step out place = let e : place + 2 ≡ suc (suc place) = omega arith in rw (step l i h, add-one place, e)

  first : every is_half (drop i l) ≡ true → (is_half (get_or l i 0) ≡ true) × (every is_half (drop (i + 1) l) ≡ true)
  first e = (and-eq-true_iff (is_half (get_or l i 0)) (every is_half (drop (i + 1) l))).0 (sym (every_step l i h is_half) ∙ e)

-- two characters that are left, and what is left after them
module _ (l : List ℕ) (i : ℕ) (h : i + 1 < length l) where
  two : drop i l ≡ get_or l i 0 ∷ get_or l (i + 1) 0 ∷ drop (i + 2) l
  two = rw (step l i (omega arith), step l (i + 1) h, add_assoc)

  pub pair : every is_half (drop i l) ≡ true → (is_half (get_or l i 0) ≡ true) × (is_half (get_or l (i + 1) 0) ≡ true) × (every is_half (drop (i + 2) l) ≡ true)
  pair e =
      let a = first l i (omega arith) e in
      let b = first l (i + 1) h a.1 in
      (a.0, b.0, rw add_assoc at b.1)

  -- one byte more is decoded
  pub pair_step : (out : List ℕ) (k : ℕ) {a b : ℕ} → half_of (get_or l i 0) ≡ Some a → half_of (get_or l (i + 1) 0) ≡ Some b
      → sets (set out k (a * 16 + b)) (k + 1) (bytes_in (drop (i + 2) l)) ≡ sets out k (bytes_in (drop i l))
  unfolding bytes_in
  pair_step out k u v = rw (two, u, v, add-one k)
