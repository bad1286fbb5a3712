-- Blanks and gaps of a text from a place on: what the character there decides, and the rest.
-- Assumes nothing.
use mathlib.Core.Path.{◌≡◌}
use mathlib.Core.Bool.{true, false, and-false}
use mathlib.Core.List.{List}
use Prim.Native.Nat.{ℕ, suc, ◌+◌, ◌<◌}
use borrow.Author.Tests.{eq-eqb, ne_eqb}
use lib.ListN.{length, get_or, drop}
use Rattle.text.proofs.Steps.{step}
use Rattle.lines.specs.Words.{blanks, gap_behind, count_of}

module _ (s : List ℕ) (i : ℕ) (h : i < length s) where
  pub blank_here : get_or s i 0 ≡ 32 → blanks (drop i s) ≡ suc (blanks (drop (i + 1) s))
  unfolding blanks
  blank_here e = rw (step s i h, eq-eqb _ _ e)

  pub blank_later : (get_or s i 0 ≡ 32 → ⊥) → blanks (drop i s) ≡ blanks (drop (i + 1) s)
  unfolding blanks
  blank_later n = rw (step s i h, ne_eqb _ _ n)

  -- two blanks together
  pub gap_here : (last : ℕ) → last ≡ 32 → get_or s i 0 ≡ 32 → gap_behind last (drop i s) ≡ true
  unfolding gap_behind
  gap_here last l e = rw (step s i h, eq-eqb _ _ e, eq-eqb _ _ l)

  pub gap_after : (last : ℕ) → (last ≡ 32 → ⊥) → gap_behind last (drop i s) ≡ gap_behind (get_or s i 0) (drop (i + 1) s)
  unfolding gap_behind
  gap_after last n = rw (step s i h, ne_eqb _ _ n, and-false)

  pub gap_later : (last : ℕ) → (get_or s i 0 ≡ 32 → ⊥) → gap_behind last (drop i s) ≡ gap_behind (get_or s i 0) (drop (i + 1) s)
  unfolding gap_behind
  gap_later last n = rw (step s i h, ne_eqb _ _ n)

module _ (s : List ℕ) where
  pub no_words : gap_behind 32 s ≡ true → count_of s ≡ 0
  unfolding count_of
  no_words e = rw e

  pub some_words : gap_behind 32 s ≡ false → count_of s ≡ suc (blanks s)
  unfolding count_of
  some_words e = rw e
