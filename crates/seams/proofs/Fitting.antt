-- Whether bytes fit, as a test and as facts.
-- Assumes nothing.
use Prim.Native.Nat.{ℕ, ◌+◌}
use mathlib.Core.Path.{◌≡◌}
use mathlib.Core.Bool.{true, ◌&&◌, and-eq-true_iff}
use lib.Dec.{leb, eqb}
use borrow.Author.Tests.{le-leb, eq-eqb, leb-true, eqb-true}
use Rattle.seams.specs.Seam.{fit_of}
use Rattle.seams.specs.Parts.{Fit}

module _ (size others j n : ℕ) where
  pub fit_true : Fit size others j n → fit_of size others j n ≡ true
  unfolding fit_of
  fit_true f = simp (eq-eqb size 4096 f.long, le-leb n 4096 f.few, le-leb (j + n) others f.room)

  pub fit_told : fit_of size others j n ≡ true → Fit size others j n
  unfolding fit_of
  fit_told e =
      let x = (and-eq-true_iff (eqb size 4096) (leb n 4096 && leb (j + n) others)).0 e in
      let y = (and-eq-true_iff (leb n 4096) (leb (j + n) others)).0 x.1 in
      record { long = eqb-true size 4096 x.0; few = leb-true n 4096 y.0; room = leb-true (j + n) others y.1 }
