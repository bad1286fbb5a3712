-- Whether a frame fits what is lent, as a test and as facts.
-- Assumes nothing.
use Prim.Native.Nat.{ℕ, ◌+◌, ◌^◌}
use mathlib.Core.Path.{◌≡◌}
use mathlib.Core.Bool.{true, and-eq-true_iff}
use mathlib.Core.List.{List}
use lib.ListN.{length}
use lib.Dec.{ltb, leb, eqb}
use borrow.Author.Tests.{lt-ltb, le-leb, eq-eqb, leb-true, ltb-true, eqb-true}
use Rattle.clashes.specs.Held.{room_for}
use Rattle.clashes.specs.Parts.{Room}

module _ (ring marks : List ℕ) (read held : ℕ) (s : List ℕ) (from len offset : ℕ) where
  pub room_true : Room ring marks read held s from len offset → room_for ring marks read held s from len offset ≡ true
  unfolding room_for
  room_true r = simp (eq-eqb _ _ r.bytes, eq-eqb _ _ r.words, le-leb _ _ r.reach, le-leb _ _ r.fits, le-leb _ _ r.there, lt-ltb _ _ r.low)

  pub room_told : room_for ring marks read held s from len offset ≡ true → Room ring marks read held s from len offset
  unfolding room_for
  room_told e =
      let a = (and-eq-true_iff (eqb (length ring) 4096) _).0 e in
      let b = (and-eq-true_iff (eqb (length marks) 64) _).0 a.1 in
      let c = (and-eq-true_iff (leb held (read + 4096)) _).0 b.1 in
      let d = (and-eq-true_iff (leb (offset + len) (read + 4096)) _).0 c.1 in
      let f = (and-eq-true_iff (leb (from + len) (length s)) (ltb read (2 ^ 62))).0 d.1 in
      record {
        bytes = eqb-true _ _ a.0;
        words = eqb-true _ _ b.0;
        reach = leb-true _ _ c.0;
        fits = leb-true _ _ d.0;
        there = leb-true _ _ f.0;
        low = ltb-true _ _ f.1;
      }
