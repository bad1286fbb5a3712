-- Whether the stores fit, as a test and as facts; and what the calls on the parts that are lent tell of all stores.
-- Assumes nothing.
use Prim.Native.Nat.{ℕ, ◌<◌}
use mathlib.Core.Path.{◌≡◌, ◌∙◌, ap, ap₂}
use mathlib.Core.Bool.{true, and-eq-true_iff}
use mathlib.Core.List.{List}
use lib.ListN.{length}
use lib.Dec.{ltb, eqb}
use borrow.Author.Tests.{lt-ltb, eq-eqb, ltb-true, eqb-true}
use Rattle.holding.specs.Kept.{offered_of, ring_kept, marks_kept, handed_of, handed_out}
use Rattle.stores.specs.Stores.{part_of, with_part, stores_fit, offered_in, rings_kept, marks_kept_in, handed_in, handed_out_in}
use Rattle.std.specs.Prelude.{Option, Result}
use Rattle.holding.specs.declared.OfferError.{OfferError}

-- the test and the facts
pub record Fit (rings marks : List ℕ) (place : ℕ) : Type 0 where
  pub bytes : length rings ≡ 786432
  pub words : length marks ≡ 12288
  pub there : place < 192

module _ (rings marks : List ℕ) (place : ℕ) where
  pub fit_true : Fit rings marks place → stores_fit rings marks place ≡ true
  unfolding stores_fit
  fit_true f = simp (eq-eqb _ _ f.bytes, eq-eqb _ _ f.words, lt-ltb _ _ f.there)

  pub fit_told : stores_fit rings marks place ≡ true → Fit rings marks place
  unfolding stores_fit
  fit_told e =
      let a = (and-eq-true_iff (eqb (length rings) 786432) _).0 e in
      let b = (and-eq-true_iff (eqb (length marks) 12288) (ltb place 192)).0 a.1 in
      record { bytes = eqb-true _ _ a.0; words = eqb-true _ _ b.0; there = ltb-true _ _ b.1 }

  -- a read, as `hand` tells it and leaves the output
  module _ (read held : ℕ) (out : List ℕ) where
    abbrev pub Hands : Option ℕ → List ℕ → Type 0
    Hands a t = (a ≡ handed_in rings marks place read held out) × (t ≡ handed_out_in rings marks place read held out)

    pub hands : Fit rings marks place → (r m : List ℕ) → r ≡ part_of 4096 rings place → m ≡ part_of 64 marks place → (a : Option ℕ) (t : List ℕ)
        → a ≡ handed_of r m read held (length out) → t ≡ handed_out r m read held out → Hands a t
    unfolding handed_in handed_out_in
    hands f r m x y a t p q =
        let e = fit_true f in (
          p ∙ ap₂ (λ (u v : List ℕ). handed_of u v read held (length out)) x y ∙ simp e,
          q ∙ ap₂ (λ (u v : List ℕ). handed_out u v read held out) x y ∙ simp e,
        )

  -- a frame, as `offer` tells it and leaves the stores
  module _ (read held : ℕ) (s : List ℕ) (from len offset : ℕ) where
    abbrev pub Leaves : Result ℕ OfferError → List ℕ → List ℕ → Type 0
    Leaves a r m =
        (a ≡ offered_in rings marks place read held s from len offset) × ((r ≡ rings_kept rings marks place read held s from len offset) × (m ≡ marks_kept_in rings marks place read held s from len offset))

    pub leaves : Fit rings marks place → (r m u v : List ℕ) → r ≡ part_of 4096 rings place → m ≡ part_of 64 marks place → (a : Result ℕ OfferError) (x y : List ℕ)
        → a ≡ offered_of r m read held s from len offset → x ≡ ring_kept r m read held s from len offset → y ≡ marks_kept r m read held s from len offset
        → u ≡ with_part 4096 rings place x → v ≡ with_part 64 marks place y → Leaves a u v
    unfolding offered_in rings_kept marks_kept_in
    leaves f r m u v g h a x y p q t d k =
        let e = fit_true f in (
          p ∙ ap₂ (λ (i j : List ℕ). offered_of i j read held s from len offset) g h ∙ simp e,
          (
            d ∙ ap (with_part 4096 rings place) (q ∙ ap₂ (λ (i j : List ℕ). ring_kept i j read held s from len offset) g h) ∙ simp e,
            k ∙ ap (with_part 64 marks place) (t ∙ ap₂ (λ (i j : List ℕ). marks_kept i j read held s from len offset) g h) ∙ simp e,
          ),
        )
