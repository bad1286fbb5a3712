-- What a read is answered and leaves, case by case: from what cannot be a stream's, with too little room, and with enough.
-- Assumes nothing.
use Prim.Native.Nat.{ℕ, ◌+◌, ◌-◌, ◌≤◌, ◌<◌}
use mathlib.Core.Path.{◌≡◌, refl, ◌∙◌, ap}
use mathlib.Core.Bool.{Bool, true, false, and-eq-true_iff}
use mathlib.Core.List.{List}
use native.Mathlib.Omega.{arith}
use lib.ListN.{length}
use lib.Seq.{sets}
use lib.Dec.{leb, eqb}
use borrow.Author.Tests.{lt-ltb, le-ltb, le-leb, eq-eqb, leb-true, eqb-true}
use Rattle.answers.specs.Choice.{◌⇒◌∣◌}
use Rattle.ring.specs.Words.{list_of}
use Rattle.places.specs.Places.{marked, run_of}
use Rattle.places.proofs.Running.{run_longest}
use Rattle.seams.specs.Seam.{read_of, taken_out}
use Rattle.seams.proofs.Taking.{taken_out_law}
use Rattle.std.specs.Prelude.{Option, Some, None}
use Rattle.holding.specs.Kept.{can_hand, handed_of, front_of, handed_out}

module _ (ring marks : List ℕ) (read held : ℕ) (out : List ℕ) where
  -- the answer and the output
  abbrev pub Hands : Option ℕ → List ℕ → Type 0
  Hands a t = (a ≡ handed_of ring marks read held (length out)) × (t ≡ handed_out ring marks read held out)

  abbrev run : ℕ
  run = run_of (marked marks) read (held - read)

  can_told : can_hand ring marks read held ≡ true → (length ring ≡ 4096) × (length marks ≡ 64) × (held ≤ read + 4096)
  unfolding can_hand
  can_told e =
      let a = (and-eq-true_iff (eqb (length ring) 4096) _).0 e in
      let b = (and-eq-true_iff (eqb (length marks) 64) (leb held (read + 4096))).0 a.1 in
      (eqb-true _ _ a.0, eqb-true _ _ b.0, leb-true _ _ b.1)

  pub hand_unfit : (length ring ≡ 4096 → length marks ≡ 64 → held ≤ read + 4096 → ⊥) → Hands (Some 0) out
  unfolding handed_of handed_out front_of read_of list_of
  hand_unfit f = go (can_hand ring marks read held) refl
    where
      go : (x : Bool) → can_hand ring marks read held ≡ x → Hands (Some 0) out
      go true e = let t = can_told e in absurd (f t.0 t.1 t.2)
      go false e = (simp e, simp e)

  module _ (bytes : length ring ≡ 4096) (words : length marks ≡ 64) (reach : held ≤ read + 4096) (n : ℕ) (told : n ≡ (eqb (length marks) 64 ⇒ run ∣ 0)) where
    can : can_hand ring marks read held ≡ true
    unfolding can_hand
    can = simp (eq-eqb _ _ bytes, eq-eqb _ _ words, le-leb _ _ reach)

    is_run : n ≡ run
    is_run = told ∙ simp (eq-eqb _ _ words)

    pub run_few : n ≤ 4096
    run_few = omega (arith, is_run, (run_longest (marked marks) (held - read) read).fits)

    pub hand_short : length out < n → Hands None out
    unfolding handed_of handed_out front_of
    hand_short h = let l : length out < run = omega (arith, is_run) in (simp (can, lt-ltb _ _ l), simp (can, lt-ltb _ _ l))

    pub hand_full : n ≤ length out → (t : List ℕ) → t ≡ taken_out ring out read n → Hands (Some n) t
    unfolding handed_of handed_out front_of
    hand_full h t e =
        let l : run ≤ length out = omega (arith, is_run) in (
          simp (can, le-ltb _ _ l) (ap Some is_run),
          simp (can, le-ltb _ _ l) (e ∙ taken_out_law ring out read n (record { long = bytes; few = run_few; room = omega arith }) ∙ ap (λ (x : ℕ). sets out 0 (read_of ring read x)) is_run),
        )
