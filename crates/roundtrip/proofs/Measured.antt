-- A measure is what writing needs: a frame is written just where the output has as many bytes from the place on, up to the place after so many; with fewer it is 108, and 109 comes just where there is no measure.
-- Assumes nothing.
use mathlib.Core.Path.{◌≡◌, sym, ap}
use mathlib.Core.List.{List}
use Prim.Native.Nat.{ℕ, ◌+◌, ◌≤◌, ◌<◌}
use native.Mathlib.Omega.{arith}
use lib.ListN.{length}
use Rattle.answers.specs.declared.Answer.TheVariants as Answer'
use Rattle.wire.specs.Writing.{writes}
use Rattle.wire.proofs.Writing.{never, no_room, all_written}
use Rattle.contents.specs.Content.{Content}
use Rattle.sizes.specs.Spelled.{spelled_frame, frame_draft}
use Rattle.sizes.specs.Measure.{measured_of}
use Rattle.sizes.proofs.Measuring.{counted, not_taken}
use Rattle.sizes.proofs.Spelling.{writable, unwritable}
use Rattle.std.specs.Prelude.{Some, None, Ok, Err}

module _ (c : Content) (out : List ℕ) (at : ℕ) where
  pub enough : {k : ℕ} → measured_of c ≡ Some k → at + k ≤ length out → (writes (frame_draft c) out at).0 ≡ Ok (at + k)
  enough e h =
      let m = counted c e in
      rw (writable c m.0, all_written out at (spelled_frame c) (omega (arith, m.1, h))) (ap (λ (n : ℕ). Ok (at + n)) (sym m.1))

  pub short : {k : ℕ} → measured_of c ≡ Some k → length out < at + k → writes (frame_draft c) out at ≡ (Err Answer'.NoRoom, out)
  short e h =
      let m = counted c e in
      rw (writable c m.0) (no_room out at (spelled_frame c) (omega (arith, m.1, h)))

  pub unmeasured : measured_of c ≡ None → writes (frame_draft c) out at ≡ (Err Answer'.Unwritable, out)
  unmeasured e = rw (unwritable c (not_taken c e)) (never out at Answer'.Unwritable)
