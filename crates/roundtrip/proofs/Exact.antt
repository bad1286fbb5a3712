-- What was accepted reads back, and 109 is exactly for the frames that no bytes read as.
-- Assumes nothing.
use mathlib.Core.Path.{◌≡◌, refl, sym, ◌∙◌, ap, subst}
use mathlib.Core.Bool.{Bool, true, false, not, true≢false}
use mathlib.Core.List.{List}
use Prim.Native.Nat.{ℕ, ◌+◌}
use native.Mathlib.Nat.{zero-add}
use native.Mathlib.Omega.{arith}
use borrow.Author.Tests.{not-false}
use lib.ListN.{length, get_or}
use Rattle.answers.specs.declared.Answer.TheVariants.{Unwritable}
use Rattle.answers.proofs.Distinct.{impossible}
use Rattle.wire.specs.Number.{Stands}
use Rattle.wire.specs.Writing.{Bytes, writes, Written}
use Rattle.wire.proofs.Writing.{never, only_room, past, bytes_written}
use Rattle.frames.specs.declared.Frame.{Frame}
use Rattle.contents.specs.Parts.{parts_of}
use Rattle.contents.specs.Content.{Content, contents}
use Rattle.contents.specs.Taken.{takes}
use Rattle.sizes.specs.Spelled.{spelled_frame, frame_draft}
use Rattle.sizes.proofs.Spelling.{writable, unwritable}
use Rattle.roundtrip.specs.Readable.{ReadsAs, Readable}
use Rattle.roundtrip.proofs.Back.{read_back}
use Rattle.roundtrip.proofs.Readers.{read_taken}
use Rattle.std.specs.Prelude.{Result, Ok, Err}
use Rattle.frames.specs.Fields.{read_as}
use Rattle.answers.specs.declared.Answer.{Answer}

-- what is accepted can be written, and its bytes were
accepted : (c : Content) (out : List ℕ) (at : ℕ) {r : Result ℕ Answer} {after : List ℕ} → (r, after) ≡ writes (frame_draft c) out at → {n : ℕ} → r ≡ Ok n
    → (takes c ≡ true) × Written (spelled_frame c) out at n after
unfolding frame_draft
accepted c out at e p =
    let q = past (not (takes c)) Unwritable (Bytes (spelled_frame c)) out at e p in
    (not-false (takes c) q.0, bytes_written (spelled_frame c) out at q.1 p)

-- 109 comes before 108: a frame that cannot be written answers 109 whatever the output, and no other frame does
module _ (c : Content) (out : List ℕ) (at : ℕ) where
  refuses : takes c ≡ false → (writes (frame_draft c) out at).0 ≡ Err Unwritable
  refuses e = rw (unwritable c e, never out at Unwritable)

  only_unwritable : (writes (frame_draft c) out at).0 ≡ Err Unwritable → takes c ≡ false
  only_unwritable e = go (takes c) refl
    where
      go : (b : Bool) → takes c ≡ b → takes c ≡ false
      go false p = p
      go true p =
          let r = (only_room (frame_draft c) out at refl e (spelled_frame c) (writable c p)).0 in
          impossible cc

-- read after write: the frame at the place of writing says the same, and ends where the writing ended
pub written : (s out : List ℕ) (f : Frame) (at : ℕ) {r : Result ℕ Answer} {after : List ℕ} → (r, after) ≡ writes (frame_draft (contents s f)) out at → {n : ℕ} → r ≡ Ok n → ReadsAs after at n (contents s f)
written s out f at {r} {after} e {n} p =
    let a = accepted (contents s f) out at e p in
    let b = read_back s after f at a.0 a.1.stands in
    (b.0, (parts_of f).ty, b.1 ∙ ap (read_as b.0 (parts_of f).ty) (sym a.1.ends), b.2)

-- a list stands in itself
itself : (l : List ℕ) → Stands l 0 l
itself l = record { ends = omega arith; same = λ i h. ap (λ (k : ℕ). get_or l k 0) (zero-add i) }

-- 109 is exactly what has no reading: whatever the output, some bytes read as the frame if it is not 109, and none if it is
pub has_reading : (s : List ℕ) (f : Frame) → takes (contents s f) ≡ true → Readable (contents s f)
has_reading s f t =
    let l = spelled_frame (contents s f) in
    let r = read_back s l f 0 t (itself l) in
    (l, 0, 0 + length l, r.0, (parts_of f).ty, r.1, r.2)

pub no_reading : (s : List ℕ) (f : Frame) → takes (contents s f) ≡ false → Readable (contents s f) → ⊥
no_reading s f e r = true≢false (sym (subst (λ (c : Content). takes c ≡ true) r.6 (read_taken r.0 r.1 r.5)) ∙ e)

pub exact : (s : List ℕ) (f : Frame) (out : List ℕ) (at : ℕ)
    → (((writes (frame_draft (contents s f)) out at).0 ≡ Err Unwritable) → Readable (contents s f) → ⊥) × ((Readable (contents s f) → ⊥) → (writes (frame_draft (contents s f)) out at).0 ≡ Err Unwritable)
exact s f out at = (
  (λ e. no_reading s f (only_unwritable (contents s f) out at e)),
  (λ none. refuses (contents s f) out at (go (takes (contents s f)) refl none)),
)
  where
    go : (b : Bool) → takes (contents s f) ≡ b → (Readable (contents s f) → ⊥) → b ≡ false
    go true e none = absurd (none (has_reading s f e))
    go false e none = refl
