-- What is written reads back: where a frame's bytes stand, its type, its numbers, its body and the numbers after it are read one after the other, and put together they say the same.
-- Assumes nothing.
use mathlib.Core.Path.{◌≡◌, refl, sym, ◌∙◌, ap}
use mathlib.Core.Bool.{true}
use mathlib.Core.List.{List, [], ◌∷◌, ◌++◌}
use Prim.Native.Nat.{ℕ, ◌+◌}
use native.Mathlib.Omega.{arith}
use borrow.Author.Tests.{eq-eqb}
use lib.ListN.{length}
use Rattle.wire.specs.Number.{Stands, bytes_of, size_of, shortest}
use Rattle.wire.proofs.Standing.{left, right}
use Rattle.wire.proofs.Back as number
use Rattle.wire.proofs.Exit.{length_bytes}
use Rattle.row.specs.Row.{in_range}
use Rattle.layouts.specs.Layout.{layout_of}
use Rattle.layouts.specs.Body.{numbers_at, are, holds_at}
use Rattle.fields.specs.Parts.{ended_at, parts_at}
use Rattle.frames.specs.Fields.{frame_of, fields_at, read_as}
use Rattle.fields.specs.Heads.{head_at}
use Rattle.frames.specs.Reading.{any_frame_at}
use Rattle.layouts.specs.declared.Layout.{Layout}
use Rattle.fields.specs.declared.Parts.{Parts}
use Rattle.frames.specs.declared.Frame.{Frame}
use Rattle.contents.specs.Parts.{parts_of}
use Rattle.contents.specs.Content.{body_of, token_of, inside_of, content_of, contents}
use Rattle.contents.specs.Taken.{takes}
use Rattle.sizes.specs.Spelled.{four_bytes, body_bytes, spelled_frame}
use Rattle.contents.specs.Again.{first, at_in, token_in, moved, again}
use Rattle.contents.proofs.Settled.{settled}
use Rattle.contents.proofs.Taking.{taken, Low, low}
use Rattle.sizes.proofs.Spelling.{spelled_length}
use Rattle.writing.proofs.Spelling.{range_four}
use Rattle.sizes.proofs.Bounds.{type_known}
use Rattle.roundtrip.proofs.Standing.{numbers_back}
use Rattle.roundtrip.proofs.Found.{Writable, FoundAgain, body_back}
use Rattle.std.specs.Prelude.{Ok}

-- where a frame's bytes stand
module _ (s out : List ℕ) (f : Frame) (at : ℕ) (t : takes (contents s f) ≡ true) (st : Stands out at (spelled_frame (contents s f))) where
  abbrev p : Parts
  p = parts_of f

  abbrev l : Layout
  l = layout_of p.ty

  abbrev N : List ℕ
  N = four_bytes l.numbers p.a p.b p.c p.d

  abbrev B : List ℕ
  B = body_bytes l.tail p.len (body_of s l.tail p) (token_of s l.tail p)

  abbrev A : List ℕ
  A = four_bytes l.after p.x p.y p.z 0

  -- the type
  all : Stands out at (bytes_of p.ty ++ (N ++ (B ++ A)))
  unfolding spelled_frame
  all = st

  head_back : head_at out at ≡ Ok (p.ty, at + size_of p.ty)
  unfolding head_at shortest
  head_back = rw (number.back out at p.ty (omega (arith, type_known f)) (left (bytes_of p.ty) (N ++ (B ++ A)) all), eq-eqb (at + size_of p.ty) _ refl, (settled f).3)

  behind : Stands out (at + size_of p.ty) (N ++ (B ++ A))
  behind = rw (length_bytes p.ty) at (right (bytes_of p.ty) (N ++ (B ++ A)) all)

  abbrev q : ℕ
  q = at + size_of p.ty + length N

  abbrev r : ℕ
  r = q + length B

  -- what the layout leaves out is 0 already
  keeps : again p 0 0 ≡ moved p 0 0
  keeps = (settled f).0 0 0

  lows : Low (contents s f)
  lows = low (contents s f) t

  before : in_range (p.a ∷ p.b ∷ p.c ∷ p.d ∷ []) ≡ true
  before = range_four p.a p.b p.c p.d lows.a lows.b lows.c lows.d

  behind_it : in_range (p.x ∷ p.y ∷ p.z ∷ 0 ∷ []) ≡ true
  behind_it = range_four p.x p.y p.z 0 lows.x lows.y lows.z (omega arith)

  numbers : numbers_at out (at + size_of p.ty) l.numbers ≡ are p.a p.b p.c p.d q
  numbers =
      numbers_back out (at + size_of p.ty) l.numbers p.a p.b p.c p.d before (left N (B ++ A) behind)
      ∙ (λ i. are (keeps i).a (keeps i).b (keeps i).c (keeps i).d q)

  writable : Writable s l.tail p
  writable = let u = taken (contents s f) t in record { closed = (settled f).1; inside = u.inside; low = lows.len; measure = λ i. (keeps i).len; runs = u.fits }

  body : (start : ℕ) × (token : ℕ) × FoundAgain s out q l.tail p start token
  body = body_back s out q l.tail p writable (left B A (right N (B ++ A) behind))

  after : numbers_at out r l.after ≡ are p.x p.y p.z (first 3 l.after 0) (r + length A)
  after =
      numbers_back out r l.after p.x p.y p.z 0 behind_it (right B A (right N (B ++ A) behind))
      ∙ (λ i. are (keeps i).x (keeps i).y (keeps i).z (first 3 l.after 0) (r + length A))

  -- the frame that is read
  abbrev g : Frame
  g = frame_of (moved p body.0 body.1)

  ends : r + length A ≡ at + length (spelled_frame (contents s f))
  ends = omega (arith, spelled_length (contents s f))

  fields : fields_at out (at + size_of p.ty) p.ty ≡ read_as g p.ty (r + length A)
  unfolding fields_at ended_at parts_at
  fields =
      rw (numbers, body.2.found ∙ (λ i. holds_at (at_in l.tail body.0) (keeps i).len (token_in l.tail body.1) r), after, (taken (contents s f) t).right)

  back : any_frame_at out at ≡ read_as g p.ty (at + length (spelled_frame (contents s f)))
  unfolding any_frame_at
  back = rw head_back (fields ∙ ap (read_as g p.ty) ends)

  same : contents out g ≡ contents s f
  same =
      let b = body.2 in
      let u : inside_of (length out) l.tail (moved p body.0 body.1) ≡ inside_of (length s) l.tail p = b.inside ∙ sym (taken (contents s f) t).inside in
      ap (content_of out) ((settled f).2 body.0 body.1)
      ∙ (λ i. record { ty = p.ty; a = p.a; b = p.b; c = p.c; d = p.d; len = p.len; body = b.body i; token = b.its_token i; x = p.x; y = p.y; z = p.z; inside = u i })

  pub read_back : (h : Frame) × (any_frame_at out at ≡ read_as h p.ty (at + length (spelled_frame (contents s f)))) × (contents out h ≡ contents s f)
  read_back = (g, back, same)
