-- The rules of writing frames at their borders: they hold the definitions to docs/RULES.md. Beside each, its sentence.
use Rattle.std.specs.Prelude.{ℕ, ◌-◌, ◌^◌, ◌≡◌, false, List, [], ◌∷◌, ◌++◌, map, replicate, Some, None, Result, Ok, Err}
use Rattle.answers.specs.declared.Answer.TheVariants as Answer'
use Rattle.wire.specs.Writing.{writes, Bytes, Never, number_draft}
use Rattle.frames.specs.declared.Frame.{Frame}
use Rattle.frames.specs.declared.Frame.TheVariants.{Ping, Ack, NewToken, Stream, NewConnectionId, PathResponse}
use Rattle.contents.specs.Content.{contents}
use Rattle.sizes.specs.Spelled.{frame_draft}
use Rattle.sizes.specs.Measure.{measured_of}
use Rattle.sizes.specs.Said.{measured_says}
use Rattle.bodies.specs.Bodies.{identity_draft, place_after}
use Rattle.answers.specs.declared.Answer.{Answer}

-- the bytes that frames refer to: two 9s, and then 1 to 24
abbrev pub source : List ℕ
source = 9 ∷ 9 ∷ 1 ∷ 2 ∷ 3 ∷ 4 ∷ 5 ∷ 6 ∷ 7 ∷ 8 ∷ 9 ∷ 10 ∷ 11 ∷ 12 ∷ 13 ∷ 14 ∷ 15 ∷ 16 ∷ 17 ∷ 18 ∷ 19 ∷ 20 ∷ 21 ∷ 22 ∷ 23 ∷ 24 ∷ []

-- what is answered to a frame and an output of n bytes, and what such an output holds then
abbrev pub written : Frame → ℕ → Result ℕ Answer × List ℕ
written f n = writes (frame_draft (contents source f)) (replicate n 0x99) 0

abbrev pub answered : Frame → Result ℕ Answer
answered f = (written f 64).0

pub record Borders : Type 0 where
  -- "a value above 2^62-1": of a number alone
  pub highest : map (λ (v : ℕ). writes (number_draft v) (replicate 8 0x99) 0) ((2 ^ 62 - 1) ∷ 2 ^ 62 ∷ []) ≡ (Ok 8, replicate 8 0xff) ∷ (Err Answer'.Unwritable, replicate 8 0x99) ∷ []
  -- places outside of the 26 bytes: no bytes say such a frame, also where it would have none
  pub outside : map answered (Stream 4 0 false 24 2 ∷ Stream 4 0 false 25 2 ∷ Stream 4 0 false 26 0 ∷ Stream 4 0 false 27 0 ∷ PathResponse 18 ∷ PathResponse 19 ∷ NewConnectionId 7 5 4 3 10 ∷ NewConnectionId 7 5 4 3 11 ∷ Ack 5 0 0 5 26 ∷ Ack 5 0 0 5 27 ∷ Ack 60 0 1 0 24 ∷ Ack 60 0 1 0 25 ∷ [])
      ≡ Ok 5 ∷ Err Answer'.Unwritable ∷ Ok 3 ∷ Err Answer'.Unwritable ∷ Ok 9 ∷ Err Answer'.Unwritable ∷ Ok 23 ∷ Err Answer'.Unwritable ∷ Ok 5 ∷ Err Answer'.Unwritable ∷ Ok 7 ∷ Err Answer'.Unwritable ∷ []
  -- how many bytes a frame has; one that cannot be written is 109
  pub measured : map (λ f. measured_of (contents source f)) (Ping ∷ Stream 4 0 false 2 2 ∷ Ack 20 300 1 0 3 ∷ NewConnectionId 7 5 4 3 10 ∷ NewToken 2 0 ∷ []) ≡ Some 1 ∷ Some 5 ∷ Some 8 ∷ Some 23 ∷ None ∷ []
  pub measured_said : (measured_says None).number ≡ 109
  -- an ID of 255 bytes has a length of one byte, one of 256 has none; the place after what was written, 0 after a refusal
  pub longest_id : identity_draft (replicate 255 1) (2 ∷ []) ∷ identity_draft (replicate 256 1) [] ∷ [] ≡ Bytes (255 ∷ (replicate 255 1 ++ (2 ∷ []))) ∷ Never Answer'.Unwritable ∷ []
  pub places : map place_after (Ok 7 ∷ Err Answer'.NoRoom ∷ []) ≡ 7 ∷ 0 ∷ []
