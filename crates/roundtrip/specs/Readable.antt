-- What it means that a frame reads back: some bytes read as a frame that says the same.
use Rattle.std.specs.Prelude.{◌≡◌, ℕ, List}
use Rattle.frames.specs.Reading.{any_frame_at}
use Rattle.frames.specs.declared.Frame.{Frame}
use Rattle.contents.specs.Content.{Content, contents}
use Rattle.frames.specs.Fields.{read_as}

-- a frame is read at a place of s up to n, and says c
abbrev pub ReadsAs : List ℕ → ℕ → ℕ → Content → Type 0
ReadsAs s at n c = (g : Frame) × (ty : ℕ) × (any_frame_at s at ≡ read_as g ty n) × (contents s g ≡ c)

-- some bytes, at some place, read as a frame that says c
abbrev pub Readable : Content → Type 0
Readable c = (s : List ℕ) × (at : ℕ) × (n : ℕ) × (g : Frame) × (ty : ℕ) × (any_frame_at s at ≡ read_as g ty n) × (contents s g ≡ c)
