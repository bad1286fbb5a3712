-- What a frame says, wherever its bytes stand: its type and numbers, and lists in place of places. Two frames are the same when their contents are.
use Rattle.std.specs.Prelude.{ℕ, ◌+◌, ◌*◌, Bool, true, ◌&&◌, List, [], length, leb}
use Rattle.std.proofs.Math.Seq.{slice}
use Rattle.ranges.specs.Listed.{listed}
use Rattle.layouts.specs.Layout.{layout_of}
use Rattle.layouts.specs.declared.Tail.{Tail}
use Rattle.layouts.specs.declared.Tail.TheVariants.{Nothing, Counted, Remainder, Eight, Identity, Ranges}
use Rattle.fields.specs.declared.Parts.{Parts}
use Rattle.frames.specs.declared.Frame.{Frame}
use Rattle.contents.specs.Parts.{parts_of}

-- the bytes of a frame, or the numbers of an ACK's further ranges, Gap and ACK Range Length in turn
abbrev pub body_of : List ℕ → Tail → Parts → List ℕ
body_of s Nothing p = []
body_of s Counted p = slice p.at (p.at + p.len) s
body_of s Remainder p = slice p.at (p.at + p.len) s
body_of s Eight p = slice p.at (p.at + p.len) s
body_of s Identity p = slice p.at (p.at + p.len) s
body_of s Ranges p = listed s p.at (2 * p.c)

-- the bytes of a stateless reset token
abbrev pub token_of : List ℕ → Tail → Parts → List ℕ
token_of s Nothing p = []
token_of s Counted p = []
token_of s Remainder p = []
token_of s Eight p = []
token_of s Identity p = slice p.token (p.token + 16) s
token_of s Ranges p = []

-- whether the places of a token lie inside a slice of n bytes
abbrev pub token_inside : ℕ → Tail → Parts → Bool
token_inside n Nothing p = true
token_inside n Counted p = true
token_inside n Remainder p = true
token_inside n Eight p = true
token_inside n Identity p = leb (p.token + 16) n
token_inside n Ranges p = true

-- whether all places of a frame lie inside a slice of n bytes
unfoldable pub inside_of : ℕ → Tail → Parts → Bool
inside_of n tail p = leb (p.at + p.len) n && token_inside n tail p

-- `inside` is part of it: what a frame says with a place outside of its slice is what no frame says that was read
pub record Content : Type 0 where
  pub ty : ℕ
  pub a : ℕ
  pub b : ℕ
  pub c : ℕ
  pub d : ℕ
  pub len : ℕ
  pub body : List ℕ
  pub token : List ℕ
  pub x : ℕ
  pub y : ℕ
  pub z : ℕ
  pub inside : Bool

abbrev pub content_of : List ℕ → Parts → Content
content_of s p =
    let t = (layout_of p.ty).tail in
    record {
      ty = p.ty;
      a = p.a;
      b = p.b;
      c = p.c;
      d = p.d;
      len = p.len;
      body = body_of s t p;
      token = token_of s t p;
      x = p.x;
      y = p.y;
      z = p.z;
      inside = inside_of (length s) t p;
    }

-- the contents of a frame whose places refer to s
abbrev pub contents : List ℕ → Frame → Content
contents s f = content_of s (parts_of f)
