-- What a reader makes of a frame's parts: the numbers and places that its layout has, and 0 for the others.
use Rattle.std.specs.Prelude.{ℕ, Bool, true, false, ltb}
use Rattle.answers.specs.Choice.{◌⇒◌∣◌}
use Rattle.layouts.specs.Layout.{layout_of}
use Rattle.layouts.specs.declared.Tail.{Tail}
use Rattle.layouts.specs.declared.Tail.TheVariants.{Nothing, Counted, Remainder, Eight, Identity, Ranges}
use Rattle.fields.specs.declared.Parts.{Parts}

-- a place, unless the tail has none
abbrev pub at_in : Tail → ℕ → ℕ
at_in Nothing at = 0
at_in Counted at = at
at_in Remainder at = at
at_in Eight at = at
at_in Identity at = at
at_in Ranges at = at

-- how many bytes
abbrev pub len_in : Tail → ℕ → ℕ
len_in Nothing len = 0
len_in Counted len = len
len_in Remainder len = len
len_in Eight len = 8
len_in Identity len = len
len_in Ranges len = 0

-- the place of a token
abbrev pub token_in : Tail → ℕ → ℕ
token_in Nothing token = 0
token_in Counted token = 0
token_in Remainder token = 0
token_in Eight token = 0
token_in Identity token = token
token_in Ranges token = 0

-- the first n of four numbers, and 0 for the others
abbrev pub first : ℕ → ℕ → ℕ → ℕ
first i n v =
    ltb i n ⇒ v
    ∣ 0

-- the parts as a reader finds them, with the bytes at these places
abbrev pub again : Parts → ℕ → ℕ → Parts
again p at token =
    let l = layout_of p.ty in
    record {
      ty = p.ty;
      a = first 0 l.numbers p.a;
      b = first 1 l.numbers p.b;
      c = first 2 l.numbers p.c;
      d = first 3 l.numbers p.d;
      at = at_in l.tail at;
      len = len_in l.tail p.len;
      token = token_in l.tail token;
      x = first 0 l.after p.x;
      y = first 1 l.after p.y;
      z = first 2 l.after p.z;
    }

-- the tails that are written: a frame's bytes are never left to end with the packet
abbrev pub ended : Tail → Bool
ended Nothing = true
ended Counted = true
ended Remainder = false
ended Eight = true
ended Identity = true
ended Ranges = true

-- the same parts with the bytes of a tail at other places
abbrev pub moved_in : Tail → Parts → ℕ → ℕ → Parts
moved_in tail p at token = record { ty = p.ty; a = p.a; b = p.b; c = p.c; d = p.d; at = at_in tail at; len = p.len; token = token_in tail token; x = p.x; y = p.y; z = p.z }

abbrev pub moved : Parts → ℕ → ℕ → Parts
moved p at token = moved_in (layout_of p.ty).tail p at token
