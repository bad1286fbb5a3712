-- `layouts::table::find` meets its contract: the code's rows are the definition's table, packed, and are unpacked to it, each by one computation; a type after it has the layout that the definition gives by default.
use mathlib.Core.Path.{◌≡◌, sym, ◌∙◌}
use mathlib.Core.List.{List, map}
use Prim.Native.Nat.{ℕ, ◌+◌, ◌*◌}
use native.Mathlib.Omega.{arith}
use lib.ListN.{get_or, get_or-eq_default, get_or-map}
use Rattle.layouts.specs.Layout.{layouts, layout_of}
use Rattle.layouts.specs.Packed.{tail_in, layout_in}
use Rattle.layouts.specs.declared.Tail.{Tail}
use Rattle.layouts.specs.declared.Tail.TheVariants.{Nothing, Counted, Remainder, Eight, Identity, Ranges}
use Rattle.layouts.specs.declared.Layout.{Layout}
use Rattle.layouts.proofs.table.find.Goals as goal

digit : Tail → ℕ
digit Nothing = 0
digit Counted = 1
digit Remainder = 2
digit Eight = 3
digit Identity = 4
digit Ranges = 5

rows : List ℕ
rows = map (λ (l : Layout). l.numbers * 256 + digit l.tail * 16 + l.after) layouts

-- a row is unpacked to the layout of its type
row : (n : ℕ) → layout_in (get_or rows n 0) ≡ layout_of n
unfolding rows digit layouts layout_of layout_in tail_in
row n = sym (get_or-map layout_in rows n 0)

pub returns-then-ty-gt-HANDSHAKE_DONE : goal.returns-then-ty-gt-HANDSHAKE_DONE
unfolding rows digit layouts layout_of
returns-then-ty-gt-HANDSHAKE_DONE c = sym (get_or-eq_default layouts _ {n = c.args.ty} (omega arith))

pub returns : goal.returns
unfolding rows digit layouts layout_of
returns c = c.unpack.ensures ∙ row c.args.ty
