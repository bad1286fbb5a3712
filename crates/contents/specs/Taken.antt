-- Which frames can be written: 109 for a value above 2^62-1, a place outside of the slice, or a frame that the reader would refuse with 7.
use Rattle.std.specs.Prelude.{ℕ, ◌-◌, Bool, true, not, ◌&&◌, List, [], ◌∷◌, leb}
use Rattle.row.specs.Row.{in_range}
use Rattle.ranges.specs.Listed.{fits}
use Rattle.layouts.specs.Layout.{layout_of}
use Rattle.fields.specs.Faults.{fault_of}
use Rattle.layouts.specs.declared.Tail.{Tail}
use Rattle.layouts.specs.declared.Tail.TheVariants.{Nothing, Counted, Remainder, Eight, Identity, Ranges}
use Rattle.contents.specs.Content.{Content}

-- no run of an ACK goes below number 0, and all its ranges are there
abbrev pub fitting : Tail → ℕ → ℕ → ℕ → List ℕ → Bool
fitting Nothing largest count first body = true
fitting Counted largest count first body = true
fitting Remainder largest count first body = true
fitting Eight largest count first body = true
fitting Identity largest count first body = true
fitting Ranges largest count first body = leb first largest && fits (largest - first) count body

unfoldable pub takes : Content → Bool
takes f =
    f.inside
    && in_range (f.a ∷ f.b ∷ f.c ∷ f.d ∷ f.x ∷ f.y ∷ f.z ∷ f.len ∷ [])
    && not (fault_of f.ty f.a f.b f.len)
    && fitting (layout_of f.ty).tail f.a f.c f.d f.body
