-- What `takes` asks in the end, and what holds of a frame that can be written.
-- Assumes nothing.
use mathlib.Core.Path.{◌≡◌}
use mathlib.Core.Bool.{true, false, not, ◌&&◌, and-eq-true_iff}
use mathlib.Core.List.{[], ◌∷◌}
use Prim.Native.Nat.{◌^◌, ◌<◌}
use borrow.Author.Tests.{not-true}
use Rattle.row.specs.Row.{in_range}
use Rattle.layouts.specs.Layout.{layout_of}
use Rattle.fields.specs.Faults.{fault_of}
use Rattle.contents.specs.Content.{Content}
use Rattle.contents.specs.Taken.{takes, fitting}
use Rattle.contents.proofs.Ones.{first_in_range}

-- what is left to ask of a frame whose places are inside, whose numbers are in range and whose fields have no fault
pub fine : (f : Content) → f.inside ≡ true → in_range (f.a ∷ f.b ∷ f.c ∷ f.d ∷ f.x ∷ f.y ∷ f.z ∷ f.len ∷ []) ≡ true → fault_of f.ty f.a f.b f.len ≡ false
    → takes f ≡ fitting (layout_of f.ty).tail f.a f.c f.d f.body
unfolding takes
fine f e g h = rw (e, g, h)

-- the parts of `takes`
pub record Taken (f : Content) : Type 0 where
  pub inside : f.inside ≡ true
  pub range : in_range (f.a ∷ f.b ∷ f.c ∷ f.d ∷ f.x ∷ f.y ∷ f.z ∷ f.len ∷ []) ≡ true
  pub right : fault_of f.ty f.a f.b f.len ≡ false
  pub fits : fitting (layout_of f.ty).tail f.a f.c f.d f.body ≡ true

pub taken : (f : Content) → takes f ≡ true → Taken f
unfolding takes
taken f e =
    let r = in_range (f.a ∷ f.b ∷ f.c ∷ f.d ∷ f.x ∷ f.y ∷ f.z ∷ f.len ∷ []) in
    let n = not (fault_of f.ty f.a f.b f.len) in
    let p = (and-eq-true_iff (f.inside && r && n) (fitting (layout_of f.ty).tail f.a f.c f.d f.body)).0 e in
    let q = (and-eq-true_iff (f.inside && r) n).0 p.0 in
    let w = (and-eq-true_iff f.inside r).0 q.0 in
    record { inside = w.0; range = w.1; right = not-true _ q.1; fits = p.1 }

-- the eight numbers are below 2^62
pub record Low (f : Content) : Type 0 where
  pub a : f.a < 2 ^ 62
  pub b : f.b < 2 ^ 62
  pub c : f.c < 2 ^ 62
  pub d : f.d < 2 ^ 62
  pub x : f.x < 2 ^ 62
  pub y : f.y < 2 ^ 62
  pub z : f.z < 2 ^ 62
  pub len : f.len < 2 ^ 62

pub low : (f : Content) → takes f ≡ true → Low f
low f e =
    let i = first_in_range f.a (f.b ∷ f.c ∷ f.d ∷ f.x ∷ f.y ∷ f.z ∷ f.len ∷ []) (taken f e).range in
    let j = first_in_range f.b (f.c ∷ f.d ∷ f.x ∷ f.y ∷ f.z ∷ f.len ∷ []) i.1 in
    let k = first_in_range f.c (f.d ∷ f.x ∷ f.y ∷ f.z ∷ f.len ∷ []) j.1 in
    let l = first_in_range f.d (f.x ∷ f.y ∷ f.z ∷ f.len ∷ []) k.1 in
    let m = first_in_range f.x (f.y ∷ f.z ∷ f.len ∷ []) l.1 in
    let n = first_in_range f.y (f.z ∷ f.len ∷ []) m.1 in
    let o = first_in_range f.z (f.len ∷ []) n.1 in
    let p = first_in_range f.len [] o.1 in
    record { a = i.0; b = j.0; c = k.0; d = l.0; x = m.0; y = n.0; z = o.0; len = p.0 }
