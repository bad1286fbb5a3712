-- What holds of every frame that was read: where it lies, and what was read for its fields.
use Rattle.std.specs.Prelude.{◌≡◌, ℕ, ◌≤◌, ◌<◌, false, List, length}
use Rattle.layouts.specs.Layout.{layout_of}
use Rattle.fields.specs.Faults.{fault_of}
use Rattle.layouts.specs.Body.{numbers_at, body_at, are, holds_at}
use Rattle.frames.specs.Fields.{frame_of}
use Rattle.frames.specs.declared.Frame.{Frame}

-- a frame of the type ty from a place up to n: it ends above its place and within the payload, and its type is one of section 19
pub record Lies (s : List ℕ) (at ty n : ℕ) : Type 0 where
  pub above : at < n
  pub within : n ≤ length s
  pub known : ty ≤ 0x1e

-- the fields of a frame f of the type t up to n, read at a place for the type ty: what stands there by the layout of ty, no fault, and f put together from it
pub record FieldsRead (s : List ℕ) (at ty : ℕ) (f : Frame) (t n : ℕ) : Type 0 where
  pub a : ℕ
  pub b : ℕ
  pub c : ℕ
  pub d : ℕ
  pub p : ℕ
  pub start : ℕ
  pub len : ℕ
  pub token : ℕ
  pub q : ℕ
  pub x : ℕ
  pub y : ℕ
  pub z : ℕ
  pub rest : ℕ
  pub numbers : numbers_at s at (layout_of ty).numbers ≡ are a b c d p
  pub body : body_at s p (layout_of ty).tail a c d ≡ holds_at start len token q
  pub after : numbers_at s q (layout_of ty).after ≡ are x y z rest n
  pub right : fault_of ty a b len ≡ false
  pub made : f ≡ frame_of (record { ty = ty; a = a; b = b; c = c; d = d; at = start; len = len; token = token; x = x; y = y; z = z })
  pub type : t ≡ ty
