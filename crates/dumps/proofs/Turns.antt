-- Reading a text from a place on: what one turn does with the character there, and what the answer is at the end or at a wrong character.
-- Assumes nothing.
use mathlib.Core.Path.{◌≡◌, refl}
use mathlib.Core.List.{List, []}
use Prim.Native.Nat.{ℕ, ◌+◌, ◌≤◌, ◌<◌}
use native.Mathlib.Numerals.{add-one}
use native.Mathlib.Omega.{arith}
use borrow.Author.Tests.{lt-ltb, le-ltb}
use lib.ListN.{length, get_or, drop, set}
use lib.Seq.{sets}
use Rattle.text.proofs.Steps.{step, ended}
use Rattle.dumps.specs.Dump.{next_of, Reading, stopped, behind, stepped, read_of, begun_of, taken_of}
use Rattle.dumps.specs.declared.Step.{Step}
use Rattle.dumps.specs.declared.Step.TheVariants.{Between, Begun, Byte}
use Rattle.dumps.specs.declared.DumpError.TheVariants.{Wrong, NoRoom}
use Rattle.std.specs.Prelude.{Option, Some, None, Ok, Err}

-- the rest is read after i characters with n bytes stored as the whole is read from the start
pub record Reached (whole : Reading) (out₀ : List ℕ) (rest : Reading) (out : List ℕ) (n i : ℕ) : Type 0 where
  pub left : whole.half ≡ rest.half
  pub place : whole.used ≡ i + rest.used
  pub count : length whole.bytes ≡ n + length rest.bytes
  pub stored : sets out n rest.bytes ≡ sets out₀ 0 whole.bytes

pub starts : (r : Reading) (out : List ℕ) → Reached r out r out 0 0
starts r out = record { left = refl; place = omega arith; count = omega arith; stored = refl }

module _ (s : List ℕ) (half : Option ℕ) (i : ℕ) (h : i < length s) {whole : Reading} {out₀ out : List ℕ} {n : ℕ} (r : Reached whole out₀ (read_of half (drop i s)) out n i) where
  -- what is read from the place on, by the character there
  here : {x : Option Step} → next_of half (get_or s i 0) ≡ x → read_of half (drop i s) ≡ stepped x half (λ (d : Option ℕ). read_of d (drop (i + 1) s))
  unfolding read_of
  here e = rw (step s i h, e)

  -- it gives no byte
  moved : (d : Option ℕ) → read_of half (drop i s) ≡ behind 1 [] (read_of d (drop (i + 1) s)) → Reached whole out₀ (read_of d (drop (i + 1) s)) out n (i + 1)
  moved d e = let t = rw e at r in record { left = t.left; place = omega (arith, t.place); count = t.count; stored = t.stored }

  -- it stands between bytes, is the first digit of one, or its second, or is wrong
  pub passes : next_of half (get_or s i 0) ≡ Some Between → Reached whole out₀ (read_of half (drop (i + 1) s)) out n (i + 1)
  unfolding stepped
  passes e = moved half (here e)

  pub opens : (first : ℕ) → next_of half (get_or s i 0) ≡ Some (Begun first) → Reached whole out₀ (read_of (Some first) (drop (i + 1) s)) out n (i + 1)
  unfolding stepped
  opens first e = moved (Some first) (here e)

  pub stores : (byte : ℕ) → next_of half (get_or s i 0) ≡ Some (Byte byte) → Reached whole out₀ (read_of None (drop (i + 1) s)) (set out n byte) (n + 1) (i + 1)
  unfolding stepped
  stores byte e = let t = rw (here e) at r in record { left = t.left; place = omega (arith, t.place); count = omega (arith, t.count); stored = rw (add-one n) t.stored }

  pub stops : next_of half (get_or s i 0) ≡ None → Reached whole out₀ (stopped half) out n i
  unfolding stepped
  stops e = rw (here e) at r

-- what is answered
module _ (half : Option ℕ) (s out₀ : List ℕ) where
  pub no_room : length out₀ < length s → taken_of half s out₀ ≡ (Err NoRoom, out₀)
  unfolding taken_of
  no_room h = rw (lt-ltb (length out₀) (length s) h)

  module _ (room : length s ≤ length out₀) {out : List ℕ} {n : ℕ} (left : Option ℕ) (i : ℕ) where
    pub is_wrong : Reached (read_of (begun_of half) s) out₀ (stopped left) out n i → i < length s → taken_of half s out₀ ≡ (Err (Wrong i left n), out)
    unfolding taken_of
    is_wrong r h =
        let u : (read_of (begun_of half) s).used ≡ i = omega (arith, r.place) in
        let l : length (read_of (begun_of half) s).bytes ≡ n = omega (arith, r.count) in
        rw (le-ltb (length out₀) (length s) room, u, l, r.left, lt-ltb i (length s) h, ← r.stored)

    pub is_all : i ≡ length s → Reached (read_of (begun_of half) s) out₀ (read_of left (drop i s)) out n i → taken_of half s out₀ ≡ (Ok (record { half = left; len = n }), out)
    unfolding taken_of read_of
    is_all e r =
        let t = rw (ended s i (omega arith)) at r in
        let u : (read_of (begun_of half) s).used ≡ i = omega (arith, t.place) in
        let l : length (read_of (begun_of half) s).bytes ≡ n = omega (arith, t.count) in
        rw (le-ltb (length out₀) (length s) room, u, l, t.left, le-ltb i (length s) (omega arith), ← t.stored)
