-- A text in two pieces is read as the whole: by its first character, and then as the others are, a shorter text in two pieces.
-- Assumes nothing.
use mathlib.Core.Path.{◌≡◌, refl, sym, ap}
use mathlib.Core.List.{List, [], ◌∷◌, ◌++◌, append_assoc}
use Prim.Native.Nat.{ℕ, suc, ◌+◌, ◌<◌}
use native.Mathlib.Nat.{zero-add}
use native.Mathlib.Omega.{arith}
use borrow.Author.Tests.{lt-ltb, le-ltb}
use lib.ListN.{length, take}
use lib.Seq.{sets, sets-eq, take_at}
use Rattle.answers.proofs.Choice.{below_or_not}
use Rattle.answers.proofs.Distinct.{impossible}
use Rattle.dumps.specs.Dump.{next_of, behind, stepped, read_of, begun_of, taken_of}
use Rattle.dumps.specs.declared.Step.{Step}
use Rattle.dumps.specs.declared.Step.TheVariants.{Between, Begun, Byte}
use Rattle.dumps.specs.declared.Taken.{Taken}
use Rattle.dumps.specs.declared.DumpError.{DumpError}
use Rattle.std.specs.Prelude.{Option, Some, None, Result, Ok}
use Rattle.dumps.proofs.Characters.{begun_twice}
use Rattle.dumps.proofs.Room.{bounded}

module _ (s t : List ℕ) where
  -- what the law says of two pieces after a digit, and the same with a character more before them
  abbrev Joined : Option ℕ → Type 0
  Joined half = (read_of half s).used ≡ length s → read_of half (s ++ t) ≡ behind (length s) (read_of half s).bytes (read_of (read_of half s).half t)

  one_more : (half : Option ℕ) (more : List ℕ) → Joined half → 1 + (read_of half s).used ≡ suc (length s)
      → behind 1 more (read_of half (s ++ t)) ≡ behind (suc (length s)) (more ++ (read_of half s).bytes) (read_of (read_of half s).half t)
  one_more half more j e =
      let r = read_of (read_of half s).half t in
      let n : 1 + (length s + r.used) ≡ suc (length s) + r.used = omega arith in
      rw (j (omega arith), n, append_assoc more (read_of half s).bytes r.bytes)

  joined_step : (x : Option Step) (half : Option ℕ) → ((d : Option ℕ) → Joined d) → (stepped x half (λ d. read_of d s)).used ≡ suc (length s)
      → stepped x half (λ d. read_of d (s ++ t)) ≡ behind (suc (length s)) (stepped x half (λ d. read_of d s)).bytes (read_of (stepped x half (λ d. read_of d s)).half t)
  unfolding stepped
  joined_step (Some Between) half j e = one_more half [] (j half) e
  joined_step (Some (Begun first)) half j e = one_more (Some first) [] (j (Some first)) e
  joined_step (Some (Byte byte)) half j e = one_more None (byte ∷ []) (j None) e
  joined_step None half j e = absurd (omega arith)

-- the law: where the first piece is read to its end, the second is read after the digit that it leaves
pub joined : (half : Option ℕ) (s t : List ℕ) → (read_of half s).used ≡ length s → read_of half (s ++ t) ≡ behind (length s) (read_of half s).bytes (read_of (read_of half s).half t)
unfolding read_of
joined half [] t e = rw zero-add
joined half (c ∷ s) t e = joined_step s t (next_of half c) half (λ d. joined d s t) e

-- a first piece with a wrong character: no more is read
halted_step : (s t : List ℕ) (x : Option Step) (half : Option ℕ) → ((d : Option ℕ) → (read_of d s).used < length s → read_of d (s ++ t) ≡ read_of d s) → (stepped x half (λ d. read_of d s)).used < suc (length s)
    → stepped x half (λ d. read_of d (s ++ t)) ≡ stepped x half (λ d. read_of d s)
unfolding stepped
halted_step s t (Some Between) half j h = rw (j half (omega arith))
halted_step s t (Some (Begun first)) half j h = rw (j (Some first) (omega arith))
halted_step s t (Some (Byte byte)) half j h = rw (j None (omega arith))
halted_step s t None half j h = refl

pub halted : (half : Option ℕ) (s t : List ℕ) → (read_of half s).used < length s → read_of half (s ++ t) ≡ read_of half s
unfolding read_of
halted half [] t h = absurd (omega arith)
halted half (c ∷ s) t h = halted_step s t (next_of half c) half (λ d. halted d s t) h

abbrev answer : Result Taken DumpError × List ℕ → Result Taken DumpError
answer x = x.0

-- the same of two calls: what the first answers is what the second goes on with
module _ (half : Option ℕ) (s out : List ℕ) {left : Option ℕ} {n : ℕ} {after : List ℕ} (e : taken_of half s out ≡ (Ok (record { half = left; len = n }), after)) where
  pub taken : ((read_of (begun_of half) s).used ≡ length s) × ((read_of (begun_of half) s).half ≡ left) × ((read_of (begun_of half) s).bytes ≡ take n after)
  unfolding taken_of
  taken =
      let r = read_of (begun_of half) s in
      let b = bounded (begun_of half) s (begun_twice half) in
      below_or_not (length out) (length s)
      (λ l. let a = ap answer (rw (lt-ltb (length out) (length s) l) at e) in impossible cc)
      (λ l. below_or_not r.used (length s)
      (λ m. let a = ap answer (rw (le-ltb (length out) (length s) l, lt-ltb r.used (length s) m) at e) in impossible cc)
      (λ m.
      let f = rw (le-ltb (length out) (length s) l, le-ltb r.used (length s) m) at e in
      let a = ap answer f in
      let t : ◌≡◌ {A = Taken} (record { half = r.half; len = length r.bytes }) (record { half = left; len = n }) = cc in
      let h : r.half ≡ left = ap (λ (x : Taken). x.half) t in
      let k : n ≡ length r.bytes = sym (ap (λ (x : Taken). x.len) t) in
      let o : after ≡ sets out 0 r.bytes = sym (ap (λ (x : Result Taken DumpError × List ℕ). x.1) f) in
      (omega arith, h, rw (o, k, sets-eq r.bytes out 0 (omega arith)) (sym (take_at r.bytes _ (length r.bytes) refl)))))

  pub two_calls : (t : List ℕ) → read_of (begun_of half) (s ++ t) ≡ behind (length s) (take n after) (read_of (begun_of left) t)
  two_calls t =
      let b = bounded (begun_of half) s (begun_twice half) in
      rw (← taken.1, b.digit, ← taken.2) (joined (begun_of half) s t taken.0)
