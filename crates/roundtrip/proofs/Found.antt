-- What a tail holds is read as it was written, tail by tail: its bytes stand at other places, and are the same.
-- Assumes nothing.
use mathlib.Core.Path.{◌≡◌, refl, sym, ap}
use mathlib.Core.Bool.{Bool, true, false, and-eq-true_iff}
use mathlib.Core.List.{List, [], ◌∷◌, ◌++◌}
use Prim.Native.Nat.{ℕ, ◌+◌, ◌*◌, ◌-◌, ◌^◌, ◌≤◌, ◌<◌}
use native.Mathlib.Nat.{add-zero}
use native.Mathlib.Omega.{arith}
use borrow.Author.Tests.{leb-true, le-leb, le-ltb}
use lib.Dec.{leb}
use lib.ListN.{length, get_or, length-append}
use lib.Seq.{slice}
use Rattle.answers.proofs.Distinct.{impossible}
use Rattle.wire.specs.Number.{Stands, bytes_of, size_of}
use Rattle.wire.proofs.Standing.{left, right, head}
use Rattle.wire.proofs.Back as number
use Rattle.wire.proofs.Exit.{length_bytes}
use Rattle.row.specs.Row.{bytes_all}
use Rattle.row.proofs.Back.{length_all}
use Rattle.ranges.specs.Listed.{listed, fits}
use Rattle.sizes.proofs.Listed as ranges
use Rattle.layouts.specs.Body.{body_at, sized_at, counted_at, identity_at, ranged_at, holds_at}
use Rattle.layouts.specs.declared.Tail.{Tail}
use Rattle.layouts.specs.declared.Tail.TheVariants.{Nothing, Counted, Remainder, Eight, Identity, Ranges}
use Rattle.fields.specs.declared.Parts.{Parts}
use Rattle.contents.specs.Content.{body_of, token_of, inside_of}
use Rattle.contents.specs.Taken.{fitting}
use Rattle.sizes.specs.Spelled.{body_bytes}
use Rattle.contents.specs.Again.{at_in, len_in, token_in, moved_in, ended}
use Rattle.sizes.proofs.Bodies.{within, wholly, part_length}
use Rattle.roundtrip.proofs.Standing.{slice_stands}

-- what a writer knows of a body: its places lie inside s, its length is in range and the one that its tail has, and its runs fit
pub record Writable (s : List ℕ) (tail : Tail) (p : Parts) : Type 0 where
  pub closed : ended tail ≡ true
  pub inside : inside_of (length s) tail p ≡ true
  pub low : p.len < 2 ^ 62
  pub measure : len_in tail p.len ≡ p.len
  pub runs : fitting tail p.a p.c p.d (body_of s tail p) ≡ true

-- the body of p in s is found in out at q, with its bytes at the places at and token
pub record FoundAgain (s out : List ℕ) (q : ℕ) (tail : Tail) (p : Parts) (at token : ℕ) : Type 0 where
  pub found : body_at out q tail p.a p.c p.d ≡ holds_at (at_in tail at) (len_in tail p.len) (token_in tail token) (q + length (body_bytes tail p.len (body_of s tail p) (token_of s tail p)))
  pub body : body_of out tail (moved_in tail p at token) ≡ body_of s tail p
  pub its_token : token_of out tail (moved_in tail p at token) ≡ token_of s tail p
  pub inside : inside_of (length out) tail (moved_in tail p at token) ≡ true

module _ (s out : List ℕ) (q : ℕ) (p : Parts) where
  abbrev bytes : List ℕ
  bytes = slice p.at (p.at + p.len) s

  long : p.at + p.len ≤ length s → length bytes ≡ p.len
  long h = part_length s p.at p.len h

  -- bytes that stand at a place are the slice of p's length there
  same : (at : ℕ) → p.at + p.len ≤ length s → Stands out at bytes → slice at (at + p.len) out ≡ bytes
  same at h st = slice_stands out at p.len bytes (long h) st

  nothing : Writable s Nothing p → Stands out q [] → FoundAgain s out q Nothing p 0 0
  nothing w st = record { found = rw add-zero; body = refl; its_token = refl; inside = wholly (length out) Nothing (moved_in Nothing p 0 0) (omega (arith, w.measure)) refl }

  counted : Writable s Counted p → Stands out q (bytes_of p.len ++ bytes) → FoundAgain s out q Counted p (q + size_of p.len) 0
  unfolding counted_at sized_at
  counted w st =
      let i = (within (length s) Counted p w.inside).0 in
      let n = long i in
      let r : Stands out (q + size_of p.len) bytes = rw (length_bytes p.len) at (right (bytes_of p.len) bytes st) in
      let e : q + size_of p.len + p.len ≤ length out = omega (arith, r.ends, n) in
      let m : q + size_of p.len + p.len ≡ q + length (bytes_of p.len ++ bytes) = omega (arith, length-append (bytes_of p.len) bytes, length_bytes p.len, n) in
      record {
        found = rw (number.back out q p.len w.low (left (bytes_of p.len) bytes st), le-ltb (length out) (q + size_of p.len + p.len) e) (ap (holds_at (q + size_of p.len) p.len 0) m);
        body = same (q + size_of p.len) i r;
        its_token = refl;
        inside = wholly (length out) Counted (moved_in Counted p (q + size_of p.len) 0) e refl;
      }

  eight : Writable s Eight p → Stands out q bytes → FoundAgain s out q Eight p q 0
  unfolding sized_at
  eight w st =
      let i = (within (length s) Eight p w.inside).0 in
      let n = long i in
      let e : q + p.len ≤ length out = omega (arith, st.ends, n) in
      record {
        found = rw (le-ltb (length out) (q + 8) (omega (arith, w.measure))) (ap (holds_at q 8 0) (omega (arith, w.measure, n)));
        body = same q i st;
        its_token = refl;
        inside = wholly (length out) Eight (moved_in Eight p q 0) e refl;
      }

  identity : Writable s Identity p → Stands out q (p.len ∷ (bytes ++ slice p.token (p.token + 16) s)) → FoundAgain s out q Identity p (q + 1) (q + 1 + p.len)
  unfolding identity_at
  identity w st =
      let t = slice p.token (p.token + 16) s in
      let i = within (length s) Identity p w.inside in
      let n = long i.0 in
      let tn : length t ≡ 16 = part_length s p.token 16 (leb-true (p.token + 16) (length s) i.1) in
      let g : get_or out q 0 ≡ p.len = head p.len (bytes ++ t) st in
      let r : Stands out (q + 1) (bytes ++ t) = right (p.len ∷ []) (bytes ++ t) st in
      let rt : Stands out (q + 1 + p.len) t = rw n at (right bytes t r) in
      let e : q + 1 + p.len + 16 ≤ length out = omega (arith, rt.ends, tn) in
      let m : q + 1 + p.len + 16 ≡ q + length (p.len ∷ (bytes ++ t)) = omega (arith, length-append bytes t, n, tn) in
      record {
        found = rw (g, le-ltb (length out) (q + 1 + p.len + 16) e) (ap (holds_at (q + 1) p.len (q + 1 + p.len)) m);
        body = same (q + 1) i.0 (left bytes t r);
        its_token = slice_stands out (q + 1 + p.len) 16 t tn rt;
        inside = wholly (length out) Identity (moved_in Identity p (q + 1) (q + 1 + p.len)) (omega arith) (le-leb (q + 1 + p.len + 16) (length out) e);
      }

  ranged : Writable s Ranges p → Stands out q (bytes_all (listed s p.at (2 * p.c))) → FoundAgain s out q Ranges p q 0
  unfolding ranged_at
  ranged w st =
      let l = listed s p.at (2 * p.c) in
      let f = (and-eq-true_iff (leb p.d p.a) (fits (p.a - p.d) p.c l)).0 w.runs in
      let b = ranges.back out p.c q (p.a - p.d) l f.1 (ranges.listed_range s (2 * p.c) p.at) st in
      record {
        found = rw (le-ltb p.a p.d (leb-true p.d p.a f.0), b.0) (ap (holds_at q 0 0) (ap (λ (k : ℕ). q + k) (sym (length_all l))));
        body = b.1;
        its_token = refl;
        inside = wholly (length out) Ranges (moved_in Ranges p q 0) (omega (arith, st.ends, w.measure)) refl;
      }

-- every tail that is written
pub body_back : (s out : List ℕ) (q : ℕ) (tail : Tail) (p : Parts) → Writable s tail p → Stands out q (body_bytes tail p.len (body_of s tail p) (token_of s tail p)) → (at : ℕ) × (token : ℕ) × FoundAgain s out q tail p at token
body_back s out q Nothing p w st = (0, 0, nothing s out q p w st)
body_back s out q Counted p w st = (q + size_of p.len, 0, counted s out q p w st)
body_back s out q Remainder p w st = let z : ◌≡◌ {A = Bool} false true = w.closed in impossible cc
body_back s out q Eight p w st = (q, 0, eight s out q p w st)
body_back s out q Identity p w st = (q + 1, q + 1 + p.len, identity s out q p w st)
body_back s out q Ranges p w st = (q, 0, ranged s out q p w st)
