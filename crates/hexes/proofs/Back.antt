-- What is written reads back: the digits of bytes as those bytes.
-- Assumes nothing.
use mathlib.Core.Path.{◌≡◌, refl, ap}
use mathlib.Core.Bool.{true, and-eq-true_iff}
use mathlib.Core.List.{List, [], ◌∷◌}
use Prim.Native.Nat.{ℕ, ◌+◌, ◌/◌, ◌%◌, ◌≤◌, ◌<◌}
use native.Mathlib.Omega.{arith}
use borrow.Author.Tests.{eq-eqb, le-ltb, ltb-true}
use lib.Dec.{eqb, ltb}
use lib.ListN.{length}
use lib.Seq.{sets}
use Rattle.answers.proofs.Choice.{below_or_not}
use Rattle.text.specs.Text.{every}
use Rattle.hexes.specs.Hex.{digit_of, hex_of, is_pairs, bytes_in, pairs_of}
use Rattle.dumps.specs.Digits.{half_of, is_half}
use Rattle.hexes.proofs.Halves.{digit_figure, digit_letter, length_hex}
use Rattle.dumps.proofs.Digits.{half_figure, half_lower, is_half_law}
use Rattle.std.specs.Prelude.{Some, Ok}

-- half a byte reads back
pub half_back : (h : ℕ) → h < 16 → half_of (digit_of h) ≡ Some h
half_back h l = below_or_not h 10
    (λ p. rw (digit_figure h p, half_figure (48 + h) (omega arith) (omega arith)) (ap Some (omega arith)))
    (λ p. rw (digit_letter h p, half_lower (87 + h) (omega arith) (omega arith)) (ap Some (omega arith)))

-- bytes are below 256
abbrev pub Bytes : List ℕ → Type 0
Bytes l = every (λ (b : ℕ). ltb b 256) l ≡ true

halves : (l : List ℕ) → Bytes l → (every is_half (hex_of l) ≡ true) × (bytes_in (hex_of l) ≡ l)
unfolding every hex_of bytes_in
halves [] e = (refl, refl)
halves (b ∷ l) e =
    let t = (and-eq-true_iff (ltb b 256) (every (λ (x : ℕ). ltb x 256) l)).0 e in
    let i = halves l t.1 in
    let s = ltb-true b 256 t.0 in
    let u = half_back (b / 16) (omega arith) in
    let v = half_back (b % 16) (omega arith) in
    (rw (is_half_law (digit_of (b / 16)) u, is_half_law (digit_of (b % 16)) v) i.0, rw (u, v, i.1) (ap (λ (x : ℕ). x ∷ l) (omega arith)))

-- the law: bytes read back, from their digits, into an output that holds them
pub hex_back : (l out : List ℕ) → Bytes l → length l ≤ length out → pairs_of (hex_of l) out ≡ (Ok (length l), sets out 0 l)
unfolding pairs_of is_pairs
hex_back l out b h =
    let p = halves l b in
    let n = length_hex l in
    let c : length (hex_of l) / 2 ≡ length l = omega arith in
    let e : eqb (length (hex_of l) % 2) 0 ≡ true = eq-eqb (length (hex_of l) % 2) 0 (omega arith) in
    rw (e, p.0, c, p.1, le-ltb (length out) (length l) h)
