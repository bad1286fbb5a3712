-- Bytes that are written with gaps before them and after the last read back: each gap is passed, and each two digits are their byte.
-- Assumes nothing.
use mathlib.Core.Path.{◌≡◌, ◌∙◌, ap}
use mathlib.Core.Bool.{and-eq-true_iff}
use mathlib.Core.List.{List, [], ◌∷◌, ◌++◌, map, append-nil}
use Prim.Native.Nat.{ℕ, ◌+◌, ◌*◌, ◌/◌, ◌%◌, ◌≤◌, ◌<◌}
use native.Mathlib.Nat.{zero-add, add-zero}
use native.Mathlib.Omega.{arith}
use borrow.Author.Tests.{le-ltb}
use lib.ListN.{length, length-append, length-map}
use lib.Seq.{sets}
use Rattle.text.specs.Text.{every}
use Rattle.hexes.specs.Hex.{digit_of, hex_of}
use Rattle.hexes.proofs.Halves.{length_hex}
use Rattle.hexes.proofs.Back.{half_back}
use Rattle.dumps.specs.Dump.{is_gap, next_of, Reading, behind, stepped, read_of, begun_of, taken_of}
use Rattle.hexes.specs.Spaced.{Spaced, spaced_of, OnlyGaps, AreSpaced}
use Rattle.dumps.specs.declared.Step.TheVariants.{Between, Begun, Byte}
use Rattle.std.specs.Prelude.{Some, None, Ok}
use Rattle.dumps.proofs.Characters.{ends, begins, between, begun_low, begun_none, gap_no_digit}

-- bytes that are all that a text is read as
abbrev pub whole : List ℕ → List ℕ → Reading
whole s bytes = record { half = None; used = length s; bytes = bytes }

-- a gap before a text
past_gap : (gap t : List ℕ) → OnlyGaps gap → read_of None (gap ++ t) ≡ behind (length gap) [] (read_of None t)
unfolding every read_of stepped
past_gap [] t g = rw zero-add
past_gap (c ∷ gap) t g =
    let p = (and-eq-true_iff (is_gap c) (every is_gap gap)).0 g in
    let e : next_of None c ≡ Some Between = between None c begun_none (gap_no_digit c p.0) p.0 in
    rw (e, past_gap gap t p.1) (ap (λ (n : ℕ). record { half = (read_of None t).half; used = n; bytes = (read_of None t).bytes }) (omega arith))

-- a byte before a text
past_byte : (b : ℕ) (t : List ℕ) → b < 256 → read_of None (hex_of (b ∷ []) ++ t) ≡ behind 2 (b ∷ []) (read_of None t)
unfolding hex_of read_of stepped
past_byte b t h =
    let u = half_back (b / 16) (omega arith) in
    let v = half_back (b % 16) (omega arith) in
    let x : b / 16 * 16 + b % 16 ≡ b = omega arith in
    let e : next_of None (digit_of (b / 16)) ≡ Some (Begun (b / 16)) = begins None (digit_of (b / 16)) begun_none u in
    let f : next_of (Some (b / 16)) (digit_of (b % 16)) ≡ Some (Byte b) = ends (Some (b / 16)) (digit_of (b % 16)) (begun_low (omega arith)) v ∙ rw x in
    rw (e, f) (ap (λ (n : ℕ). record { half = (read_of None t).half; used = n; bytes = b ∷ (read_of None t).bytes }) (omega arith))

-- the law
pub read_back : (l : List Spaced) (last : List ℕ) → AreSpaced l → OnlyGaps last → read_of None (spaced_of l last) ≡ whole (spaced_of l last) (map (λ (x : Spaced). x.byte) l)
unfolding spaced_of read_of
read_back [] last a g = rw (append-nil, add-zero) at (past_gap last [] g)
read_back (x ∷ l) last a g =
    let t = spaced_of l last in
    let n : length (x.gap ++ (hex_of (x.byte ∷ []) ++ t)) ≡ length x.gap + (2 + length t) = omega (arith, length-append x.gap (hex_of (x.byte ∷ []) ++ t), length-append (hex_of (x.byte ∷ [])) t, length_hex (x.byte ∷ [])) in
    rw (past_gap x.gap (hex_of (x.byte ∷ []) ++ t) a.0, past_byte x.byte t a.1, read_back l last a.2 g, n)

-- the same of a call whose output holds the text
pub take_back : (l : List Spaced) (last out : List ℕ) → AreSpaced l → OnlyGaps last → length (spaced_of l last) ≤ length out
    → taken_of None (spaced_of l last) out ≡ (Ok (record { half = None; len = length l }), sets out 0 (map (λ (x : Spaced). x.byte) l))
unfolding taken_of begun_of
take_back l last out a g h =
    let n = length (spaced_of l last) in
    rw (read_back l last a g, le-ltb (length out) n h, le-ltb n n (omega arith), length-map l (λ (x : Spaced). x.byte))
