-- `headers::truncated` meets its contract: the test is that of the definition; after i bytes the value is theirs, and below 256^i, so that four bytes fit.
use Prim.Native.Nat.{ℕ, zero, suc, ◌+◌, ◌*◌, ◌^◌, ◌≤◌, ◌<◌}
use mathlib.Core.Path.{◌≡◌, refl, sym, ◌∙◌, ap}
use mathlib.Core.List.{List}
use native.Mathlib.Nat.{zero-add, pow-suc}
use native.Mathlib.Numerals.{add-one}
use native.Mathlib.Omega.{arith}
use lib.ListN.{length, get_or}
use lib.Seq.{length-take-le}
use Rattle.std.proofs.lemmas.List.{get_or-take}
use Rattle.numbers.specs.Numbers.{bytes_in}
use Rattle.numbers.specs.declared.Size.{Size}
use Rattle.numbers.specs.declared.Size.TheVariants.{One, Two, Three, Four}
use Rattle.wire.specs.Number.{big_endian, plain_at}
use Rattle.wire.proofs.Forms.{there, cut}
use Rattle.headers.proofs.truncated.Goals as goal
use Rattle.std.specs.Prelude.{Some}

-- a number has four bytes at most
few : (size : Size) → bytes_in size ≤ 4
few One = omega arith
few Two = omega arith
few Three = omega arith
few Four = omega arith

-- what three bytes or fewer hold
small : (i v : ℕ) → v < 256 ^ i → i < 4 → v < 256 ^ 3
small zero v h l = omega arith
small (suc zero) v h l = omega arith
small (suc (suc zero)) v h l = omega arith
small (suc (suc (suc zero))) v h l = h
small (suc (suc (suc (suc n)))) v h l = absurd (omega arith)

-- one byte more
more : (s : List ℕ) (i v x : ℕ) → v ≡ big_endian s 0 i → x ≡ get_or s i 0 → v * 256 + x ≡ big_endian s 0 (i + 1)
unfolding big_endian
more s i v x e f = rw (add-one, e, f) (ap (λ (k : ℕ). big_endian s 0 i * 256 + get_or s k 0) (sym (zero-add i)))

larger : (i v x : ℕ) → v < 256 ^ i → x < 256 → v * 256 + x < 256 ^ (i + 1)
larger i v x h l = rw (add-one, pow-suc) (omega arith)

-- the value of n bytes that are there is their field
whole : (s : List ℕ) (n v : ℕ) → v ≡ big_endian s 0 n → n ≤ length s → Some (v, n) ≡ plain_at s 0 n
whole s n v e h = rw (there s 0 n (big_endian s 0 n) (omega arith), zero-add, e)

pub returns-then-s-n : goal.returns-then-s-n
returns-then-s-n c = rw (← c.bytes-n.ensures) (sym (cut _ 0 c.bytes-n.result _ (omega arith)))

pub loop-b-init : goal.loop-b-init
unfolding big_endian
loop-b-init c = (refl, omega arith)

pub overflow_mul-value : goal.overflow_mul-value
overflow_mul-value c =
    let l = c.loop-b in
    let e = length-take-le c.bytes-n.result c.args.s.now (omega arith) in
    omega (arith, small l.b-index l.value l.invariant.1 (omega (arith, few c.args.size)))

pub overflow_add-value : goal.overflow_add-value
overflow_add-value c =
    let l = c.loop-b in
    let e = length-take-le c.bytes-n.result c.args.s.now (omega arith) in
    omega (arith, small l.b-index l.value l.invariant.1 (omega (arith, few c.args.size)))

pub loop-b-preserved : goal.loop-b-preserved
loop-b-preserved c =
    let l = c.loop-b in
    let e = length-take-le c.bytes-n.result c.args.s.now (omega arith) in
    let i : l.b-index < c.bytes-n.result = omega arith in
    (more _ l.b-index l.value c.from.result l.invariant.0 (c.from.ensures ∙ get_or-take _ c.args.s.now _ 0 i), larger l.b-index l.value c.from.result l.invariant.1 (omega arith))

pub returns : goal.returns
returns c =
    let l = c.loop-b in
    let n = c.bytes-n in
    let e = length-take-le n.result c.args.s.now (omega arith) in
    let all : l.b-index ≡ n.result = omega arith in
    rw (← n.ensures) (whole _ n.result l.value (l.invariant.0 ∙ ap (big_endian _ 0) all) (omega arith))
