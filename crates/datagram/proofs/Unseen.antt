-- The protected bits of the first byte are not looked at: all other bytes are read from places above 0, and of the first only the top bits are tested.
-- Assumes nothing.
use mathlib.Core.Path.{◌≡◌, refl}
use mathlib.Core.Bool.{Bool, true, false}
use mathlib.Core.List.{List, ◌∷◌}
use Prim.Native.Nat.{ℕ, zero, suc, ◌+◌, ◌/◌, ◌%◌, ◌^◌, ◌<◌}
use native.Mathlib.Omega.{arith}
use borrow.Author.Tests.{eqb-true}
use lib.Dec.{eqb}
use lib.ListN.{length, get_or}
use Rattle.answers.specs.Choice.{◌⇒◌∣◌}
use Rattle.wire.specs.Number.{big_endian, field_at, plain_at, number_at, with_number}
use Rattle.wire.proofs.Sound.{found, sound}
use Rattle.invariants.specs.declared.Part.{Part}
use Rattle.invariants.specs.declared.Invariant.{Invariant}
use Rattle.invariants.specs.Invariant.{part_of, after, bytes_after, with_bytes, invariant_of, with_invariant}
use Rattle.datagram.specs.declared.Kind.{Kind}
use Rattle.datagram.specs.declared.Kind.TheVariants.{Initial, ZeroRtt, Handshake}
use Rattle.datagram.specs.Header.{bit, first_of}
use Rattle.datagram.specs.Split.{negotiation_of, retry_of, numbered_of, initial_of, version_one_of, long_of, short_of, next_of}
use Rattle.datagram.specs.Unseen.{Alike}
use Rattle.invariants.proofs.Cases.{counted, ordered, byte_first}
use Rattle.std.specs.Prelude.{Option, Some, None}

-- a test has the same two sides where each side is the same under it
choose {ℓ} : {A : Type ℓ} (b : Bool) {x x' y y' : A} → (b ≡ true → x ≡ x') → (b ≡ false → y ≡ y') → (b ⇒ x ∣ y) ≡ (b ⇒ x' ∣ y')
choose true p q = p refl
choose false p q = q refl

go_number : {X : Type 0} (n : Option (ℕ × ℕ)) (x : X) {k l : ℕ → ℕ → X} → ((v m : ℕ) → n ≡ Some (v, m) → k v m ≡ l v m) → with_number n x k ≡ with_number n x l
go_number (Some (v, m)) x f = f v m refl
go_number None x f = refl

go_bytes : {X : Type 0} (b : Option Part) (x : X) {k l : Part → X} → ((p : Part) → b ≡ Some p → k p ≡ l p) → with_bytes b x k ≡ with_bytes b x l
go_bytes (Some p) x f = f p refl
go_bytes None x f = refl

go_invariant : {X : Type 0} (i : Option Invariant) (x : X) {k l : ℕ → Part → Part → X} → ((v : ℕ) (d u : Part) → i ≡ Some (record { version = v; destination = d; source = u }) → k v d u ≡ l v d u) → with_invariant i x k ≡ with_invariant i x l
go_invariant (Some i) x f = f i.version i.destination i.source refl
go_invariant None x f = refl

-- two rests of one length that are the same above place 0
module _ (s t : List ℕ) (len : length s ≡ length t) (same : (i : ℕ) → 0 < i → get_or s i 0 ≡ get_or t i 0) where
  big : (at k : ℕ) → 0 < at → big_endian s at k ≡ big_endian t at k
  unfolding big_endian
  big at zero h = refl
  big at (suc k) h = rw (big at k h, same (at + k) (omega arith))

  field : (at k x : ℕ) → field_at s at k x ≡ field_at t at k x
  unfolding field_at
  field at k x = rw len

  plain : (at k : ℕ) → 0 < at → plain_at s at k ≡ plain_at t at k
  plain at k h = rw (big at k h) (field at k (big_endian t at k))

  number : (at : ℕ) → 0 < at → number_at s at ≡ number_at t at
  unfolding number_at
  number at h = rw (same at h, big at (2 ^ (get_or t at 0 / 64 % 4)) h) (field at _ _)

  bytes : (n : Option (ℕ × ℕ)) → bytes_after s n ≡ bytes_after t n
  unfolding bytes_after
  bytes n = rw len

  invariant : invariant_of s ≡ invariant_of t
  unfolding invariant_of
  invariant =
      rw (plain 1 4 (omega arith)) (go_number (plain_at t 1 4) _ (λ v at e.
      rw (plain at 1 (omega (arith, (found t 1 4 _ e).ends)), bytes) (go_bytes (bytes_after t (plain_at t at 1)) _ (λ d f.
      let h : 0 < after d = omega (arith, byte_first t at f) in
      rw (plain (after d) 1 h, bytes)))))

  negotiation : (d u : Part) → negotiation_of s d u ≡ negotiation_of t d u
  unfolding negotiation_of
  negotiation d u = rw len

  retry : (d u : Part) → retry_of s d u ≡ retry_of t d u
  unfolding retry_of
  retry d u = rw len

  numbered : (kind : Kind) (d u token : Part) → 0 < after token → numbered_of s kind d u token ≡ numbered_of t kind d u token
  unfolding numbered_of
  numbered kind d u token h = rw (number (after token) h, bytes)

  initial : (d u : Part) → 0 < after u → initial_of s d u ≡ initial_of t d u
  unfolding initial_of
  initial d u h =
      rw (number (after u) h, bytes) (go_bytes (bytes_after t (number_at t (after u))) _ (λ token e.
      numbered Initial d u token (omega (arith, (sound t (after u) (counted t _ e).count).above))))

  module _ (a : Alike (first_of s) (first_of t)) where
    version_one : first_of s / 16 ≡ first_of t / 16 → (d u : Part) → 0 < after u → version_one_of s d u ≡ version_one_of t d u
    unfolding version_one_of
    version_one e d u h =
        let n : 0 < after (part_of (after u) 0) = omega arith in
        rw (a.top, e, initial d u h, retry d u, numbered ZeroRtt d u (part_of (after u) 0) n, numbered Handshake d u (part_of (after u) 0) n)

    long : first_of s / 16 ≡ first_of t / 16 → long_of s ≡ long_of t
    unfolding long_of
    long e =
        rw invariant (go_invariant (invariant_of t) _ (λ v d u f.
        let o = ordered t f in
        rw (negotiation d u, version_one e d u (omega arith), len)))

    short : short_of s ≡ short_of t
    unfolding short_of
    short = rw (a.top, len)

    next : next_of s ≡ next_of t
    unfolding next_of
    next =
        let e : first_of s / 128 ≡ first_of t / 128 = omega (arith, a.top) in
        rw (len, e) (choose (eqb (length t) 0) (λ f. refl) (λ f.
        choose (bit 7 (first_of t)) (λ g. long (a.type (omega (arith, e, eqb-true (first_of t / 128 % 2) 1 g)))) (λ g. short)))

-- two datagrams that differ only in protected bits of their first byte are split alike
pub unseen : (x y : ℕ) (s : List ℕ) → Alike x y → next_of (x ∷ s) ≡ next_of (y ∷ s)
unseen x y s a = next (x ∷ s) (y ∷ s) refl above a
  where
    above : (i : ℕ) → 0 < i → get_or (x ∷ s) i 0 ≡ get_or (y ∷ s) i 0
    above zero h = absurd (omega arith)
    above (suc i) h = refl
