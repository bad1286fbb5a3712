-- Every header that is split off lies inside the rest: each part is read after the one before it, and each is tested against the rest's length.
-- Assumes nothing.
use mathlib.Core.Path.{◌≡◌, subst}
use mathlib.Core.Bool.{Bool, true, false, not, false≢true}
use mathlib.Core.List.{List}
use Prim.Native.Nat.{ℕ, ◌+◌, ◌-◌, ◌%◌, ◌≤◌, ◌<◌}
use native.Mathlib.Omega.{arith}
use borrow.Author.Tests.{ltb-false, eq-eqb, ne_eqb}
use lib.Dec.{ltb, eqb}
use lib.ListN.{length}
use Rattle.answers.specs.declared.Answer.TheVariants.{Done}
use Rattle.answers.proofs.Choice.{holds, below_or_not}
use Rattle.answers.proofs.Distinct.{impossible}
use Rattle.wire.specs.Number.{number_at}
use Rattle.wire.proofs.Sound.{sound}
use Rattle.invariants.specs.Invariant.{part_of, after, bytes_after, invariant_of}
use Rattle.datagram.specs.declared.Kind.{Kind}
use Rattle.datagram.specs.declared.Kind.TheVariants.{Initial, ZeroRtt, Handshake, Retry, OneRtt, VersionNegotiation, OtherVersion}
use Rattle.invariants.specs.declared.Part.{Part}
use Rattle.datagram.specs.declared.Header.{Header}
use Rattle.datagram.specs.Header.{bit, first_of, type_of, header_of, whole_of}
use Rattle.datagram.specs.Inside.{numbered, Inside, Fine}
use Rattle.datagram.specs.Inside.Fine.{packet, none}
use Rattle.datagram.specs.Split.{negotiation_of, retry_of, numbered_of, initial_of, version_one_of, long_of, short_of, next_of}
use Rattle.invariants.proofs.Cases.{Ordered, counted, ordered, with_bytes_law, with_invariant_law}
use Rattle.std.specs.Prelude.{Ok, Err}

never : {A : Type 0} → ◌≡◌ {A = Bool} false true → A
never e = absurd (false≢true e)

module _ (s : List ℕ) (d u : Part) (o : Ordered s d u) where
  whole_fine : (kind : Kind) (version : ℕ) → (numbered kind ≡ true → after u + 20 ≤ length s) → Fine s (Ok (whole_of s kind version d u))
  whole_fine kind version f =
      packet (whole_of s kind version d u)
      (record { first = o.first; ids = o.ids; token = omega arith; number = omega arith; end = o.within; within = omega arith; sample = f })

  negotiation_fine : Fine s (negotiation_of s d u)
  unfolding negotiation_of
  negotiation_fine =
      holds (Fine s) (eqb (length s - after u) 0) _ _ (λ e. none) (λ e.
      holds (Fine s) (not (eqb ((length s - after u) % 4) 0)) _ _ (λ f. none) (λ f. whole_fine VersionNegotiation 0 never))

  retry_fine : Fine s (retry_of s d u)
  unfolding retry_of
  retry_fine = holds (Fine s) (ltb (length s - after u) 16) _ _ (λ e. none) (λ e. whole_fine Retry 1 never)

  numbered_fine : (kind : Kind) (token : Part) → after u ≤ token.at → Fine s (numbered_of s kind d u token)
  unfolding numbered_of
  numbered_fine kind token h =
      with_bytes_law (Fine s) (bytes_after s (number_at s (after token))) _ _ none (λ c e.
      holds (Fine s) (ltb c.len 20) _ _ (λ f. none) (λ f.
      let k = counted s _ e in
      packet (header_of kind 1 d u token c.at (after c)) (record {
        first = o.first;
        ids = o.ids;
        token = h;
        number = omega (arith, (sound s (after token) k.count).above);
        end = omega arith;
        within = k.within;
        sample = λ g. omega (arith, ltb-false c.len 20 f);
      })))

  initial_fine : Fine s (initial_of s d u)
  unfolding initial_of
  initial_fine =
      with_bytes_law (Fine s) (bytes_after s (number_at s (after u))) _ _ none (λ t e.
      numbered_fine Initial t (omega (arith, (sound s (after u) (counted s _ e).count).above)))

  version_one_fine : Fine s (version_one_of s d u)
  unfolding version_one_of
  version_one_fine =
      holds (Fine s) (not (bit 6 (first_of s))) _ _ (λ e. none) (λ e.
      holds (Fine s) (ltb 20 d.len) _ _ (λ f. none) (λ f.
      holds (Fine s) (ltb 20 u.len) _ _ (λ g. none) (λ g.
      holds (Fine s) (eqb (type_of s) 0) _ _ (λ h. initial_fine) (λ h.
      holds (Fine s) (eqb (type_of s) 3) _ _ (λ i. retry_fine) (λ i.
      holds (Fine s) (eqb (type_of s) 1) _ _ (λ j. numbered_fine ZeroRtt (part_of (after u) 0) (omega arith)) (λ j.
      numbered_fine Handshake (part_of (after u) 0) (omega arith)))))))

module _ (s : List ℕ) where
  long_fine : Fine s (long_of s)
  unfolding long_of
  long_fine =
      with_invariant_law (Fine s) (invariant_of s) _ _ none (λ v d u e.
      holds (Fine s) (eqb v 0) _ _ (λ f. negotiation_fine s d u (ordered s e)) (λ f.
      holds (Fine s) (eqb v 1) _ _ (λ g. version_one_fine s d u (ordered s e)) (λ g. whole_fine s d u (ordered s e) OtherVersion v never)))

  short_fine : Fine s (short_of s)
  unfolding short_of
  short_fine =
      holds (Fine s) (not (bit 6 (first_of s))) _ _ (λ e. none) (λ e. holds (Fine s) (ltb (length s) 29) _ _ (λ f. none) (λ f.
      let n = ltb-false (length s) 29 f in
      whole_fine s (part_of 1 8) (part_of 9 0) (record { first = omega arith; ids = omega arith; within = omega arith }) OneRtt 1 (λ g. omega arith)))

  -- of a rest that is not empty the answer is a packet inside it, or 110
  pub fine : 0 < length s → Fine s (next_of s)
  unfolding next_of
  fine h = rw (ne_eqb (length s) 0 (omega arith)) (holds (Fine s) (bit 7 (first_of s)) _ _ (λ e. long_fine) (λ e. short_fine))

  -- of an empty rest the answer is "done", and of no other
  pub done : length s ≡ 0 → next_of s ≡ Err Done
  unfolding next_of
  done h = rw (eq-eqb (length s) 0 h)

  -- the law for callers: a packet lies inside the rest
  pub inside : {h : Header} → next_of s ≡ Ok h → Inside s h
  inside {h} e =
      below_or_not 0 (length s) (λ k. opened (subst (Fine s) e (fine k)))
      (λ k. let d = done (omega arith) in impossible cc)
    where
      opened : {h : Header} → Fine s (Ok h) → Inside s h
      opened (packet h i) = i

  -- and splitting ends, as every packet has bytes
  pub shorter : {h : Header} → next_of s ≡ Ok h → 0 < h.end
  shorter e = let i = inside e in omega arith
