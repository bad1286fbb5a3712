-- PADDING bytes are passed at once where the packet may carry them: each is a frame that changes nothing, so that the walk after them is the walk from where they begin.
-- Assumes nothing.
use Rattle.std.specs.Prelude.{Ok}
use mathlib.Core.Path.{◌≡◌, refl, sym, ◌∙◌}
use mathlib.Core.Bool.{Bool, true, false, ◌&&◌, and-eq-true_iff}
use mathlib.Core.List.{List}
use Prim.Native.Nat.{ℕ, zero, suc, ◌+◌, ◌≤◌, ◌<◌}
use native.Mathlib.Omega.{arith}
use native.Mathlib.Numerals.{add-one}
use borrow.Author.Tests.{ltb-true, eqb-true, lt-leb}
use lib.Dec.{ltb, eqb}
use lib.ListN.{length, get_or, set}
use lib.Seq.{set-get_or}
use Rattle.answers.specs.Choice.{◌⇒◌∣◌}
use Rattle.answers.specs.declared.Answer.TheVariants.{Accepted}
use Rattle.kinds.specs.declared.Kind.{Kind}
use Rattle.admission.specs.Admission.{admitted}
use Rattle.frames.proofs.Order.{padding}
use Rattle.streams.specs.declared.Conn.{Conn}
use Rattle.entries.specs.declared.Entry.{Entry}
use Rattle.rules.specs.declared.View.TheVariants.{Nothing}
use Rattle.halves.specs.Stream.{place_of}
use Rattle.entries.specs.Entry.{fresh, entry_at}
use Rattle.streams.specs.Conn.{is_open}
use Rattle.verdicts.specs.Verdict.{verdict_of, conn_heard, entry_heard, settled_of, judged_of}
use Rattle.steps.specs.declared.Stopped.{Stopped}
use Rattle.steps.specs.declared.Decided.{Decided}
use Rattle.steps.specs.Step.{request_of, request_at, decided_of}
use Rattle.steps.specs.Past.{past_of, past_zeros, passable, past_padding}
use Rattle.answers.proofs.Choice.{holds, through}
use Rattle.walks.specs.Walk.{stopped, Walked, walk_from}
use Rattle.single.specs.Single.{decided_at}

-- where a walk stopped and the table, as a pair
abbrev pub bare : Walked → Stopped × List Entry
bare w = (w.stop, w.table)

abbrev pub reached : ℕ → Conn → List Entry → List ℕ → ℕ → Kind → Stopped × List Entry
reached k c t s at kind = bare (walk_from k c t s at kind)

module _ (s : List ℕ) (kind : Kind) (c : Conn) (t : List Entry) where
  -- what a PADDING byte asks, and what it leaves
  asks : admitted c.role kind 0 ≡ true → (at : ℕ) → at < length s → get_or s at 0 ≡ 0 → request_at c.role s at kind ≡ record { place = place_of 0; next = at + 1; ty = 0; asks = Ok Nothing }
  unfolding request_at request_of
  asks a at l z = rw (padding c.role s at kind a l z) refl

  leaves : admitted c.role kind 0 ≡ true → (at : ℕ) → at < length s → get_or s at 0 ≡ 0
      → decided_at c t s at kind ≡ record { stepped = record { conn = c; answer = Accepted; next = at + 1 }; entry = entry_at t (place_of 0) }
  unfolding decided_at decided_of judged_of settled_of verdict_of conn_heard entry_heard
  leaves a at l z = rw (asks a at l z) refl

  -- what a walk makes of a frame that leaves x, having looked at a place
  abbrev pub goes : ℕ → ℕ → Decided → ℕ → Stopped × List Entry
  goes k at x place =
      is_open x.stepped.conn.mark ⇒ reached k x.stepped.conn (set t place x.entry) s x.stepped.next kind
      ∣ (stopped x.stepped.conn at x.stepped.answer, set t place x.entry)

  pub stepped_on : (k at : ℕ) → at < length s → reached (suc k) c t s at kind ≡ goes k at (decided_at c t s at kind) (request_at c.role s at kind).place
  unfolding walk_from
  stepped_on k at l = rw (lt-leb (length s) at l) (through bare (is_open (decided_at c t s at kind).stepped.conn.mark) _ _)

  one : admitted c.role kind 0 ≡ true → (k at : ℕ) → at < length s → get_or s at 0 ≡ 0 → is_open c.mark ≡ true → reached (suc k) c t s at kind ≡ reached k c t s (suc at) kind
  one a k at l z h = stepped_on k at l ∙ (λ i. goes k at (leaves a at l z i) (asks a at l z i).place) ∙ rw (h, set-get_or t (place_of 0) (fresh 0), add-one) refl

  -- a walk that is the same from a place further on, with enough steps left
  pub record Further (k at place : ℕ) : Type 0 where
    pub steps : ℕ
    pub no_more : steps ≤ k
    pub ahead : at ≤ place
    pub left : length s ≤ steps + place
    pub same : reached steps c t s place kind ≡ reached k c t s at kind

  here : (k at : ℕ) → length s ≤ k + at → Further k at at
  here k at l = record { steps = k; no_more = omega arith; ahead = omega arith; left = l; same = refl }

  -- one byte, where the others are passed
  abbrev Passes : ℕ → Type 0
  Passes m = (k at : ℕ) → length s ≤ k + at → Further k at (past_of s m at)

  module _ (open-yet : is_open c.mark ≡ true) (carried : admitted c.role kind 0 ≡ true) where
    one_more : (m : ℕ) → Passes m → (k at : ℕ) → length s ≤ k + at → at < length s → get_or s at 0 ≡ 0 → Further k at (past_of s m (suc at))
    one_more m others zero at l u z = absurd (omega (arith, u, l))
    one_more m others (suc n) at l u z =
        let r = others n (suc at) (omega (arith, l)) in
        record { steps = r.steps; no_more = omega (arith, r.no_more); ahead = omega (arith, r.ahead); left = r.left; same = r.same ∙ sym (one carried n at u z open-yet) }

    passes : (m : ℕ) → Passes m
    unfolding past_of
    passes zero k at l = here k at l
    passes (suc m) k at l = go (one_more m (passes m) k at l) (ltb at (length s) && eqb (get_or s at 0) 0) refl
      where
        go : (at < length s → get_or s at 0 ≡ 0 → Further k at (past_of s m (suc at))) → (b : Bool) → (ltb at (length s) && eqb (get_or s at 0) 0) ≡ b → Further k at (b ⇒ past_of s m (suc at) ∣ at)
        go f true e = let p = (and-eq-true_iff (ltb at (length s)) (eqb (get_or s at 0) 0)).0 e in f (ltb-true at (length s) p.0) (eqb-true (get_or s at 0) 0 p.1)
        go f false e = here k at l

  pub past : (k at : ℕ) → length s ≤ k + at → Further k at (past_padding (passable c.mark c.role kind) s at)
  unfolding passable past_padding past_zeros
  past k at l =
      holds (Further k at) (passable c.mark c.role kind) (past_zeros s at) at
      (λ o. let b = (and-eq-true_iff (is_open c.mark) (admitted c.role kind 0)).0 o in passes b.0 b.1 _ k at l) (λ _. here k at l)
