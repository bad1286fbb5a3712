-- One turn of the walk over frames, from what is left at a place to what is left after the frame there: PADDING is passed, the bytes end, the frame stops the walk, or the walk goes on behind it.
-- Assumes nothing.
use mathlib.Core.Path.{◌≡◌, refl, sym, ap, ◌∙◌}
use mathlib.Core.Bool.{true, false}
use mathlib.Core.List.{List}
use Prim.Native.Nat.{ℕ, zero, suc, ◌+◌, ◌-◌, ◌≤◌, ◌<◌}
use native.Mathlib.Omega.{arith}
use borrow.Author.Tests.{le-leb}
use lib.ListN.{length}
use Rattle.kinds.specs.declared.Kind.{Kind}
use Rattle.answers.specs.declared.Answer.TheVariants.{Accepted}
use Rattle.streams.specs.declared.Conn.{Conn}
use Rattle.entries.specs.declared.Entry.{Entry}
use Rattle.steps.specs.declared.Stepped.{Stepped}
use Rattle.steps.specs.declared.Stopped.{Stopped}
use Rattle.steps.specs.Past.{passable, past_padding}
use Rattle.single.specs.Single.{stepped_at, step_table}
use Rattle.walks.specs.Walk.{walk_from, stopped}
use Rattle.walks.proofs.Steps.{steps_on}
use Rattle.walks.proofs.Padding.{reached, Further, past, stepped_on}
use Rattle.streams.specs.Conn.{is_open}

one_less : (n : ℕ) → 0 < n → (j : ℕ) × (n ≡ suc j)
one_less zero h = absurd (omega arith)
one_less (suc j) h = (j, refl)

module _ (s : List ℕ) (kind : Kind) (c : Conn) (t : List Entry) (k at : ℕ) {p : ℕ} (l : length s ≤ k + at) (e : p ≡ past_padding (passable c.mark c.role kind) s at)
    {whole : Stopped × List Entry} (h : reached k c t s at kind ≡ whole) where
  further : Further s kind c t k at p
  further = rw e (past s kind c t k at l)

  -- the bytes end
  pub ended : length s ≤ p → ◌≡◌ {A = Stopped × List Entry} (stopped c p Accepted, t) whole
  unfolding walk_from
  ended g = go further.steps ∙ further.same ∙ h
    where
      go : (n : ℕ) → ◌≡◌ {A = Stopped × List Entry} (stopped c p Accepted, t) (reached n c t s p kind)
      go zero = refl
      go (suc n) = rw (le-leb (length s) p g) refl

  module _ (g : p < length s) where
    left : (j : ℕ) × (further.steps ≡ suc j)
    left = one_less further.steps (omega (arith, further.left))

    from_one : reached (suc left.0) c t s p kind ≡ whole
    from_one = ap (λ (x : ℕ). reached x c t s p kind) (sym left.1) ∙ further.same ∙ h

    -- the frame there stops the walk
    pub stops : {r : Stepped} {u : List Entry} → r ≡ stepped_at c t s p kind → u ≡ step_table c t s p kind → is_open r.conn.mark ≡ false → ◌≡◌ {A = Stopped × List Entry} (stopped r.conn p r.answer, u) whole
    stops m n b =
        let f : is_open (stepped_at c t s p kind).conn.mark ≡ false = rw m at b in
        rw (m, n) (sym (rw f at (stepped_on s kind c t left.0 p g)) ∙ from_one)

    -- the walk goes on behind it
    pub goes_on : {r : Stepped} {u : List Entry} → r ≡ stepped_at c t s p kind → u ≡ step_table c t s p kind → is_open r.conn.mark ≡ true → (x : ℕ) × (length s ≤ x + r.next) × (reached x r.conn u s r.next kind ≡ whole)
    goes_on m n b =
        let f : is_open (stepped_at c t s p kind).conn.mark ≡ true = rw m at b in
        let a = steps_on c t s p kind f in
        let d : length s ≤ left.0 + (stepped_at c t s p kind).next = omega (arith, a, further.left, left.1) in
        (left.0, rw m d, rw (m, n) (sym (rw f at (stepped_on s kind c t left.0 p g)) ∙ from_one))

    pub nearer : {r : Stepped} → r ≡ stepped_at c t s p kind → is_open r.conn.mark ≡ true → length s - r.next < length s - at
    nearer m b =
        let f : is_open (stepped_at c t s p kind).conn.mark ≡ true = rw m at b in
        let a = steps_on c t s p kind f in
        let d : length s - (stepped_at c t s p kind).next < length s - at = omega (arith, a, further.ahead) in
        rw m d
