-- Demand 3 of histories: the total is the sum of what was named, and where there is credit for all the verdict is that of rules 1 to 4.
-- Rule 5 cannot refuse then: the total is the sum of the ends, each end is within its credit, and the credits sum to no more than the connection credit.
-- Assumes nothing.
use Prim.Native.Nat.{ℕ, ◌+◌, ◌-◌, ◌/◌, ◌%◌, ◌≤◌, ◌<◌, max}
use mathlib.Core.Path.{◌≡◌, refl, sym, ◌∙◌, ap, subst}
use mathlib.Core.Bool.{Bool, true, false, ◌&&◌, and-eq-true_iff}
use mathlib.Core.List.{List, []}
use native.Mathlib.Omega.{arith}
use native.Mathlib.Decide.{ℕ_discrete, dec_le}
use lib.Dec.{ltb, eqb}
use lib.ListN.{length}
use borrow.Author.Tests.{lt-ltb, le-ltb, eq-eqb, ne_eqb, ltb-true}
use Rattle.kinds.specs.declared.Role.{Role}
use Rattle.answers.specs.Choice.{◌⇒◌∣◌}
use Rattle.answers.specs.declared.Answer.{Answer}
use Rattle.answers.specs.declared.Answer.TheVariants.{Accepted, FlowControl, StreamLimit, StreamState, FinalSize}
use Rattle.streams.specs.declared.Conn.{Conn}
use Rattle.entries.specs.declared.Entry.{Entry}
use Rattle.streams.specs.declared.Limits.{Limits}
use Rattle.streams.specs.declared.Mark.TheVariants.{Open}
use Rattle.halves.specs.Stream.{stream_of, half_of, ordinal_of, receives, listed, place_of}
use Rattle.entries.specs.Entry.{final_of, entry_at, entry_of}
use Rattle.streams.specs.Conn.{is_open, opened_of, count_of}
use Rattle.rules.specs.declared.View.TheVariants.{Ends}
use Rattle.rules.specs.Rules.{rule1, rule2, rule3, rule4, rule5, ends_of}
use Rattle.verdicts.specs.Verdict.{verdict_of}
use Rattle.limits.specs.Fits.{sum_to, fits}
use Rattle.accounts.specs.History.{Event, ruled_of, State, answer_of, state_of, AllAccepted, own, furthest_of, final_named, furthest, ruling}
use Rattle.accounts.specs.History.Event.{Got}
use Rattle.accounts.specs.Advertised.{credit_by, stream_credit_by, count_by, may_send_by, granted_by}
use Rattle.accounts.proofs.Tests.{not_both, Has, has_listed, listed_has, place_is}
use Rattle.accounts.proofs.Sums.{sum_same, sum_le, sum_at, sum_more, sum_streams}
use Rattle.accounts.proofs.Fits.{Fits, fits_test}
use Rattle.accounts.proofs.Steps.{may}
use Rattle.accounts.proofs.Owned.{owned, unowned, always}
use Rattle.accounts.proofs.Advertised.{Said, said, credit_said, credit_none}

-- ---- the accounts of a history

-- a stream's end, by the table
end_at : List Entry → ℕ → ℕ
end_at t id = eqb (id % 4) 3 ⇒ 0 ∣ (entry_of t id).end

total_ends : (c : Conn) (t : List Entry) → Fits c t → c.total ≡ sum_to 256 (end_at t)
unfolding end_at
total_ends c t f = f.sum ∙ sum_streams (λ i. (entry_at t i).end)

end_furthest : (role : Role) (o : Limits) (h : List Event) (id : ℕ) → AllAccepted role o h → id < 256 → end_at (state_of role o h).table id ≡ furthest h id
unfolding end_at furthest_of
end_furthest role o h id a l = go (ℕ_discrete (id % 4) 3)
  where
    go : Dec (id % 4 ≡ 3) → (eqb (id % 4) 3 ⇒ 0 ∣ (entry_of (state_of role o h).table id).end) ≡ furthest h id
    go (yes p) = rw (eq-eqb _ _ p, unowned role o h id a (λ x. omega arith))
    go (no p) = rw (ne_eqb _ _ p) (owned role o h id a (omega arith, omega arith)).end_is

pub furthest_beyond : (role : Role) (o : Limits) (h : List Event) (id : ℕ) → AllAccepted role o h → 256 ≤ id → furthest h id ≡ 0
unfolding furthest_of
furthest_beyond role o h id a l = rw (unowned role o h id a (λ x. omega arith))

-- The counted total is the sum, over all streams, of the furthest end or final size that an accepted frame named.
-- The streams with an ID below 256 are all that there are; so is each larger bound.
pub total_is_sum : (role : Role) (o : Limits) (h : List Event) → AllAccepted role o h → (n : ℕ) → 256 ≤ n → (state_of role o h).conn.total ≡ sum_to n (furthest h)
total_is_sum role o h a n l =
    total_ends (state_of role o h).conn (state_of role o h).table (always role o h a)
    ∙ sum_same 256 (end_at (state_of role o h).table) (furthest h) (λ id m. end_furthest role o h id a m)
    ∙ sym (sum_more 256 (furthest h) (λ id m. furthest_beyond role o h id a m) n l)

-- ---- room for all

-- a stream's credit, by the table; the streams on which the peer may send, by the connection; and the sum of their credits
credit_of : State → ℕ → ℕ
credit_of s id = listed id ⇒ (entry_of s.table id).credit ∣ 0

may_send : Conn → ℕ → Bool
may_send c id = receives (half_of id) && ltb (ordinal_of id) (count_of c (half_of id))

granted : State → ℕ
granted s = sum_to 256 (λ id. may_send s.conn id ⇒ credit_of s id ∣ 0)

may_send_law : (c : Conn) (id : ℕ) → id % 4 < 3 → id / 4 < count_of c (id % 4) → may_send c id ≡ true
unfolding may_send
may_send_law c id a b = simp (lt-ltb (id % 4) 3 a, lt-ltb _ _ b)

credit_is : (s : State) (id : ℕ) → Has id → credit_of s id ≡ (entry_of s.table id).credit
unfolding credit_of
credit_is s id b = simp (has_listed id b)

module _ (s : State) (f : Fits s.conn s.table) where
  share : ℕ → ℕ
  share id = may_send s.conn id ⇒ credit_of s id ∣ 0

  share_of : (id : ℕ) → id % 4 < 3 → id / 4 < count_of s.conn (id % 4) → share id ≡ (entry_of s.table id).credit
  unfolding share
  share_of id a b = rw (may_send_law s.conn id a b) (credit_is s id (a, omega (arith, f.conn.count_top (id % 4))))

  end_share : (id : ℕ) → id < 256 → end_at s.table id ≤ share id
  unfolding end_at
  end_share id l = go (ℕ_discrete (id % 4) 3) (dec_le (count_of s.conn (id % 4)) (id / 4))
    where
      go : Dec (id % 4 ≡ 3) → Dec (count_of s.conn (id % 4) ≤ id / 4) → (eqb (id % 4) 3 ⇒ 0 ∣ (entry_of s.table id).end) ≤ share id
      go (yes p) d = rw (eq-eqb _ _ p) (omega arith)
      go (no p) (no q) =
          let i = place_is id (omega arith, omega arith) in
          rw (ne_eqb _ _ p, share_of id (omega arith) (omega arith)) (f.each (place_of id) (omega arith)).within
      go (no p) (yes q) =
          let i = place_is id (omega arith, omega arith) in
          let e : place_of id / 64 ≡ id % 4 = omega arith in
          let u = (f.each (place_of id) (omega arith)).unopened (omega (arith, ap (opened_of s.conn) e, f.conn.opened_in_law (id % 4))) in
          rw (ne_eqb _ _ p, u) (omega arith)

  -- a stream that keeps to its own limits is never refused for its neighbours
  room : (id end : ℕ) → id % 4 < 3 → id / 4 < count_of s.conn (id % 4) → end ≤ (entry_of s.table id).credit → granted s ≤ s.conn.limits.credit
      → s.conn.total + (end - (entry_of s.table id).end) ≤ s.conn.limits.credit
  unfolding granted share end_at
  room id end a b l enough =
      let top = f.conn.count_top (id % 4) in
      let e0 : end_at s.table id ≡ (entry_of s.table id).end = simp (ne_eqb (id % 4) 3 (omega arith)) in
      let s0 : share id ≡ (entry_of s.table id).credit = share_of id a b in
      let g0 : grown id ≡ max (entry_of s.table id).end end = simp (eq-eqb id id refl) in
      let p : sum_to 256 grown + end_at s.table id ≡ sum_to 256 (end_at s.table) + grown id = sum_at 256 id grown (end_at s.table) (omega arith) (λ i m x. other i x) in
      let q : sum_to 256 grown ≤ sum_to 256 share = sum_le 256 grown share (λ i m. below i m (ℕ_discrete i id)) in
      omega (arith, total_ends s.conn s.table f)
    where
      grown : ℕ → ℕ
      grown i = eqb i id ⇒ max (entry_of s.table id).end end ∣ end_at s.table i

      other : (i : ℕ) → (i ≡ id → ⊥) → grown i ≡ end_at s.table i
      other i x = simp (ne_eqb i id x)

      below : (i : ℕ) → i < 256 → Dec (i ≡ id) → grown i ≤ share i
      below i m (yes x) =
          let h : Has id = (a, omega (arith, f.conn.count_top (id % 4))) in
          let w = (f.each (place_of id) (omega (arith, place_is id h))).within in
          subst (λ (y : ℕ). grown y ≤ share y) (sym x) (rw (eq-eqb id id refl) (omega (arith, share_of id a b)))
      below i m (no x) = omega (arith, other i x, end_share i m)

-- ---- the verdict

-- where rule 5 cannot refuse what rule 4 lets pass, rule 4 decides
last_rules : (limit total credit x end : ℕ) → (end ≤ credit → total + (end - x) ≤ limit)
    → (rule4 credit end ⇒ FlowControl ∣ rule5 limit total x end ⇒ FlowControl ∣ Accepted) ≡ (rule4 credit end ⇒ FlowControl ∣ Accepted)
unfolding rule4 rule5
last_rules limit total credit x end f = go (dec_le end credit)
  where
    go : Dec (end ≤ credit) → (ltb credit end ⇒ FlowControl ∣ ltb limit (total + (end - x)) ⇒ FlowControl ∣ Accepted) ≡ (ltb credit end ⇒ FlowControl ∣ Accepted)
    go (yes p) = simp (le-ltb _ _ p, le-ltb _ _ (f p))
    go (no p) = simp (lt-ltb credit end (omega arith))

-- ---- by the history: the credits and counts of a state are those that its history says

credit_by_law : (role : Role) (o : Limits) (h : List Event) (id : ℕ) → AllAccepted role o h → credit_of (state_of role o h) id ≡ stream_credit_by o h id
unfolding credit_of
credit_by_law role o h id a = go (listed id) refl
  where
    go : (b : Bool) → listed id ≡ b → (listed id ⇒ (entry_of (state_of role o h).table id).credit ∣ 0) ≡ stream_credit_by o h id
    go true e = rw e (credit_said role o h id a (listed_has id e))
    go false e = rw e (sym (credit_none role o h id a (λ b. not_both _ (has_listed id b) e)))

module _ (role : Role) (o : Limits) (h : List Event) (two : length o.counts ≡ 2) (a : AllAccepted role o h) where
  abbrev by : Said o h (state_of role o h).conn
  by = said role o h two a

  count_by_law : (id : ℕ) → count_of (state_of role o h).conn (id % 4) ≡ count_by o h (id % 4)
  count_by_law id = by.count (id % 4) (omega arith)

  may_by : (id : ℕ) → may_send (state_of role o h).conn id ≡ may_send_by o h id
  unfolding may_send
  may_by id = ap (λ (n : ℕ). receives (id % 4) && ltb (id / 4) n) (count_by_law id)

  granted_by_law : granted (state_of role o h) ≡ granted_by o h
  unfolding granted granted_by
  granted_by_law = sum_same 256 (λ id. may_send (state_of role o h).conn id ⇒ credit_of (state_of role o h) id ∣ 0) (λ id. may_send_by o h id ⇒ stream_credit_by o h id ∣ 0) (λ id l. λ j. may_by id j ⇒ credit_by_law role o h id a j ∣ 0)

-- a history of accepted events that left the connection open, and with enough credit for all
pub record Running (role : Role) (o : Limits) (h : List Event) : Type 0 where
  pub two : length o.counts ≡ 2
  pub accepted : AllAccepted role o h
  pub still_open : (state_of role o h).conn.mark ≡ Open
  pub enough : granted_by o h ≤ credit_by o h

module _ (role : Role) (o : Limits) (h : List Event) (r : Running role o h) where
  enough_in : granted (state_of role o h) ≤ (state_of role o h).conn.limits.credit
  enough_in = omega (arith, r.enough, granted_by_law role o h r.two r.accepted, (by role o h r.two r.accepted).credit)

  verdict_by_law : (id end : ℕ) (fin : Bool) → ends_of (state_of role o h).conn (entry_of (state_of role o h).table id) id end fin ≡ ruling (count_of (state_of role o h).conn (half_of id)) (credit_of (state_of role o h) id) (own h id) id end fin
  unfolding ends_of ruling
  verdict_by_law id end fin = go (rule1 n (stream_of id)) refl (rule2 n (stream_of id)) refl
    where
      n : ℕ
      n = count_of (state_of role o h).conn (id % 4)

      f : Fits (state_of role o h).conn (state_of role o h).table
      f = always role o h r.accepted

      -- rules 3 to 5 by the entry, and 3 and 4 by the stream's own frames
      entered : Answer
      entered =
          rule3 (final_of (entry_of (state_of role o h).table id).size) (entry_of (state_of role o h).table id).end end fin ⇒ FinalSize
          ∣ rule4 (entry_of (state_of role o h).table id).credit end ⇒ FlowControl
          ∣ rule5 (state_of role o h).conn.limits.credit (state_of role o h).conn.total (entry_of (state_of role o h).table id).end end ⇒ FlowControl
          ∣ Accepted

      named : Answer
      named =
          rule3 (final_named (own h id)) (furthest_of (own h id)) end fin ⇒ FinalSize
          ∣ rule4 (credit_of (state_of role o h) id) end ⇒ FlowControl
          ∣ Accepted

      rules : rule1 n (stream_of id) ≡ false → rule2 n (stream_of id) ≡ false → entered ≡ named
      rules a b =
          let m = may n id a b in
          let has : Has id = (m.0, omega (arith, f.conn.count_top (id % 4))) in
          let w = owned role o h id r.accepted has in
          let k = credit_is (state_of role o h) id has in
          (λ j. rule3 (w.size_is j) (w.end_is j) end fin ⇒ FinalSize ∣ rule4 (sym k j) end ⇒ FlowControl ∣ rule5 (state_of role o h).conn.limits.credit (state_of role o h).conn.total (w.end_is j) end ⇒ FlowControl ∣ Accepted)
          ∙ ap (λ (x : Answer). rule3 (final_named (own h id)) (furthest_of (own h id)) end fin ⇒ FinalSize ∣ x)
          (last_rules (state_of role o h).conn.limits.credit (state_of role o h).conn.total (credit_of (state_of role o h) id) (furthest_of (own h id)) end (λ l. omega (arith, w.end_is, room (state_of role o h) f id end m.0 m.1 (omega arith) enough_in)))

      go : (x : Bool) → rule1 n (stream_of id) ≡ x → (y : Bool) → rule2 n (stream_of id) ≡ y
          → (rule1 n (stream_of id) ⇒ StreamState ∣ rule2 n (stream_of id) ⇒ StreamLimit ∣ entered) ≡ (rule1 n (stream_of id) ⇒ StreamState ∣ rule2 n (stream_of id) ⇒ StreamLimit ∣ named)
      go true a y b = simp a
      go false a true b = simp (a, b)
      go false a false b = simp (a, b) (rules a b)

  open_is : is_open (state_of role o h).conn.mark ≡ true
  open_is = ap is_open r.still_open

  -- Demand 3, the verdict: it is the ruling by the frame, the stream count for its type, the stream's credit, and its own accepted frames
  pub verdict_is_own : (id end : ℕ) (fin : Bool) → answer_of (state_of role o h) (Got (Ends id end fin)) ≡ ruling (count_by o h (half_of id)) (stream_credit_by o h id) (own h id) id end fin
  unfolding answer_of ruled_of verdict_of
  verdict_is_own id end fin = simp (fits_test _ _ (always role o h r.accepted), open_is) (verdict_by_law id end fin ∙ (λ j. ruling (count_by_law role o h r.two r.accepted id j) (credit_by_law role o h id r.accepted j) (own h id) id end fin))

  -- and rule 5 never refuses what rules 1, 2 and 4 let pass
  pub neighbours_never : (id end : ℕ) → may_send_by o h id ≡ true → end ≤ stream_credit_by o h id → rule5 (credit_by o h) (sum_to 256 (furthest h)) (furthest h id) end ≡ false
  unfolding rule5
  neighbours_never id end m l =
      let f = always role o h r.accepted in
      let a = (and-eq-true_iff (receives (id % 4)) (ltb (id / 4) (count_by o h (id % 4)))).0 m in
      let k : id % 4 < 3 = ltb-true (id % 4) 3 a.0 in
      let n = count_by_law role o h r.two r.accepted id in
      let b : id / 4 < count_of (state_of role o h).conn (id % 4) = omega (arith, ltb-true (id / 4) (count_by o h (id % 4)) a.1) in
      let has : Has id = (k, omega (arith, f.conn.count_top (id % 4))) in
      let e = (owned role o h id r.accepted has).end_is in
      let t = total_is_sum role o h r.accepted 256 (omega arith) in
      let s = (by role o h r.two r.accepted).credit in
      let q = room (state_of role o h) f id end k b (omega (arith, credit_is (state_of role o h) id has, credit_by_law role o h id r.accepted)) enough_in in
      le-ltb (credit_by o h) (sum_to 256 (furthest h) + (end - furthest h id)) (omega arith)

nothing : furthest_of [] ≡ 0
unfolding furthest_of
nothing = refl

-- ---- Demand 3, as it is read

-- the sum, and the credits, of every history; the table always fits
pub record Accounts (role : Role) (o : Limits) (h : List Event) : Type 0 where
  pub total_is : (n : ℕ) → 256 ≤ n → (state_of role o h).conn.total ≡ sum_to n (furthest h)
  pub total_within : (state_of role o h).conn.total ≤ credit_by o h
  pub each_within : (id : ℕ) → furthest h id ≤ stream_credit_by o h id
  pub never_120 : fits (state_of role o h).conn (state_of role o h).table ≡ true

pub accounts : (role : Role) (o : Limits) (h : List Event) → length o.counts ≡ 2 → AllAccepted role o h → Accounts role o h
accounts role o h two a = record {
  total_is = total_is_sum role o h a;
  total_within = omega (arith, (always role o h a).conn.within, (said role o h two a).credit);
  each_within = λ id. omega (arith, each id (dec_le 3 (id % 4)) (dec_le 64 (id / 4)), credit_by_law role o h id a);
  never_120 = fits_test _ _ (always role o h a);
}
  where
    none : (id : ℕ) → (Has id → ⊥) → furthest h id ≤ credit_of (state_of role o h) id
    none id b = let e : furthest h id ≡ furthest_of [] = ap furthest_of (unowned role o h id a b) in omega (arith, nothing)

    each : (id : ℕ) → Dec (3 ≤ id % 4) → Dec (64 ≤ id / 4) → furthest h id ≤ credit_of (state_of role o h) id
    each id (yes p) d = none id (λ x. omega arith)
    each id (no p) (yes q) = none id (λ x. omega arith)
    each id (no p) (no q) =
        let has : Has id = (omega arith, omega arith) in
        omega (arith, (owned role o h id a has).end_is, credit_is (state_of role o h) id has, ((always role o h a).each (place_of id) (omega (arith, place_is id has))).within)
