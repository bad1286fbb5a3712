-- The numbers that a connection keeps are those that its history says: opening sets each, and an accepted event moves the one that it names and no other.
-- Assumes nothing.
use Prim.Native.Nat.{ℕ, zero, suc, ◌+◌, ◌-◌, ◌*◌, ◌/◌, ◌%◌, ◌≤◌, ◌<◌, max, ◌^◌}
use mathlib.Core.Path.{◌≡◌, refl, sym, ◌∙◌, ap, subst}
use mathlib.Core.Bool.{Bool, true, false, not, and-eq-true_iff}
use mathlib.Core.List.{List, [], ◌∷◌}
use native.Mathlib.Omega.{arith}
use native.Mathlib.Decide.{ℕ_discrete, dec_le}
use lib.ListN.{get_or, set, length, length-set, get_or-eq_default}
use lib.Seq.{get_or-set_same, get_or-set_other}
use lib.Dec.{ltb, leb, eqb}
use borrow.Author.Tests.{lt-ltb, eq-eqb, ne_eqb, leb-false, not-false, not-true}
use Rattle.kinds.specs.declared.Role.{Role}
use Rattle.answers.specs.Choice.{◌⇒◌∣◌}
use Rattle.answers.specs.declared.Answer.TheVariants.{Accepted, NotServed, AboveCeiling}
use Rattle.answers.proofs.Accepts.{passed}
use Rattle.answers.proofs.Choice.{holds}
use Rattle.answers.proofs.Distinct.{impossible}
use Rattle.streams.specs.declared.Conn.{Conn}
use Rattle.entries.specs.declared.Entry.{Entry}
use Rattle.streams.specs.declared.Limits.{Limits}
use Rattle.streams.specs.declared.Mark.TheVariants.{Open}
use Rattle.kinds.specs.declared.Space.{Space}
use Rattle.kinds.specs.declared.Space.TheVariants.{Initial, Handshake, Application}
use Rattle.halves.specs.Stream.{id_of, peers, most_streams, listed, place_of}
use Rattle.entries.specs.Entry.{fresh, reached, credited, entry_at, entry_of}
use Rattle.streams.specs.Conn.{limited_to, advertised_of, initial_of, with_count, opened_of, count_of, open_to, index_of, next_of, handed_on}
use Rattle.opening.specs.Opening.{opened_conn}
use Rattle.rules.specs.declared.View.TheVariants.{Ends, Blocks, ForSender, Acks, Closes, Nothing}
use Rattle.verdicts.specs.Verdict.{verdict_of, conn_heard, entry_heard}
use Rattle.calls.specs.declared.Call.TheVariants.{RaiseCredit, RaiseStream, RaiseCount, OpenNext}
use Rattle.replies.specs.Replies as replies
use Rattle.calls.specs.Calls.{peers_type, ours_type, reply_of}
use Rattle.accounts.specs.History.{Event, looks_at, ruled_of, conn_after, entry_after, after, opened, state_of, AllAccepted}
use Rattle.accounts.specs.History.Event.{Got, Did, Gave}
use Rattle.accounts.specs.Advertised.{credits, credit_by, lifts, stream_credit_by, counts, count_by, up_to, opens, open_by, hands, next_by, marks, mark_by}
use Rattle.accounts.proofs.Tests.{Has, has_listed, listed_has, place_is}
use Rattle.accounts.proofs.Fits.{Fits, ConnOk}
use Rattle.accounts.proofs.Halves.{count_peers, count_ours}
use Rattle.accounts.proofs.Steps.{taken, passes, blocks_below, send_below, raise_has, same_half}
use Rattle.accounts.proofs.Owned.{always, table_at, none_open}

-- ---- what is open

-- a number set in a row, looked at again, by whether it is the same place
set_choice : (l : List ℕ) (i j x : ℕ) → j < length l → get_or (set l i x) j 0 ≡ (eqb i j ⇒ x ∣ get_or l j 0)
set_choice l i j x m = go (ℕ_discrete i j)
  where
    go : Dec (i ≡ j) → get_or (set l i x) j 0 ≡ (eqb i j ⇒ x ∣ get_or l j 0)
    go (yes e) = rw (eq-eqb i j e) (ap (λ (k : ℕ). get_or (set l k x) j 0) e ∙ get_or-set_same l j x 0 m)
    go (no n) = rw (ne_eqb i j n) (get_or-set_other l i j x 0 (λ e. n (sym e)))

open_to_law : (c : Conn) (id n half : ℕ) → length c.opened ≡ 4 → half < 4 → opened_of (open_to c id n) half ≡ up_to id half (opened_of c half)
open_to_law c id n half four l = set_choice c.opened (id % 4) half (max (opened_of c (id % 4)) (id / 4 + 1)) (omega arith) ∙ go (ℕ_discrete (id % 4) half)
  where
    go : Dec (id % 4 ≡ half) → (eqb (id % 4) half ⇒ max (opened_of c (id % 4)) (id / 4 + 1) ∣ opened_of c half) ≡ up_to id half (opened_of c half)
    go (yes e) = rw (eq-eqb (id % 4) half e) (ap (λ (k : ℕ). max (opened_of c k) (id / 4 + 1)) e)
    go (no x) = rw (ne_eqb (id % 4) half x)

-- the stream that we open next is the one above those that are open
pub next_is : (c : Conn) (ty : ℕ) → opened_of c (ty % 4) < 64 → replies.next_of c ty ≡ 4 * opened_of c (ty % 4) + ty % 4
unfolding id_of
next_is c ty l = rw (lt-ltb (ty % 4) 4 (omega arith), lt-ltb (opened_of c (ty % 4)) (2 ^ 60) (omega arith)) refl

-- an accepted call for it: one more of our streams is open
pub record Opens (c : Conn) (ty : ℕ) : Type 0 where
  pub ours : peers (ty % 4) ≡ false
  pub room : opened_of c (ty % 4) < 64

pub opens_next : (c : Conn) (e : Entry) (ty : ℕ) → reply_of c e (OpenNext ty) ≡ Accepted → Opens c ty
unfolding reply_of
opens_next c e ty h =
    let a = passed (not (ours_type ty)) NotServed _ refl h in
    let b = passed (leb most_streams (opened_of c (ty % 4))) AboveCeiling Accepted refl a.1 in
    let p = (and-eq-true_iff (ltb ty 4) (not (peers (ty % 4)))).0 (not-false _ a.0) in
    record { ours = not-true _ p.1; room = leb-false most_streams (opened_of c (ty % 4)) b.0 }

open_next : (c : Conn) (ty half : ℕ) → length c.opened ≡ 4 → half < 4 → Opens c ty → opened_of (open_to c (replies.next_of c ty) c.total) half ≡ (eqb (ty % 4) half ⇒ opened_of c half + 1 ∣ opened_of c half)
open_next c ty half four l w = open_to_law c (replies.next_of c ty) c.total half four l ∙ go (ℕ_discrete (ty % 4) half)
  where
    e : replies.next_of c ty ≡ 4 * opened_of c (ty % 4) + ty % 4
    e = next_is c ty w.room

    m : replies.next_of c ty % 4 ≡ ty % 4
    m = omega (arith, e)

    go : Dec (ty % 4 ≡ half) → up_to (replies.next_of c ty) half (opened_of c half) ≡ (eqb (ty % 4) half ⇒ opened_of c half + 1 ∣ opened_of c half)
    go (yes x) = rw (eq-eqb (replies.next_of c ty % 4) half (m ∙ x), eq-eqb (ty % 4) half x) (omega (arith, e, ap (opened_of c) x))
    go (no x) = rw (ne_eqb (replies.next_of c ty % 4) half (λ y. x (sym m ∙ y)), ne_eqb (ty % 4) half x)

opened_step : (c : Conn) (e : Entry) (ev : Event) (half : ℕ) → length c.opened ≡ 4 → half < 4 → ruled_of c e ev ≡ Accepted → opened_of (conn_after c e ev) half ≡ opens ev half (opened_of c half)
unfolding ruled_of conn_after conn_heard
opened_step c e (Got (Ends id end fin)) half four l r = open_to_law c id (c.total + (end - e.end)) half four l
opened_step c e (Got (Blocks id)) half four l r = open_to_law c id c.total half four l
opened_step c e (Got (ForSender id)) half four l r = open_to_law c id c.total half four l
opened_step c e (Got (Acks space largest)) half four l r = refl
opened_step c e (Got Closes) half four l r = refl
opened_step c e (Got Nothing) half four l r = refl
opened_step c e (Did (RaiseCredit new)) half four l r = refl
opened_step c e (Did (RaiseStream id new)) half four l r = refl
opened_step c e (Did (RaiseCount ty new)) half four l r = refl
opened_step c e (Did (OpenNext ty)) half four l r = open_next c ty half four l (opens_next c e ty r)
opened_step c e (Gave space) half four l r = refl

-- ---- the counts

-- a frame for a stream below its count changes no count
count_frame : (c : Conn) (id n half : ℕ) → length c.opened ≡ 4 → half < 4 → id / 4 < count_of c (id % 4) → count_of (open_to c id n) half ≡ count_of c half
count_frame c id n half four l below = go (peers half) refl
  where
    up : Dec (id % 4 ≡ half) → peers half ≡ false → up_to id half (opened_of c half) ≡ opened_of c half
    up (yes e) p = rw (eq-eqb (id % 4) half e) (omega (arith, ap (count_of c) e, count_ours c half p))
    up (no x) p = rw (ne_eqb (id % 4) half x)

    go : (b : Bool) → peers half ≡ b → count_of (open_to c id n) half ≡ count_of c half
    go true p = count_peers (open_to c id n) half p ∙ sym (count_peers c half p)
    go false p = count_ours (open_to c id n) half p ∙ open_to_law c id n half four l ∙ up (ℕ_discrete (id % 4) half) p ∙ sym (count_ours c half p)

-- a raise of a count of the peer's moves that count alone
count_raise : (c : Conn) (ty new half : ℕ) → length c.limits.counts ≡ 2 → half < 4 → peers (ty % 4) ≡ true → count_of (limited_to c (with_count c.limits (ty % 4) new)) half ≡ (eqb (ty % 4) half ⇒ new ∣ count_of c half)
count_raise c ty new half two l q = go (peers half) refl (ℕ_discrete (ty % 4) half)
  where
    d : Conn
    d = limited_to c (with_count c.limits (ty % 4) new)

    set_count : peers half ≡ true → count_of d half ≡ (eqb (ty % 4 / 2) (half / 2) ⇒ new ∣ advertised_of c.limits half)
    set_count p = count_peers d half p ∙ set_choice c.limits.counts (ty % 4 / 2) (half / 2) new (omega arith)

    go : (b : Bool) → peers half ≡ b → Dec (ty % 4 ≡ half) → count_of d half ≡ (eqb (ty % 4) half ⇒ new ∣ count_of c half)
    go true p (yes x) = set_count p ∙ rw (eq-eqb (ty % 4 / 2) (half / 2) (ap (λ (k : ℕ). k / 2) x), eq-eqb (ty % 4) half x)
    go true p (no x) = set_count p ∙ rw (ne_eqb (ty % 4 / 2) (half / 2) (λ y. x (same_half (ty % 4) half q p y)), ne_eqb (ty % 4) half x) (sym (count_peers c half p))
    go false p (yes x) = let u = ap peers x in impossible cc
    go false p (no x) = count_ours d half p ∙ rw (ne_eqb (ty % 4) half x) (sym (count_ours c half p))

raises_peers : (c : Conn) (e : Entry) (ty new : ℕ) → reply_of c e (RaiseCount ty new) ≡ Accepted → peers (ty % 4) ≡ true
unfolding reply_of
raises_peers c e ty new h = ((and-eq-true_iff (ltb ty 4) (peers (ty % 4))).0 (not-false _ (passed (not (peers_type ty)) NotServed _ refl h).0)).1

count_next : (c : Conn) (ty half : ℕ) → length c.opened ≡ 4 → half < 4 → Opens c ty → count_of (open_to c (replies.next_of c ty) c.total) half ≡ (eqb (ty % 4) half ⇒ count_of c half + 1 ∣ count_of c half)
count_next c ty half four l w = go (peers half) refl (ℕ_discrete (ty % 4) half)
  where
    d : Conn
    d = open_to c (replies.next_of c ty) c.total

    go : (b : Bool) → peers half ≡ b → Dec (ty % 4 ≡ half) → count_of d half ≡ (eqb (ty % 4) half ⇒ count_of c half + 1 ∣ count_of c half)
    go true p (yes x) = let u = ap peers x in let v = w.ours in impossible cc
    go true p (no x) = count_peers d half p ∙ rw (ne_eqb (ty % 4) half x) (sym (count_peers c half p))
    go false p y = count_ours d half p ∙ open_next c ty half four l w ∙ ap (λ (n : ℕ). eqb (ty % 4) half ⇒ n + 1 ∣ n) (sym (count_ours c half p))

count_step : (c : Conn) (e : Entry) (ev : Event) (half : ℕ) → length c.opened ≡ 4 → length c.limits.counts ≡ 2 → half < 4 → ruled_of c e ev ≡ Accepted → count_of (conn_after c e ev) half ≡ counts ev half (count_of c half)
unfolding ruled_of conn_after verdict_of conn_heard count_of
count_step c e (Got (Ends id end fin)) half four two l r = count_frame c id (c.total + (end - e.end)) half four l (taken c e id end fin r).below
count_step c e (Got (Blocks id)) half four two l r = count_frame c id c.total half four l (blocks_below c id r)
count_step c e (Got (ForSender id)) half four two l r = count_frame c id c.total half four l (send_below c id r)
count_step c e (Got (Acks space largest)) half four two l r = refl
count_step c e (Got Closes) half four two l r = refl
count_step c e (Got Nothing) half four two l r = refl
count_step c e (Did (RaiseCredit new)) half four two l r = refl
count_step c e (Did (RaiseStream id new)) half four two l r = refl
count_step c e (Did (RaiseCount ty new)) half four two l r = count_raise c ty new half two l (raises_peers c e ty new r)
count_step c e (Did (OpenNext ty)) half four two l r = count_next c ty half four l (opens_next c e ty r)
count_step c e (Gave space) half four two l r = refl

-- ---- the numbers handed out

hand_on : (c : Conn) (given space : Space) → length c.next ≡ 3 → next_of (handed_on c given) space ≡ (eqb (index_of given) (index_of space) ⇒ next_of c space + 1 ∣ next_of c space)
hand_on c given space three = set_choice c.next (index_of given) (index_of space) (next_of c given + 1) (omega (arith, low space)) ∙ go (ℕ_discrete (index_of given) (index_of space))
  where
    low : (space : Space) → index_of space < 3
    low Initial = omega arith
    low Handshake = omega arith
    low Application = omega arith

    go : Dec (index_of given ≡ index_of space) → (eqb (index_of given) (index_of space) ⇒ next_of c given + 1 ∣ next_of c space) ≡ (eqb (index_of given) (index_of space) ⇒ next_of c space + 1 ∣ next_of c space)
    go (yes x) = rw (eq-eqb (index_of given) (index_of space) x) (ap (λ (i : ℕ). get_or c.next i 0 + 1) x)
    go (no x) = rw (ne_eqb (index_of given) (index_of space) x)

-- ---- what an event does to the other parts of a connection

-- c is the connection before it and d the one after; rows stay as long as they are
record Moves (c : Conn) (ev : Event) (d : Conn) : Type 0 where
  credit : d.limits.credit ≡ credits ev c.limits.credit
  initial : d.limits.initial ≡ c.limits.initial
  mark : d.mark ≡ marks ev c.mark
  two : length d.limits.counts ≡ length c.limits.counts
  three : length d.next ≡ length c.next
  next : (space : Space) → length c.next ≡ 3 → next_of d space ≡ hands ev space (next_of c space)

moves : (c : Conn) (e : Entry) (ev : Event) → Moves c ev (conn_after c e ev)
unfolding conn_after conn_heard
moves c e (Got (Ends id end fin)) = record { credit = refl; initial = refl; mark = refl; two = refl; three = refl; next = λ space k. refl }
moves c e (Got (Blocks id)) = record { credit = refl; initial = refl; mark = refl; two = refl; three = refl; next = λ space k. refl }
moves c e (Got (ForSender id)) = record { credit = refl; initial = refl; mark = refl; two = refl; three = refl; next = λ space k. refl }
moves c e (Got (Acks space largest)) = record { credit = refl; initial = refl; mark = refl; two = refl; three = refl; next = λ space k. refl }
moves c e (Got Closes) = record { credit = refl; initial = refl; mark = refl; two = refl; three = refl; next = λ space k. refl }
moves c e (Got Nothing) = record { credit = refl; initial = refl; mark = refl; two = refl; three = refl; next = λ space k. refl }
moves c e (Did (RaiseCredit new)) = record { credit = refl; initial = refl; mark = refl; two = refl; three = refl; next = λ space k. refl }
moves c e (Did (RaiseStream id new)) = record { credit = refl; initial = refl; mark = refl; two = refl; three = refl; next = λ space k. refl }
moves c e (Did (RaiseCount ty new)) = record { credit = refl; initial = refl; mark = refl; two = length-set c.limits.counts (ty % 4 / 2) new; three = refl; next = λ space k. refl }
moves c e (Did (OpenNext ty)) = record { credit = refl; initial = refl; mark = refl; two = refl; three = refl; next = λ space k. refl }
moves c e (Gave given) = record { credit = refl; initial = refl; mark = refl; two = refl; three = length-set c.next (index_of given) _; next = λ space k. hand_on c given space k }

-- ---- a stream's credit

-- an entry that is set with its own credit leaves every credit as it was
credit_set : (t : List Entry) (k i : ℕ) (e : Entry) → e.credit ≡ (entry_at t k).credit → (entry_at (set t k e) i).credit ≡ (entry_at t i).credit
credit_set t k i e h = go (ℕ_discrete i k) (dec_le (length t) k)
  where
    go : Dec (i ≡ k) → Dec (length t ≤ k) → (entry_at (set t k e) i).credit ≡ (entry_at t i).credit
    go (no n) d = ap (λ (x : Entry). x.credit) (get_or-set_other t k i e (fresh 0) n)
    go (yes p) (no n) = ap (λ (x : Entry). x.credit) (ap (λ (j : ℕ). entry_at (set t k e) j) p ∙ get_or-set_same t k e (fresh 0) (omega arith)) ∙ h ∙ ap (λ (j : ℕ). (entry_at t j).credit) (sym p)
    go (yes p) (yes m) = ap (λ (x : Entry). x.credit) (get_or-eq_default (set t k e) (fresh 0) (omega (arith, length-set t k e)) ∙ sym (get_or-eq_default t (fresh 0) (omega arith)))

-- of two streams that have entries, raising one raises no other
credit_raise : (t : List Entry) (n new id : ℕ) → length t ≡ 192 → Has n → Has id → (entry_of (set t (place_of n) (credited (entry_of t n) new)) id).credit ≡ (eqb n id ⇒ new ∣ (entry_of t id).credit)
credit_raise t n new id long a b = go (ℕ_discrete n id) (place_is n a) (place_is id b)
  where
    e : Entry
    e = credited (entry_of t n) new

    go : Dec (n ≡ id) → place_of n ≡ 64 * (n % 4) + n / 4 → place_of id ≡ 64 * (id % 4) + id / 4 → (entry_of (set t (place_of n) e) id).credit ≡ (eqb n id ⇒ new ∣ (entry_of t id).credit)
    go (yes p) x y = rw (eq-eqb n id p) (ap (λ (w : Entry). w.credit) (ap (λ (j : ℕ). entry_at (set t (place_of n) e) (place_of j)) (sym p) ∙ get_or-set_same t (place_of n) e (fresh 0) (omega arith)))
    go (no p) x y = rw (ne_eqb n id p) (ap (λ (w : Entry). w.credit) (get_or-set_other t (place_of n) (place_of id) e (fresh 0) (omega arith)))

stream_step : (c : Conn) (t : List Entry) (ev : Event) (id : ℕ) → Fits c t → Has id → ruled_of c (entry_of t (looks_at ev)) ev ≡ Accepted
    → (entry_of (set t (place_of (looks_at ev)) (entry_after (entry_of t (looks_at ev)) ev)) id).credit ≡ lifts ev id (entry_of t id).credit
unfolding ruled_of entry_after entry_heard reached
stream_step c t (Got (Ends n end fin)) id f b r = credit_set t (place_of n) (place_of id) _ refl
stream_step c t (Got (Blocks n)) id f b r = credit_set t (place_of 0) (place_of id) _ refl
stream_step c t (Got (ForSender n)) id f b r = credit_set t (place_of 0) (place_of id) _ refl
stream_step c t (Got (Acks space largest)) id f b r = credit_set t (place_of 0) (place_of id) _ refl
stream_step c t (Got Closes) id f b r = credit_set t (place_of 0) (place_of id) _ refl
stream_step c t (Got Nothing) id f b r = credit_set t (place_of 0) (place_of id) _ refl
stream_step c t (Did (RaiseCredit n)) id f b r = credit_set t (place_of 0) (place_of id) _ refl
stream_step c t (Did (RaiseStream n new)) id f b r = credit_raise t n new id f.long (raise_has c (entry_of t n) n new f.conn r).0 b
stream_step c t (Did (RaiseCount ty n)) id f b r = credit_set t (place_of 0) (place_of id) _ refl
stream_step c t (Did (OpenNext ty)) id f b r = credit_set t (place_of 0) (place_of id) _ refl
stream_step c t (Gave space) id f b r = credit_set t (place_of 0) (place_of id) _ refl

-- a raise of a stream that has no entry is not accepted
lifts_none : (c : Conn) (e : Entry) (ev : Event) (id : ℕ) → ConnOk c → (Has id → ⊥) → ruled_of c e ev ≡ Accepted → lifts ev id 0 ≡ 0
unfolding ruled_of
lifts_none c e (Got view) id k b r = refl
lifts_none c e (Did (RaiseCredit n)) id k b r = refl
lifts_none c e (Did (RaiseStream n new)) id k b r = rw (ne_eqb n id (λ p. b (subst Has p (raise_has c e n new k r).0)))
lifts_none c e (Did (RaiseCount ty n)) id k b r = refl
lifts_none c e (Did (OpenNext ty)) id k b r = refl
lifts_none c e (Gave space) id k b r = refl

-- ---- all of it, along a history

-- opening hands in two counts, as its type has them
pub record Said (o : Limits) (h : List Event) (c : Conn) : Type 0 where
  pub credit : c.limits.credit ≡ credit_by o h
  pub initial : c.limits.initial ≡ o.initial
  pub count : (half : ℕ) → half < 4 → count_of c half ≡ count_by o h half
  pub opened_is : (half : ℕ) → half < 4 → opened_of c half ≡ open_by h half
  pub next : (space : Space) → next_of c space ≡ next_by h space
  pub mark : c.mark ≡ mark_by h
  pub two : length c.limits.counts ≡ 2
  pub three : length c.next ≡ 3

first_counts : (role : Role) (o : Limits) (half : ℕ) → half < 4 → count_of (opened_conn role o Open) half ≡ count_by o [] half
unfolding count_of count_by
first_counts role o zero l = refl
first_counts role o (suc zero) l = refl
first_counts role o (suc (suc zero)) l = refl
first_counts role o (suc (suc (suc zero))) l = refl
first_counts role o (suc (suc (suc (suc half)))) l = absurd (omega arith)

first_next : (role : Role) (o : Limits) (space : Space) → next_of (opened_conn role o Open) space ≡ 0
first_next role o Initial = refl
first_next role o Handshake = refl
first_next role o Application = refl

pub said : (role : Role) (o : Limits) (h : List Event) → length o.counts ≡ 2 → AllAccepted role o h → Said o h (state_of role o h).conn
unfolding state_of AllAccepted opened after credit_by open_by next_by mark_by count_by
said role o [] two a = record { credit = refl; initial = refl; count = first_counts role o; opened_is = λ half l. none_open role o half; next = first_next role o; mark = refl; two = two; three = refl }
said role o (ev ∷ h) two a =
    let c = (state_of role o h).conn in
    let e = entry_of (state_of role o h).table (looks_at ev) in
    let r = passes (state_of role o h) ev a.1 in
    let four = (always role o h a.0).conn.four in
    let w = said role o h two a.0 in
    let m = moves c e ev in
    record {
      credit = m.credit ∙ ap (credits ev) w.credit;
      initial = m.initial ∙ w.initial;
      count = λ half l. count_step c e ev half four w.two l r ∙ ap (counts ev half) (w.count half l);
      opened_is = λ half l. opened_step c e ev half four l r ∙ ap (opens ev half) (w.opened_is half l);
      next = λ space. m.next space w.three ∙ ap (hands ev space) (w.next space);
      mark = m.mark ∙ ap (marks ev) w.mark;
      two = m.two ∙ w.two;
      three = m.three ∙ w.three;
    }

-- a stream's credit is what the history says: in its entry, and 0 where it has none
pub credit_said : (role : Role) (o : Limits) (h : List Event) (id : ℕ) → AllAccepted role o h → Has id → (entry_of (state_of role o h).table id).credit ≡ stream_credit_by o h id
unfolding state_of AllAccepted after stream_credit_by
credit_said role o [] id a b =
    let p = place_is id b in
    let q : place_of id / 64 ≡ id % 4 = omega arith in
    ap (λ (x : Entry). x.credit) (table_at role o (place_of id) (omega arith)) ∙ rw (has_listed id b) (ap (initial_of o) q)
credit_said role o (ev ∷ h) id a b = stream_step (state_of role o h).conn (state_of role o h).table ev id (always role o h a.0) b (passes (state_of role o h) ev a.1) ∙ ap (lifts ev id) (credit_said role o h id a.0 b)

pub credit_none : (role : Role) (o : Limits) (h : List Event) (id : ℕ) → AllAccepted role o h → (Has id → ⊥) → stream_credit_by o h id ≡ 0
unfolding AllAccepted stream_credit_by
credit_none role o [] id a b = holds (λ (n : ℕ). n ≡ 0) (listed id) _ _ (λ e. absurd (b (listed_has id e))) (λ e. refl)
credit_none role o (ev ∷ h) id a b = ap (lifts ev id) (credit_none role o h id a.0 b) ∙ lifts_none (state_of role o h).conn (entry_of (state_of role o h).table (looks_at ev)) ev id (always role o h a.0).conn b (passes (state_of role o h) ev a.1)
