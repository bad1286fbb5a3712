-- Along a history the table fits, and each entry holds what its stream's own frames named: the event's stream is the only one whose entry moves.
-- Assumes nothing.
use Prim.Native.Nat.{ℕ, zero, suc, ◌+◌, ◌*◌, ◌/◌, ◌%◌, ◌≤◌, ◌<◌, max}
use mathlib.Core.Path.{◌≡◌, refl, sym, ap, subst}
use mathlib.Core.Bool.{Bool, true, false, and-eq-true_iff}
use mathlib.Core.List.{List, [], ◌∷◌}
use native.Mathlib.Omega.{arith}
use native.Mathlib.Decide.{ℕ_discrete}
use lib.ListN.{get_or, set, length}
use lib.Seq.{get_or-set_same, get_or-set_other, set-get_or}
use lib.Dec.{leb, eqb}
use borrow.Author.Tests.{eq-eqb, ne_eqb, leb-true}
use Rattle.kinds.specs.declared.Role.{Role}
use Rattle.answers.specs.Choice.{◌⇒◌∣◌}
use Rattle.answers.specs.declared.Answer.TheVariants.{Accepted, AboveCeiling}
use Rattle.answers.proofs.Distinct.{impossible}
use Rattle.streams.specs.declared.Conn.{Conn}
use Rattle.entries.specs.declared.Entry.{Entry}
use Rattle.streams.specs.declared.Limits.{Limits}
use Rattle.streams.specs.declared.Mark.TheVariants.{Open}
use Rattle.halves.specs.Stream.{most_streams, place_of}
use Rattle.entries.specs.Entry.{most_credit, final_of, fresh, reached, credited, entry_at, entry_of}
use Rattle.streams.specs.Conn.{initial_of, opened_of, count_of}
use Rattle.opening.specs.Opening.{opened_conn, unopened_of, opening_of}
use Rattle.streams.specs.Conn.{limits_fit}
use Rattle.rules.specs.declared.View.TheVariants.{Ends, Blocks, ForSender, Acks, Closes, Nothing}
use Rattle.rules.specs.Rules.{ends_of}
use Rattle.verdicts.specs.Verdict.{verdict_of, entry_heard}
use Rattle.calls.specs.declared.Call.TheVariants.{RaiseCredit, RaiseStream, RaiseCount, OpenNext}
use Rattle.accounts.specs.History.{Event, looks_at, ruled_of, entry_after, after, list_to, opened, WasOpened, state_of, AllAccepted, End, added, own, furthest_of, final_named}
use Rattle.accounts.specs.History.Event.{Got, Did, Gave}
use Rattle.accounts.proofs.Tests.{Has, place_is, size_none, size_known}
use Rattle.accounts.proofs.Sums.{sum_zero}
use Rattle.accounts.proofs.Fits.{EntryOk, Fits}
use Rattle.accounts.proofs.Halves.{count_ours}
use Rattle.accounts.proofs.Steps.{taken, has, passes, step_fits}
use Rattle.std.specs.Prelude.{Some}

-- ---- opening

pub length_list : {A : Type 0} (n : ℕ) (f : ℕ → A) → length (list_to n f) ≡ n
unfolding list_to
length_list zero f = refl
length_list (suc n) f = ap suc (length_list n (λ i. f (suc i)))

pub list_at : {A : Type 0} (n i : ℕ) (f : ℕ → A) (d : A) → i < n → get_or (list_to n f) i d ≡ f i
unfolding list_to
list_at zero i f d l = absurd (omega arith)
list_at (suc n) zero f d l = refl
list_at (suc n) (suc i) f d l = list_at n i (λ k. f (suc k)) d (omega arith)

pub table_at : (role : Role) (o : Limits) (i : ℕ) → i < 192 → entry_at (opened role o).table i ≡ fresh (initial_of o (i / 64))
unfolding opened
table_at role o i l = list_at 192 i (λ k. fresh (initial_of o (k / 64))) (fresh 0) l

fresh_ok : (c : Conn) (i n : ℕ) → n ≤ most_credit → n ≡ initial_of c.limits (i / 64) → EntryOk c i (fresh n)
fresh_ok c i n l e = record {
  within = omega arith;
  size_is = λ m p. let q = size_none in impossible cc;
  unopened = λ u. ap fresh e;
  ceiling = l;
}

-- an opening that is accepted has limits within their ceilings
within_all : (role : Role) (o : Limits) → WasOpened role o → limits_fit o ≡ true
unfolding opening_of
within_all role o h = go (limits_fit o) refl h
  where
    go : (b : Bool) → limits_fit o ≡ b → (b ⇒ record { answer = Accepted; conn = opened_conn role o Open } ∣ unopened_of role AboveCeiling).answer ≡ Accepted → limits_fit o ≡ true
    go true e p = e
    go false e p = impossible cc

-- as facts
record Tops (o : Limits) : Type 0 where
  credit : o.credit ≤ most_credit
  two_way : get_or o.counts 0 0 ≤ most_streams
  one_way : get_or o.counts 1 0 ≤ most_streams
  initial : (half : ℕ) → initial_of o half ≤ most_credit

tops : (role : Role) (o : Limits) → WasOpened role o → Tops o
unfolding limits_fit
tops role o h =
    let e = within_all role o h in
    let a = (and-eq-true_iff (leb o.credit most_credit) _).0 e in
    let b = (and-eq-true_iff (leb (get_or o.counts 0 0) most_streams) _).0 a.1 in
    let d = (and-eq-true_iff (leb (get_or o.counts 1 0) most_streams) _).0 b.1 in
    let f = (and-eq-true_iff (leb (initial_of o 0) most_credit) _).0 d.1 in
    let g = (and-eq-true_iff (leb (initial_of o 1) most_credit) _).0 f.1 in
    record { credit = leb-true _ _ a.0; two_way = leb-true _ _ b.0; one_way = leb-true _ _ d.0; initial = each (leb-true _ _ f.0) (leb-true _ _ g.0) (leb-true _ _ g.1) }
  where
    each : initial_of o 0 ≤ most_credit → initial_of o 1 ≤ most_credit → initial_of o 2 ≤ most_credit → (half : ℕ) → initial_of o half ≤ most_credit
    each x y z zero = x
    each x y z (suc zero) = y
    each x y z (suc (suc half)) = z

-- nothing is open at first
pub none_open : (role : Role) (o : Limits) (half : ℕ) → opened_of (opened_conn role o Open) half ≡ 0
none_open role o zero = refl
none_open role o (suc zero) = refl
none_open role o (suc (suc zero)) = refl
none_open role o (suc (suc (suc zero))) = refl
none_open role o (suc (suc (suc (suc half)))) = refl

first_count : (role : Role) (o : Limits) → Tops o → (half : ℕ) → count_of (opened_conn role o Open) half ≤ most_streams
unfolding count_of
first_count role o k zero = k.two_way
first_count role o k (suc zero) = omega arith
first_count role o k (suc (suc zero)) = k.one_way
first_count role o k (suc (suc (suc half))) = omega (arith, count_ours (opened_conn role o Open) (suc (suc (suc half))) (simp (ne_eqb (suc (suc (suc half))) 0 (λ e. omega arith), ne_eqb (suc (suc (suc half))) 2 (λ e. omega arith))), none_open role o (suc (suc (suc half))))

open_fits : (role : Role) (o : Limits) → WasOpened role o → Fits (opened role o).conn (opened role o).table
unfolding opened
open_fits role o h =
    let k = tops role o h in
    record {
      long = length_list 192 (λ i. fresh (initial_of o (i / 64)));
      each = λ i l. rw (table_at role o i l) (fresh_ok (opened role o).conn i (initial_of o (i / 64)) (k.initial (i / 64)) refl);
      sum = sym (sum_zero 192 (λ i. (entry_at (opened role o).table i).end) (λ i l. ap (λ (x : Entry). x.end) (table_at role o i l)));
      conn = record {
        four = refl;
        within = omega arith;
        credit_top = k.credit;
        initial_top = k.initial;
        count_top = first_count role o k;
        opened_in_law = λ half. omega (arith, none_open role o half);
      };
    }

-- ---- the table fits, always

pub always : (role : Role) (o : Limits) (h : List Event) → AllAccepted role o h → Fits (state_of role o h).conn (state_of role o h).table
unfolding state_of AllAccepted
always role o [] a = open_fits role o a
always role o (ev ∷ h) a = step_fits (state_of role o h) ev (always role o h a.0) a.1

-- ---- each entry holds what its stream's own frames named

pub record Owned (l : List End) (e : Entry) : Type 0 where
  pub end_is : e.end ≡ furthest_of l
  pub size_is : final_of e.size ≡ final_named l

owned_fresh : (n : ℕ) → Owned [] (fresh n)
unfolding furthest_of final_named
owned_fresh n = record { end_is = refl; size_is = size_none }

size_more : (l : List End) (size end : ℕ) (fin : Bool) → end ≤ most_credit → final_of size ≡ final_named l → final_of (fin ⇒ end ∣ size) ≡ (fin ⇒ Some end ∣ final_named l)
size_more l size end true m e = size_known end m
size_more l size end false m e = e

owned_more : (l : List End) (e : Entry) (end : ℕ) (fin : Bool) → end ≤ most_credit → Owned l e → Owned (record { end = end; fin = fin } ∷ l) (reached e end fin)
unfolding furthest_of final_named reached
owned_more l e end fin m w = record { end_is = ap (λ (x : ℕ). max x end) w.end_is; size_is = size_more l e.size end fin m w.size_is }

-- after an accepted STREAM or RESET_STREAM frame of the stream n
own_data : (t : List Entry) (n end : ℕ) (fin : Bool) (l : List End) (id : ℕ) → length t ≡ 192 → Has n → Has id → end ≤ most_credit → Owned l (entry_of t id) → Owned (added (eqb n id) (record { end = end; fin = fin }) l) (entry_of (set t (place_of n) (reached (entry_of t n) end fin)) id)
own_data t n end fin l id long a b m w = go (ℕ_discrete n id) (place_is n a) (place_is id b)
  where
    go : Dec (n ≡ id) → place_of n ≡ 64 * (n % 4) + n / 4 → place_of id ≡ 64 * (id % 4) + id / 4 → Owned (added (eqb n id) (record { end = end; fin = fin }) l) (entry_of (set t (place_of n) (reached (entry_of t n) end fin)) id)
    go (yes p) x y =
        rw (eq-eqb n id p)
        (subst (λ (x : ℕ). Owned (record { end = end; fin = fin } ∷ l) (entry_of (set t (place_of x) (reached (entry_of t x) end fin)) id)) (sym p)
        (rw (get_or-set_same t (place_of id) (reached (entry_of t id) end fin) (fresh 0) (omega arith)) (owned_more l (entry_of t id) end fin m w)))
    go (no p) x y = rw (ne_eqb n id p, get_or-set_other t (place_of n) (place_of id) (reached (entry_of t n) end fin) (fresh 0) (omega arith)) w

own_raise : (t : List Entry) (n x : ℕ) (l : List End) (id : ℕ) → length t ≡ 192 → Has id → Owned l (entry_of t id) → Owned l (entry_of (set t (place_of n) (credited (entry_of t n) x)) id)
own_raise t n x l id long b w = go (ℕ_discrete (place_of id) (place_of n))
  where
    go : Dec (place_of id ≡ place_of n) → Owned l (entry_of (set t (place_of n) (credited (entry_of t n) x)) id)
    go (yes p) =
        let q : entry_at t (place_of id) ≡ entry_at t (place_of n) = ap (entry_at t) p in
        let v : Owned l (entry_of t n) = subst (λ (y : Entry). Owned l y) q w in
        rw p (rw (get_or-set_same t (place_of n) (credited (entry_of t n) x) (fresh 0) (omega (arith, place_is id b))) (record { end_is = v.end_is; size_is = v.size_is }))
    go (no p) = rw (get_or-set_other t (place_of n) (place_of id) (credited (entry_of t n) x) (fresh 0) p) w

own_same : (t : List Entry) (l : List End) (id : ℕ) → Owned l (entry_of t id) → Owned l (entry_of (set t (place_of 0) (entry_of t 0)) id)
own_same t l id w = rw (set-get_or t (place_of 0) (fresh 0)) w

-- what an accepted frame names is within the stream's credit, and so within the ceiling
named_top : (c : Conn) (t : List Entry) (id end : ℕ) (fin : Bool) → Fits c t → ends_of c (entry_of t id) id end fin ≡ Accepted → end ≤ most_credit
named_top c t id end fin f h =
    let b = has c t id end fin f h in
    let p = place_is id b in
    omega (arith, (taken c (entry_of t id) id end fin h).within, (f.each (place_of id) (omega arith)).ceiling)

own_step : (c : Conn) (t : List Entry) (ev : Event) (h : List Event) (id : ℕ) → Fits c t → ruled_of c (entry_of t (looks_at ev)) ev ≡ Accepted → Has id → Owned (own h id) (entry_of t id)
    → Owned (own (ev ∷ h) id) (entry_of (set t (place_of (looks_at ev)) (entry_after (entry_of t (looks_at ev)) ev)) id)
unfolding ruled_of entry_after verdict_of entry_heard own
own_step c t (Got (Ends n end fin)) h id f r b w = own_data t n end fin (own h id) id f.long (has c t n end fin f r) b (named_top c t n end fin f r) w
own_step c t (Got (Blocks n)) h id f r b w = own_same t (own h id) id w
own_step c t (Got (ForSender n)) h id f r b w = own_same t (own h id) id w
own_step c t (Got (Acks space largest)) h id f r b w = own_same t (own h id) id w
own_step c t (Got Closes) h id f r b w = own_same t (own h id) id w
own_step c t (Got Nothing) h id f r b w = own_same t (own h id) id w
own_step c t (Did (RaiseCredit n)) h id f r b w = own_same t (own h id) id w
own_step c t (Did (RaiseStream n x)) h id f r b w = own_raise t n x (own h id) id f.long b w
own_step c t (Did (RaiseCount ty n)) h id f r b w = own_same t (own h id) id w
own_step c t (Did (OpenNext ty)) h id f r b w = own_same t (own h id) id w
own_step c t (Gave space) h id f r b w = own_same t (own h id) id w

pub owned : (role : Role) (o : Limits) (h : List Event) (id : ℕ) → AllAccepted role o h → Has id → Owned (own h id) (entry_of (state_of role o h).table id)
unfolding state_of AllAccepted after own
owned role o [] id a b = rw (table_at role o (place_of id) (omega (arith, place_is id b))) (owned_fresh _)
owned role o (ev ∷ h) id a b = own_step (state_of role o h).conn (state_of role o h).table ev h id (always role o h a.0) (passes (state_of role o h) ev a.1) b (owned role o h id a.0 b)

-- a stream without an entry has no accepted frame
own_not : (n end : ℕ) (fin : Bool) (l : List End) (id : ℕ) → Has n → (Has id → ⊥) → l ≡ [] → added (eqb n id) (record { end = end; fin = fin }) l ≡ []
own_not n end fin l id a b e = rw (ne_eqb n id (λ p. b (subst Has p a))) e

none_step : (c : Conn) (t : List Entry) (ev : Event) (h : List Event) (id : ℕ) → Fits c t → ruled_of c (entry_of t (looks_at ev)) ev ≡ Accepted → (Has id → ⊥) → own h id ≡ [] → own (ev ∷ h) id ≡ []
unfolding ruled_of verdict_of own
none_step c t (Got (Ends n end fin)) h id f r b e = own_not n end fin (own h id) id (has c t n end fin f r) b e
none_step c t (Got (Blocks n)) h id f r b e = e
none_step c t (Got (ForSender n)) h id f r b e = e
none_step c t (Got (Acks space largest)) h id f r b e = e
none_step c t (Got Closes) h id f r b e = e
none_step c t (Got Nothing) h id f r b e = e
none_step c t (Did call) h id f r b e = e
none_step c t (Gave space) h id f r b e = e

pub unowned : (role : Role) (o : Limits) (h : List Event) (id : ℕ) → AllAccepted role o h → (Has id → ⊥) → own h id ≡ []
unfolding AllAccepted own
unowned role o [] id a b = refl
unowned role o (ev ∷ h) id a b = none_step (state_of role o h).conn (state_of role o h).table ev h id (always role o h a.0) (passes (state_of role o h) ev a.1) b (unowned role o h id a.0 b)
