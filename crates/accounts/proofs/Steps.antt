-- An accepted frame or call keeps the table fitting: each event sets one entry, grows the total by what the entry grew, and closes no stream.
-- Assumes nothing.
use Prim.Native.Nat.{ℕ, zero, suc, ◌+◌, ◌-◌, ◌*◌, ◌/◌, ◌%◌, ◌≤◌, ◌<◌, max, ◌^◌}
use mathlib.Core.Path.{◌≡◌, refl, sym, ◌∙◌, ap, subst}
use mathlib.Core.Bool.{Bool, true, false, ◌&&◌, ◌||◌, not, and-eq-true_iff}
use mathlib.Core.List.{List}
use mathlib.Core.Logic.{◌⊎◌, inl, inr, ⊎_elim}
use native.Mathlib.Omega.{arith}
use native.Mathlib.Decide.{dec_le}
use lib.ListN.{set, length, length-set}
use lib.Seq.{set-get_or, get_or-set_same}
use lib.Dec.{ltb, leb, eqb}
use borrow.Author.Tests.{lt-ltb, le-leb, ltb-true, ltb-false, leb-false, eqb-true, not-true, not-false}
use Rattle.answers.specs.Choice.{◌⇒◌∣◌}
use Rattle.answers.specs.declared.Answer.TheVariants.{Accepted, StreamLimit, StreamState, Closed, NotAbove, AboveCeiling, NotServed, SizeKnown, DoesNotFit}
use Rattle.answers.proofs.Accepts.{passed}
use Rattle.answers.proofs.Distinct.{impossible}
use Rattle.streams.specs.declared.Conn.{Conn}
use Rattle.entries.specs.declared.Entry.{Entry}
use Rattle.streams.specs.declared.Mark.{Mark}
use Rattle.streams.specs.declared.Mark.TheVariants.{ByPeer}
use Rattle.kinds.specs.declared.Space.{Space}
use Rattle.halves.specs.Stream.{stream_of, id_of, peers, receives, sends, most_streams, place_of}
use Rattle.entries.specs.Entry.{most_credit, final_of, is_known, fresh, reached, credited, entry_of}
use Rattle.streams.specs.Conn.{is_open, marked_as, limited_to, initial_of, with_credit, with_count, opened_of, count_of, open_to, handed_on}
use Rattle.rules.specs.declared.View.TheVariants.{Ends, Blocks, ForSender, Acks, Closes, Nothing}
use Rattle.rules.specs.Rules.{rule1, rule2, against, rule3, ends_of, blocked_of, for_sender_of}
use Rattle.verdicts.specs.Verdict.{verdict_of, conn_heard, entry_heard}
use Rattle.rules.proofs.Taken as rules
use Rattle.calls.specs.declared.Call.TheVariants.{RaiseCredit, RaiseStream, RaiseCount, OpenNext}
use Rattle.calls.specs.Calls.{raise_of, peers_type, ours_type, reply_of}
use Rattle.replies.specs.Replies.{next_of}
use Rattle.limits.specs.Fits.{fits}
use Rattle.accounts.specs.History.{Event, looks_at, ruled_of, conn_after, entry_after, State, hands_out, answer_of, after}
use Rattle.accounts.specs.History.Event.{Got, Did, Gave}
use Rattle.accounts.proofs.Tests.{and_false, or_true, or_false, Has, place_is, place_none, size_known}
use Rattle.accounts.proofs.Fits.{EntryOk, ConnOk, Fits, Grows, kept}
use Rattle.accounts.proofs.Halves.{count_peers, count_ours, set_at}
use Rattle.std.specs.Prelude.{Option, Some}

-- ---- a stream opened

module _ (c : Conn) (id n : ℕ) where
  abbrev to : ℕ
  to = max (opened_of c (id % 4)) (id / 4 + 1)

  -- what is open of a half then: what was, or up to the stream
  opens_to : (half : ℕ) → ((half ≡ id % 4) × (opened_of (open_to c id n) half ≡ to)) ⊎ (opened_of (open_to c id n) half ≡ opened_of c half)
  opens_to half = set_at c.opened (id % 4) half to

  pub open_grows : Grows c (open_to c id n)
  open_grows = record { opens = λ half. ⊎_elim (λ w. omega (arith, w.1, ap (opened_of c) w.0)) (λ w. omega (arith, w)) (opens_to half); inits = λ half. refl }

  pub open_at : (half : ℕ) → length c.opened ≡ 4 → id % 4 ≡ half → id / 4 < opened_of (open_to c id n) half
  open_at half four e = omega (arith, ap (opened_of (open_to c id n)) e, get_or-set_same c.opened (id % 4) to 0 (omega arith))

  -- below the ceiling, and below the count where the peer opens them
  open_conn : ConnOk c → n ≤ c.limits.credit → id / 4 < 64 → (peers (id % 4) ≡ true → id / 4 < count_of c (id % 4)) → ConnOk (open_to c id n)
  open_conn k l low below = record {
    four = length-set c.opened (id % 4) to ∙ k.four;
    within = l;
    credit_top = k.credit_top;
    initial_top = k.initial_top;
    count_top = λ half. (by half (peers half) refl).0;
    opened_in_law = λ half. (by half (peers half) refl).1;
  }
    where
      by : (half : ℕ) (b : Bool) → peers half ≡ b → (count_of (open_to c id n) half ≤ 64) × (opened_of (open_to c id n) half ≤ count_of (open_to c id n) half)
      by half true p =
          let d = count_peers (open_to c id n) half p in
          let e = count_peers c half p in
          (omega (arith, k.count_top half), ⊎_elim (λ w. omega (arith, w.1, k.opened_in_law half, ap (count_of c) w.0, ap (opened_of c) w.0, below (ap peers (sym w.0) ∙ p))) (λ w. omega (arith, w, k.opened_in_law half)) (opens_to half))
      by half false p =
          let d = count_ours (open_to c id n) half p in
          let e = count_ours c half p in
          (⊎_elim (λ w. omega (arith, w.1, ap (opened_of c) w.0, k.count_top half)) (λ w. omega (arith, w, k.count_top half)) (opens_to half), omega arith)

  -- below the count of its half
  open_below : ConnOk c → n ≤ c.limits.credit → id / 4 < count_of c (id % 4) → ConnOk (open_to c id n)
  open_below k l h = open_conn k l (omega (arith, k.count_top (id % 4))) (λ p. h)

-- ---- the rules

pub may : (n id : ℕ) → rule1 n (stream_of id) ≡ false → rule2 n (stream_of id) ≡ false → (id % 4 < 3) × (id / 4 < n)
unfolding rule1 rule2
may n id a b =
    let w = or_false (not (ltb (id % 4) 3)) (not (peers (id % 4)) && leb n (id / 4)) a in
    (ltb-true (id % 4) 3 (not-false _ w.0), go (dec_le n (id / 4)) w.1)
  where
    go : Dec (n ≤ id / 4) → not (peers (id % 4)) && leb n (id / 4) ≡ false → id / 4 < n
    go (no l) e = omega arith
    go (yes l) e =
        let x = and_false (not (peers (id % 4))) (leb n (id / 4)) e (le-leb n (id / 4) l) in
        let y = and_false (peers (id % 4)) (leb n (id / 4)) b (le-leb n (id / 4) l) in
        impossible cc

pub record Taken (c : Conn) (e : Entry) (id end : ℕ) (fin : Bool) : Type 0 where
  pub kind : id % 4 < 3
  pub below : id / 4 < count_of c (id % 4)
  pub size_free : rule3 (final_of e.size) e.end end fin ≡ false
  pub within : end ≤ e.credit
  pub room : c.total + (end - e.end) ≤ c.limits.credit

pub taken : (c : Conn) (e : Entry) (id end : ℕ) (fin : Bool) → ends_of c e id end fin ≡ Accepted → Taken c e id end fin
taken c e id end fin h =
    let t = rules.taken c e id end fin h in
    let m = may (count_of c (id % 4)) id t.state t.limit in
    record { kind = m.0; below = m.1; size_free = t.size; within = t.within; room = t.room }

-- an accepted frame names a stream that has an entry
pub has : (c : Conn) (t : List Entry) (id end : ℕ) (fin : Bool) → Fits c t → ends_of c (entry_of t id) id end fin ≡ Accepted → Has id
has c t id end fin f h = let v = taken c (entry_of t id) id end fin h in (v.kind, omega (arith, f.conn.count_top (id % 4), v.below))

-- a final size is the end, after an accepted frame too
size_kept : (size end x n : ℕ) (fin : Bool) → end ≤ most_credit → ((m : ℕ) → final_of size ≡ Some m → m ≡ x) → rule3 (final_of size) x end fin ≡ false → final_of (fin ⇒ end ∣ size) ≡ Some n → n ≡ max x end
unfolding rule3
size_kept size end x n true l h r e =
    let k : final_of end ≡ Some end = size_known end l in
    let p : end ≡ n = cc in
    omega (arith, ltb-false end x (or_false (against (final_of size) end true) (ltb end x) r).1)
size_kept size end x n false l h r e =
    let q : against (Some n) end false || false ≡ false = ap (λ (f : Option ℕ). against f end false || false) (sym e) ∙ r in
    omega (arith, h n e, ltb-false n end (or_false (ltb n end) false (or_false (ltb n end || false) false q).0).0)

pub accept : (c : Conn) (t : List Entry) (id end : ℕ) (fin : Bool) → Fits c t → ends_of c (entry_of t id) id end fin ≡ Accepted
    → Fits (open_to c id (c.total + (end - (entry_of t id).end))) (set t (place_of id) (reached (entry_of t id) end fin))
unfolding reached
accept c t id end fin f h =
    let v = taken c (entry_of t id) id end fin h in
    let p = place_is id (has c t id end fin f h) in
    let top = f.conn.count_top (id % 4) in
    let b = f.each (place_of id) (omega arith) in
    kept c (open_to c id (c.total + (end - (entry_of t id).end))) t (place_of id) (reached (entry_of t id) end fin) f (open_grows c id _) (omega arith)
    (record {
      within = omega (arith, v.within, b.within);
      size_is = λ n e. size_kept (entry_of t id).size end (entry_of t id).end n fin (omega (arith, v.within, b.ceiling)) b.size_is v.size_free e;
      unopened = λ l. absurd (omega (arith, open_at c id (c.total + (end - (entry_of t id).end)) (place_of id / 64) f.conn.four (omega arith)));
      ceiling = b.ceiling;
    })
    (omega arith)
    (open_below c id _ f.conn v.room v.below)

-- ---- those that leave the entries

entry_grows : (c d : Conn) (i : ℕ) (e : Entry) → Grows c d → EntryOk c i e → EntryOk d i e
entry_grows c d i e g b = record {
  within = b.within;
  size_is = b.size_is;
  unopened = λ u. b.unopened (omega (arith, g.opens (i / 64))) ∙ ap fresh (sym (g.inits (i / 64)));
  ceiling = b.ceiling;
}

leaves : (c d : Conn) (t : List Entry) → Fits c t → Grows c d → d.total ≡ c.total → ConnOk d → Fits d (set t (place_of 0) (entry_of t 0))
leaves c d t f g e k =
    let l : place_of 0 < 192 = omega (arith, place_none) in
    kept c d t (place_of 0) (entry_of t 0) f g l (entry_grows c d (place_of 0) (entry_of t 0) g (f.each (place_of 0) l)) (omega arith) k

same_grows : (c : Conn) → Grows c c
same_grows c = record { opens = λ half. omega arith; inits = λ half. refl }

touch : (c : Conn) (t : List Entry) (id : ℕ) → Fits c t → ConnOk (open_to c id c.total) → Fits (open_to c id c.total) (set t (place_of 0) (entry_of t 0))
touch c t id f k = leaves c (open_to c id c.total) t f (open_grows c id c.total) refl k

pub blocks_below : (c : Conn) (id : ℕ) → blocked_of c id ≡ Accepted → id / 4 < count_of c (id % 4)
unfolding blocked_of
blocks_below c id h =
    let a = passed (rule1 (count_of c (id % 4)) (stream_of id)) StreamState _ refl h in
    let b = passed (rule2 (count_of c (id % 4)) (stream_of id)) StreamLimit Accepted refl a.1 in
    (may (count_of c (id % 4)) id a.0 b.0).1

block : (c : Conn) (t : List Entry) (id : ℕ) → Fits c t → blocked_of c id ≡ Accepted → Fits (open_to c id c.total) (set t (place_of 0) (entry_of t 0))
block c t id f h = touch c t id f (open_below c id c.total f.conn f.conn.within (blocks_below c id h))

pub send_below : (c : Conn) (id : ℕ) → for_sender_of c id ≡ Accepted → id / 4 < count_of c (id % 4)
unfolding for_sender_of rule2
send_below c id h = go (dec_le (count_of c (id % 4)) (id / 4))
  where
    go : Dec (count_of c (id % 4) ≤ id / 4) → id / 4 < count_of c (id % 4)
    go (no l) = omega arith
    go (yes l) =
        let a = passed (not (sends (id % 4))) StreamState _ refl h in
        let b = passed (not (peers (id % 4)) && leb (count_of c (id % 4)) (id / 4)) StreamState _ refl a.1 in
        let d = passed (peers (id % 4) && leb (count_of c (id % 4)) (id / 4)) StreamLimit Accepted refl b.1 in
        let x = and_false (not (peers (id % 4))) (leb (count_of c (id % 4)) (id / 4)) b.0 (le-leb (count_of c (id % 4)) (id / 4) l) in
        let y = and_false (peers (id % 4)) (leb (count_of c (id % 4)) (id / 4)) d.0 (le-leb (count_of c (id % 4)) (id / 4) l) in
        impossible cc

send : (c : Conn) (t : List Entry) (id : ℕ) → Fits c t → for_sender_of c id ≡ Accepted → Fits (open_to c id c.total) (set t (place_of 0) (entry_of t 0))
send c t id f h = touch c t id f (open_below c id c.total f.conn f.conn.within (send_below c id h))

-- ---- parts that a table's fit does not look at: the mark, and the next packet numbers

mark_conn : (c : Conn) (m : Mark) → ConnOk c → ConnOk (marked_as c m)
unfolding count_of
mark_conn c m k = record { four = k.four; within = k.within; credit_top = k.credit_top; initial_top = k.initial_top; count_top = k.count_top; opened_in_law = k.opened_in_law }

mark_grows : (c : Conn) (m : Mark) → Grows c (marked_as c m)
mark_grows c m = record { opens = λ half. omega arith; inits = λ half. refl }

close : (c : Conn) (t : List Entry) (m : Mark) → Fits c t → Fits (marked_as c m) (set t (place_of 0) (entry_of t 0))
close c t m f = leaves c (marked_as c m) t f (mark_grows c m) refl (mark_conn c m f.conn)

pub mark_fits : (c : Conn) (t : List Entry) (m : Mark) → Fits c t → Fits (marked_as c m) t
mark_fits c t m f = subst (λ (x : List Entry). Fits (marked_as c m) x) (set-get_or t (place_of 0) (fresh 0)) (close c t m f)

hand_conn : (c : Conn) (space : Space) → ConnOk c → ConnOk (handed_on c space)
unfolding count_of
hand_conn c space k = record { four = k.four; within = k.within; credit_top = k.credit_top; initial_top = k.initial_top; count_top = k.count_top; opened_in_law = k.opened_in_law }

hand_out : (c : Conn) (t : List Entry) (space : Space) → Fits c t → Fits (handed_on c space) (set t (place_of 0) (entry_of t 0))
hand_out c t space f = leaves c (handed_on c space) t f (record { opens = λ half. omega arith; inits = λ half. refl }) refl (hand_conn c space f.conn)

-- ---- local calls

raised : (present new ceiling : ℕ) → raise_of present new ceiling ≡ Accepted → (present < new) × (new ≤ ceiling)
unfolding raise_of
raised present new ceiling h =
    let a = passed (ltb ceiling new) AboveCeiling _ refl h in
    let b = passed (leb new present) NotAbove Accepted refl a.1 in
    (leb-false _ _ b.0, ltb-false _ _ a.0)

credit_conn : (c : Conn) (n : ℕ) → ConnOk c → c.limits.credit ≤ n → n ≤ most_credit → ConnOk (limited_to c (with_credit c.limits n))
unfolding count_of
credit_conn c n k l m = record { four = k.four; within = omega (arith, k.within); credit_top = m; initial_top = initials; count_top = k.count_top; opened_in_law = k.opened_in_law }
  where
    initials : (half : ℕ) → initial_of (with_credit c.limits n) half ≤ most_credit
    initials zero = k.initial_top 0
    initials (suc zero) = k.initial_top 1
    initials (suc (suc half)) = k.initial_top 2

initials_same : (c : Conn) (n half : ℕ) → initial_of (with_credit c.limits n) half ≡ initial_of c.limits half
initials_same c n zero = refl
initials_same c n (suc zero) = refl
initials_same c n (suc (suc half)) = refl

raise_credit : (c : Conn) (t : List Entry) (n : ℕ) → Fits c t → raise_of c.limits.credit n most_credit ≡ Accepted → Fits (limited_to c (with_credit c.limits n)) (set t (place_of 0) (entry_of t 0))
raise_credit c t n f h =
    let r = raised c.limits.credit n most_credit h in
    leaves c (limited_to c (with_credit c.limits n)) t f (record { opens = λ half. omega arith; inits = initials_same c n }) refl (credit_conn c n f.conn (omega arith) r.1)

reply_credit : (c : Conn) (e : Entry) (n : ℕ) → reply_of c e (RaiseCredit n) ≡ Accepted → raise_of c.limits.credit n most_credit ≡ Accepted
unfolding reply_of
reply_credit c e n h = h

-- the peer's halves are 0 and 2
pub peers_two : (half : ℕ) → peers half ≡ true → (half ≡ 0) ⊎ (half ≡ 2)
peers_two half p = ⊎_elim (λ e. inl (eqb-true half 0 e)) (λ e. inr (eqb-true half 2 e)) (or_true (eqb half 0) (eqb half 2) p)

pub same_half : (a b : ℕ) → peers a ≡ true → peers b ≡ true → a / 2 ≡ b / 2 → a ≡ b
same_half a b p q e = ⊎_elim (λ x. ⊎_elim (λ y. omega arith) (λ y. omega arith) (peers_two b q)) (λ x. ⊎_elim (λ y. omega arith) (λ y. omega arith) (peers_two b q)) (peers_two a p)

count_conn : (c : Conn) (ty n : ℕ) → ConnOk c → peers (ty % 4) ≡ true → count_of c (ty % 4) < n → n ≤ most_streams → ConnOk (limited_to c (with_count c.limits (ty % 4) n))
count_conn c ty n k q low top = record { four = k.four; within = k.within; credit_top = k.credit_top; initial_top = initials; count_top = λ half. (by half (peers half) refl).0; opened_in_law = λ half. (by half (peers half) refl).1 }
  where
    initials : (half : ℕ) → initial_of (with_count c.limits (ty % 4) n) half ≤ most_credit
    initials zero = k.initial_top 0
    initials (suc zero) = k.initial_top 1
    initials (suc (suc half)) = k.initial_top 2

    by : (half : ℕ) (b : Bool) → peers half ≡ b → (count_of (limited_to c (with_count c.limits (ty % 4) n)) half ≤ 64) × (opened_of c half ≤ count_of (limited_to c (with_count c.limits (ty % 4) n)) half)
    by half true p =
        let x = count_peers (limited_to c (with_count c.limits (ty % 4) n)) half p in
        let y = count_peers c half p in
        ⊎_elim (λ w. let e = same_half half (ty % 4) p q w.0 in (omega (arith, w.1), omega (arith, w.1, k.opened_in_law half, ap (count_of c) e)))
        (λ w. (omega (arith, w, k.count_top half), omega (arith, w, k.opened_in_law half)))
        (set_at c.limits.counts (ty % 4 / 2) (half / 2) n)
    by half false p =
        let x = count_ours (limited_to c (with_count c.limits (ty % 4) n)) half p in
        let y = count_ours c half p in
        (omega (arith, k.count_top half), omega arith)

count_inits : (c : Conn) (ty n half : ℕ) → initial_of (with_count c.limits (ty % 4) n) half ≡ initial_of c.limits half
count_inits c ty n zero = refl
count_inits c ty n (suc zero) = refl
count_inits c ty n (suc (suc half)) = refl

raise_count : (c : Conn) (t : List Entry) (e : Entry) (ty n : ℕ) → Fits c t → reply_of c e (RaiseCount ty n) ≡ Accepted → Fits (limited_to c (with_count c.limits (ty % 4) n)) (set t (place_of 0) (entry_of t 0))
unfolding reply_of
raise_count c t e ty n f h =
    let a = passed (not (peers_type ty)) NotServed _ refl h in
    let b = raised (count_of c (ty % 4)) n most_streams a.1 in
    let q = ((and-eq-true_iff (ltb ty 4) (peers (ty % 4))).0 (not-false _ a.0)).1 in
    leaves c (limited_to c (with_count c.limits (ty % 4) n)) t f (record { opens = λ half. omega arith; inits = count_inits c ty n }) refl (count_conn c ty n f.conn q b.0 b.1)

open_next : (c : Conn) (t : List Entry) (e : Entry) (ty : ℕ) → Fits c t → reply_of c e (OpenNext ty) ≡ Accepted → Fits (open_to c (next_of c ty) c.total) (set t (place_of 0) (entry_of t 0))
unfolding reply_of id_of
open_next c t e ty f h =
    let a = passed (not (ours_type ty)) NotServed _ refl h in
    let b = passed (leb most_streams (opened_of c (ty % 4))) AboveCeiling Accepted refl a.1 in
    let p = (and-eq-true_iff (ltb ty 4) (not (peers (ty % 4)))).0 (not-false _ a.0) in
    let l : opened_of c (ty % 4) < 64 = leb-false most_streams (opened_of c (ty % 4)) b.0 in
    let i : next_of c ty ≡ 4 * opened_of c (ty % 4) + ty % 4 = rw (lt-ltb (ty % 4) 4 (omega arith), lt-ltb (opened_of c (ty % 4)) (2 ^ 60) (omega arith)) refl in
    let m : next_of c ty % 4 ≡ ty % 4 = omega arith in
    touch c t (next_of c ty) f (open_conn c (next_of c ty) c.total f.conn f.conn.within (omega arith) (λ q. let x = not-true (peers (ty % 4)) p.1 in let y = ap peers (sym m) ∙ q in impossible cc))

-- a raised stream is open, and so it has an entry
pub raise_has : (c : Conn) (e : Entry) (id n : ℕ) → ConnOk c → reply_of c e (RaiseStream id n) ≡ Accepted → Has id × (id / 4 < opened_of c (id % 4)) × (e.credit < n) × (n ≤ most_credit)
unfolding reply_of
raise_has c e id n k h =
    let a = passed (not (receives (id % 4)) || leb (opened_of c (id % 4)) (id / 4)) NotServed _ refl h in
    let b = passed (is_known (final_of e.size)) SizeKnown _ refl a.1 in
    let d = raised e.credit n most_credit b.1 in
    let w = or_false (not (receives (id % 4))) (leb (opened_of c (id % 4)) (id / 4)) a.0 in
    let ty = ltb-true (id % 4) 3 (not-false _ w.0) in
    let o = leb-false (opened_of c (id % 4)) (id / 4) w.1 in
    ((ty, omega (arith, k.count_top (id % 4), k.opened_in_law (id % 4))), o, d.0, d.1)

raise_stream : (c : Conn) (t : List Entry) (id n : ℕ) → Fits c t → reply_of c (entry_of t id) (RaiseStream id n) ≡ Accepted → Fits c (set t (place_of id) (credited (entry_of t id) n))
raise_stream c t id n f h =
    let r = raise_has c (entry_of t id) id n f.conn h in
    let i = place_is id r.0 in
    let p : place_of id / 64 ≡ id % 4 = omega arith in
    let l : place_of id < 192 = omega arith in
    let e = f.each (place_of id) l in
    kept c c t (place_of id) _ f (same_grows c) l
    (record {
      within = omega (arith, e.within);
      size_is = e.size_is;
      unopened = λ u. absurd (omega (arith, ap (opened_of c) p));
      ceiling = r.3;
    })
    refl
    f.conn

-- ---- every event

-- an accepted event was let pass by its rules
pub passes : (s : State) (ev : Event) → answer_of s ev ≡ Accepted → ruled_of s.conn (entry_of s.table (looks_at ev)) ev ≡ Accepted
unfolding answer_of
passes s ev h = go (hands_out ev) h
  where
    go : (b : Bool) → (b ⇒ ruled_of s.conn (entry_of s.table (looks_at ev)) ev ∣ not (fits s.conn s.table) ⇒ DoesNotFit ∣ not (is_open s.conn.mark) ⇒ Closed ∣ ruled_of s.conn (entry_of s.table (looks_at ev)) ev) ≡ Accepted
        → ruled_of s.conn (entry_of s.table (looks_at ev)) ev ≡ Accepted
    go true e = e
    go false e = (passed (not (is_open s.conn.mark)) Closed _ refl (passed (not (fits s.conn s.table)) DoesNotFit _ refl e).1).1

event : (c : Conn) (t : List Entry) (ev : Event) → Fits c t → ruled_of c (entry_of t (looks_at ev)) ev ≡ Accepted
    → Fits (conn_after c (entry_of t (looks_at ev)) ev) (set t (place_of (looks_at ev)) (entry_after (entry_of t (looks_at ev)) ev))
unfolding ruled_of conn_after entry_after verdict_of conn_heard entry_heard
event c t (Got (Ends id end fin)) f h = accept c t id end fin f h
event c t (Got (Blocks id)) f h = block c t id f h
event c t (Got (ForSender id)) f h = send c t id f h
event c t (Got (Acks space largest)) f h = leaves c c t f (same_grows c) refl f.conn
event c t (Got Closes) f h = close c t ByPeer f
event c t (Got Nothing) f h = leaves c c t f (same_grows c) refl f.conn
event c t (Did (RaiseCredit n)) f h = raise_credit c t n f (reply_credit c _ n h)
event c t (Did (RaiseStream id n)) f h = raise_stream c t id n f h
event c t (Did (RaiseCount ty n)) f h = raise_count c t _ ty n f h
event c t (Did (OpenNext ty)) f h = open_next c t _ ty f h
event c t (Gave space) f h = hand_out c t space f

-- whatever is accepted leaves a table that fits
pub step_fits : (s : State) (ev : Event) → Fits s.conn s.table → answer_of s ev ≡ Accepted → Fits (after s ev).conn (after s ev).table
unfolding after
step_fits s ev f h = event s.conn s.table ev f (passes s ev h)
