-- What a table that fits is, as facts; and one lemma, `kept`, for what keeps it so: one entry set, and the total moved by its growth.
-- Assumes nothing.
use Prim.Native.Nat.{ℕ, zero, suc, ◌+◌, ◌-◌, ◌/◌, ◌%◌, ◌^◌, ◌≤◌, ◌<◌}
use mathlib.Core.Path.{◌≡◌, refl, sym, ◌∙◌, ap, subst}
use mathlib.Core.Bool.{true, ◌&&◌, ◌||◌, not, and-eq-true_iff}
use mathlib.Core.List.{List}
use mathlib.Core.Logic.{⊎_elim}
use native.Mathlib.Omega.{arith}
use native.Mathlib.Decide.{ℕ_discrete, dec_le}
use lib.ListN.{get_or, set, length, length-set, get_or-eq_default}
use lib.Seq.{get_or-set_same, get_or-set_other}
use lib.Dec.{ltb, leb, eqb}
use borrow.Author.Tests.{lt-ltb, le-ltb, le-leb, eq-eqb, ne_eqb, ltb-true, leb-true, eqb-true}
use Rattle.streams.specs.declared.Conn.{Conn}
use Rattle.entries.specs.declared.Entry.{Entry}
use Rattle.halves.specs.Stream.{most_streams}
use Rattle.entries.specs.Entry.{most_credit, final_of, is_known, fresh, entry_at}
use Rattle.streams.specs.Conn.{opened_of, count_of, initial_of}
use Rattle.streams.specs.Conn.{limits_fit}
use Rattle.limits.specs.Fits.{entry_fits, open_fit, conn_fits, sum_to, all_to, fits}
use Rattle.entries.specs.Fitting.{size_fits, is_fresh, entry_fits_as}
use Rattle.answers.proofs.Distinct.{impossible}
use Rattle.accounts.proofs.Tests.{or_true, size_none, unknown_size}
use Rattle.accounts.proofs.Halves.{count_ours}
use Rattle.accounts.proofs.Sums.{all_at, all_of, sum_at}
use Rattle.std.specs.Prelude.{Option, Some, None}

pub record EntryOk (c : Conn) (i : ℕ) (e : Entry) : Type 0 where
  pub within : e.end ≤ e.credit
  pub size_is : (n : ℕ) → final_of e.size ≡ Some n → n ≡ e.end
  pub unopened : opened_of c (i / 64) ≤ i % 64 → e ≡ fresh (initial_of c.limits (i / 64))
  pub ceiling : e.credit ≤ most_credit

-- by halves; the numbers of what is open stand in a row of four
pub record ConnOk (c : Conn) : Type 0 where
  pub four : length c.opened ≡ 4
  pub within : c.total ≤ c.limits.credit
  pub credit_top : c.limits.credit ≤ most_credit
  pub initial_top : (half : ℕ) → initial_of c.limits half ≤ most_credit
  pub count_top : (half : ℕ) → count_of c half ≤ most_streams
  pub opened_in_law : (half : ℕ) → opened_of c half ≤ count_of c half

pub record Fits (c : Conn) (t : List Entry) : Type 0 where
  pub long : length t ≡ 192
  pub each : (i : ℕ) → i < 192 → EntryOk c i (entry_at t i)
  pub sum : c.total ≡ sum_to 192 (λ i. (entry_at t i).end)
  pub conn : ConnOk c

-- ---- by tests

size_test : (f : Option ℕ) (x : ℕ) → ((n : ℕ) → f ≡ Some n → n ≡ x) → size_fits f x ≡ true
size_test None x h = refl
size_test (Some m) x h = eq-eqb m x (h m refl)

fresh_test : (e : Entry) (n : ℕ) → e ≡ fresh n → is_fresh e n ≡ true
unfolding is_fresh
fresh_test e n h = ap (λ (x : Entry). is_fresh x n) h ∙ simp (eq-eqb n n refl, size_none)

entry_test : (c : Conn) (i : ℕ) (e : Entry) → EntryOk c i e → entry_fits c i e ≡ true
unfolding entry_fits_as
entry_test c i e h = simp (le-leb _ _ h.within, size_test (final_of e.size) e.end h.size_is, le-leb _ _ h.ceiling, go (dec_le (opened_of c (i / 64)) (i % 64)))
  where
    go : Dec (opened_of c (i / 64) ≤ i % 64) → ltb (i % 64) (opened_of c (i / 64)) || is_fresh e (initial_of c.limits (i / 64)) ≡ true
    go (yes l) = simp (le-ltb _ _ l, fresh_test e (initial_of c.limits (i / 64)) (h.unopened l))
    go (no l) = simp (lt-ltb (i % 64) (opened_of c (i / 64)) (omega arith))

conn_test : (c : Conn) → ConnOk c → conn_fits c ≡ true
unfolding conn_fits limits_fit open_fit count_of
conn_test c h = simp (le-leb _ _ h.within, le-leb _ _ h.credit_top, le-leb _ _ (h.count_top 0), le-leb _ _ (h.count_top 2), le-leb _ _ (h.initial_top 0), le-leb _ _ (h.initial_top 1), le-leb _ _ (h.initial_top 2), le-leb _ _ (h.opened_in_law 0), le-leb _ _ (h.count_top 1), le-leb _ _ (h.opened_in_law 2), le-leb _ _ (h.count_top 3))

pub fits_test : (c : Conn) (t : List Entry) → Fits c t → fits c t ≡ true
unfolding fits
fits_test c t h = simp (eq-eqb _ _ h.long, all_of 192 (λ i. entry_fits c i (entry_at t i)) (λ i l. entry_test c i (entry_at t i) (h.each i l)), eq-eqb _ _ h.sum, conn_test c h.conn)

-- ---- and back: what the test finds is so, where the numbers of what is open stand in a row of four

size_fact : (f : Option ℕ) (x n : ℕ) → size_fits f x ≡ true → f ≡ Some n → n ≡ x
size_fact f x n h e = eqb-true n x (ap (λ (g : Option ℕ). size_fits g x) (sym e) ∙ h)

none_known : (size : ℕ) → not (is_known (final_of size)) ≡ true → size ≡ 2 ^ 64 - 1
none_known size h = go (final_of size) refl h
  where
    go : (f : Option ℕ) → final_of size ≡ f → not (is_known f) ≡ true → size ≡ 2 ^ 64 - 1
    go None e k = unknown_size size e
    go (Some n) e k = impossible cc

fresh_fact : (e : Entry) (n : ℕ) → is_fresh e n ≡ true → e ≡ fresh n
unfolding is_fresh
fresh_fact e n h =
    let a = (and-eq-true_iff (eqb e.credit n) (eqb e.end 0 && not (is_known (final_of e.size)))).0 h in
    let b = (and-eq-true_iff (eqb e.end 0) (not (is_known (final_of e.size)))).0 a.1 in
    λ j. record { credit = eqb-true e.credit n a.0 j; end = eqb-true e.end 0 b.0 j; size = none_known e.size b.1 j }

entry_facts : (c : Conn) (i : ℕ) (e : Entry) → entry_fits c i e ≡ true → EntryOk c i e
unfolding entry_fits_as
entry_facts c i e h =
    let untouched = is_fresh e (initial_of c.limits (i / 64)) in
    let a = (and-eq-true_iff (leb e.end e.credit) _).0 h in
    let b = (and-eq-true_iff (size_fits (final_of e.size) e.end) _).0 a.1 in
    let d = (and-eq-true_iff (ltb (i % 64) (opened_of c (i / 64)) || untouched) _).0 b.1 in
    record {
      within = leb-true _ _ a.0;
      size_is = λ n p. size_fact (final_of e.size) e.end n b.0 p;
      unopened = λ u. fresh_fact e (initial_of c.limits (i / 64)) (⊎_elim (λ l. absurd (omega (arith, ltb-true (i % 64) (opened_of c (i / 64)) l))) (λ y. y) (or_true (ltb (i % 64) (opened_of c (i / 64))) untouched d.0));
      ceiling = leb-true _ _ d.1;
    }

conn_facts : (c : Conn) → length c.opened ≡ 4 → conn_fits c ≡ true → ConnOk c
unfolding conn_fits limits_fit open_fit count_of
conn_facts c four h =
    let a = (and-eq-true_iff (leb c.total c.limits.credit) _).0 h in
    let b = (and-eq-true_iff (limits_fit c.limits) (open_fit c)).0 a.1 in
    let d = (and-eq-true_iff (leb c.limits.credit most_credit) _).0 b.0 in
    let e = (and-eq-true_iff (leb (get_or c.limits.counts 0 0) most_streams) _).0 d.1 in
    let f = (and-eq-true_iff (leb (get_or c.limits.counts 1 0) most_streams) _).0 e.1 in
    let g = (and-eq-true_iff (leb (initial_of c.limits 0) most_credit) _).0 f.1 in
    let i = (and-eq-true_iff (leb (initial_of c.limits 1) most_credit) _).0 g.1 in
    let j = (and-eq-true_iff (leb (opened_of c 0) (count_of c 0)) _).0 b.1 in
    let k = (and-eq-true_iff (leb (opened_of c 1) most_streams) _).0 j.1 in
    let l = (and-eq-true_iff (leb (opened_of c 2) (count_of c 2)) _).0 k.1 in
    record {
      four = four;
      within = leb-true _ _ a.0;
      credit_top = leb-true _ _ d.0;
      initial_top = initials (leb-true _ _ g.0) (leb-true _ _ i.0) (leb-true _ _ i.1);
      count_top = tops (leb-true _ _ e.0) (leb-true _ _ k.0) (leb-true _ _ f.0) (leb-true _ _ l.1);
      opened_in_law = within (leb-true _ _ j.0) (leb-true _ _ l.0);
    }
  where
    initials : initial_of c.limits 0 ≤ most_credit → initial_of c.limits 1 ≤ most_credit → initial_of c.limits 2 ≤ most_credit → (half : ℕ) → initial_of c.limits half ≤ most_credit
    initials x y z zero = x
    initials x y z (suc zero) = y
    initials x y z (suc (suc half)) = z

    beyond : (half : ℕ) → count_of c (suc (suc (suc half))) ≡ opened_of c (suc (suc (suc half)))
    beyond half = count_ours c (suc (suc (suc half))) (simp (ne_eqb (suc (suc (suc half))) 0 (λ e. omega arith), ne_eqb (suc (suc (suc half))) 2 (λ e. omega arith)))

    tops : get_or c.limits.counts 0 0 ≤ 64 → opened_of c 1 ≤ 64 → get_or c.limits.counts 1 0 ≤ 64 → opened_of c 3 ≤ 64 → (half : ℕ) → count_of c half ≤ 64
    tops w x y z zero = w
    tops w x y z (suc zero) = x
    tops w x y z (suc (suc zero)) = y
    tops w x y z (suc (suc (suc zero))) = z
    tops w x y z (suc (suc (suc (suc half)))) = omega (arith, beyond (suc half), get_or-eq_default c.opened 0 {n = suc (suc (suc (suc half)))} (omega arith))

    within : opened_of c 0 ≤ count_of c 0 → opened_of c 2 ≤ count_of c 2 → (half : ℕ) → opened_of c half ≤ count_of c half
    within x y zero = x
    within x y (suc zero) = omega arith
    within x y (suc (suc zero)) = y
    within x y (suc (suc (suc half))) = omega (arith, beyond half)

pub fits_facts : (c : Conn) (t : List Entry) → length c.opened ≡ 4 → fits c t ≡ true → Fits c t
unfolding fits
fits_facts c t four h =
    let a = (and-eq-true_iff (eqb (length t) 192) _).0 h in
    let b = (and-eq-true_iff (all_to 192 (λ i. entry_fits c i (entry_at t i))) _).0 a.1 in
    let d = (and-eq-true_iff (eqb c.total (sum_to 192 (λ i. (entry_at t i).end))) (conn_fits c)).0 b.1 in
    record {
      long = eqb-true _ _ a.0;
      each = λ i l. entry_facts c i (entry_at t i) (all_at 192 (λ i. entry_fits c i (entry_at t i)) b.0 i l);
      sum = eqb-true _ _ d.0;
      conn = conn_facts c four d.1;
    }

-- ---- one entry changed, and no stream closed

pub record Grows (c d : Conn) : Type 0 where
  pub opens : (half : ℕ) → opened_of c half ≤ opened_of d half
  pub inits : (half : ℕ) → initial_of d.limits half ≡ initial_of c.limits half

pub kept : (c d : Conn) (t : List Entry) (k : ℕ) (e : Entry) → Fits c t → Grows c d → k < 192 → EntryOk d k e → d.total + (entry_at t k).end ≡ c.total + e.end → ConnOk d → Fits d (set t k e)
kept c d t k e f g l ok total conn = record {
  long = length-set t k e ∙ f.long;
  each = λ i m. go i m (ℕ_discrete i k);
  sum = let s : sum_to 192 (λ i. (entry_at (set t k e) i).end) + (entry_at t k).end ≡ sum_to 192 (λ i. (entry_at t i).end) + (entry_at (set t k e) k).end
      = sum_at 192 k (λ i. (entry_at (set t k e) i).end) (λ i. (entry_at t i).end) l (λ i m x. ap (λ (y : Entry). y.end) (get_or-set_other t k i e (fresh 0) x)) in
      omega (arith, ap (λ (y : Entry). y.end) (get_or-set_same t k e (fresh 0) (omega (arith, f.long))), f.sum);
  conn = conn;
}
  where
    go : (i : ℕ) → i < 192 → Dec (i ≡ k) → EntryOk d i (entry_at (set t k e) i)
    go i m (yes p) = subst (λ (x : ℕ). EntryOk d x (entry_at (set t k e) x)) (sym p) (rw (get_or-set_same t k e (fresh 0) (omega (arith, f.long))) ok)
    go i m (no p) = rw (get_or-set_other t k i e (fresh 0) p) (let b = f.each i m in record {
      within = b.within;
      size_is = b.size_is;
      unopened = λ u. b.unopened (omega (arith, g.opens (i / 64))) ∙ ap fresh (sym (g.inits (i / 64)));
      ceiling = b.ceiling;
    })
