-- Demand 3 of the host's calls, packets included: what the host keeps is the state of the history of what was accepted, by Lifted, and of histories crate accounts has it.
-- A packet that leaves the connection open has walked over all its frames.
-- Assumes nothing.
use Prim.Native.Nat.{ℕ, zero, suc, ◌+◌, ◌-◌, ◌*◌, ◌^◌}
use mathlib.Core.Path.{◌≡◌, refl, sym, ◌∙◌, ap, subst}
use mathlib.Core.Bool.{Bool, true, false, not}
use mathlib.Core.List.{List, [], ◌∷◌, ◌++◌}
use native.Mathlib.Omega.{arith}
use lib.ListN.{length}
use lib.Dec.{ltb, leb, eqb}
use borrow.Author.Tests.{le-ltb, le-leb, not-true, not-false}
use Rattle.kinds.specs.declared.Role.{Role}
use Rattle.answers.specs.Choice.{◌⇒◌∣◌}
use Rattle.answers.specs.Answers.{number_of, accepts}
use Rattle.answers.specs.declared.Answer.{Answer}
use Rattle.answers.specs.declared.Answer.TheVariants.{Accepted, DoesNotFit}
use Rattle.answers.proofs.Accepts.{accepts_true}
use Rattle.answers.proofs.Choice.{holds}
use Rattle.answers.proofs.Distinct.{impossible}
use Rattle.frames.specs.declared.Frame.{Frame}
use Rattle.frames.specs.declared.Frame.TheVariants.{Stream, ResetStream}
use Rattle.kinds.specs.declared.Kind.{Kind}
use Rattle.kinds.specs.declared.Kind.TheVariants.{OneRtt}
use Rattle.frames.specs.declared.Reading.{Reading}
use Rattle.frames.specs.Reading.{frame_at}
use Rattle.frames.proofs.Sound.{frame_got}
use Rattle.roundtrip.proofs.Readers.{stream_end}
use Rattle.entries.specs.declared.Entry.{Entry}
use Rattle.streams.specs.declared.Called.{Called}
use Rattle.streams.specs.declared.Conn.{Conn}
use Rattle.streams.specs.declared.Limits.{Limits}
use Rattle.streams.specs.declared.Mark.TheVariants.{Open, Code}
use Rattle.kinds.specs.declared.Space.{Space}
use Rattle.halves.specs.Seat.{seated_of}
use Rattle.halves.specs.Stream.{half_of}
use Rattle.entries.specs.Entry.{most_credit, entry_at, entry_of, final_of}
use Rattle.streams.specs.Conn.{is_open, opened_of, count_of, next_of, handed_out_of}
use Rattle.calls.specs.declared.Call.{Call}
use Rattle.calls.specs.declared.Call.TheVariants.{OpenNext}
use Rattle.replies.specs.declared.Replied.{Replied}
use Rattle.replies.specs.Replies as replies
use Rattle.calls.specs.Calls.{seated_call, reply_of}
use Rattle.replies.specs.Replies.{number_called, ruled_of, replied_of}
use Rattle.local.specs.Calling.{call_place, called_at}
use Rattle.rules.specs.declared.View.{View}
use Rattle.rules.specs.declared.View.TheVariants.{Ends}
use Rattle.views.specs.View.{end_of, view_of, stream_in}
use Rattle.verdicts.specs.declared.Judged.{Judged}
use Rattle.verdicts.specs.Verdict.{verdict_of, settled_of, judged_of}
use Rattle.limits.specs.Fits.{fits}
use Rattle.spaces.specs.declared.Records.{Records}
use Rattle.packets.specs.declared.Begun.{Begun}
use Rattle.receive.specs.Taking.{begun_of}
use Rattle.steps.specs.Step.{request_of, decided_of}
use Rattle.packets.specs.Begin.{refused_of, closes_of}
use Rattle.accounts.specs.History.{Event, State, answer_of, state_of, own, ruling}
use Rattle.accounts.specs.History.Event.{Got as Heard}
use Rattle.accounts.specs.Advertised.{stream_credit_by, count_by}
use Rattle.accounts.proofs.Tests.{not_both, listed_has}
use Rattle.accounts.proofs.Fits.{Fits, fits_test}
use Rattle.accounts.proofs.Steps.{mark_fits}
use Rattle.accounts.proofs.Owned.{always, owned}
use Rattle.accounts.proofs.Halves.{count_ours}
use Rattle.accounts.proofs.Advertised.{next_is, opens_next, said, credit_said}
use Rattle.accounts.proofs.Demand.{Running, verdict_is_own, neighbours_never, accounts, furthest_beyond}
use Rattle.demands.specs.Hosts.{Act, answered, acted, number_given, kept, WasHosted, hosted, host_after}
use Rattle.demands.specs.Hosts.Act.{TakeFrame, TakePacket, Make}
use Rattle.demands.specs.Heard.{Run, ended, asked, next_shown, shown_by, one_by_one, frames_in, calls_of, onto, noted, heard_after, heard_by, with_frame, frames_from, frames_of}
use Rattle.demands.specs.Packets.{NoneWaved}
use Rattle.demands.specs.Demand3.{Names, Enough, Fitted, Demand3, Independence}
use Rattle.demands.specs.Demand3.Names.{stream, reset}
use Rattle.demands.proofs.Begins.{Begins, begins}
use Rattle.demands.proofs.Begins.Begins.{goes, shuts, stays}
use Rattle.demands.proofs.Frames.{closed, decided, Live, ruled_answer, answer_is, shown_is}
use Rattle.demands.proofs.OneByOne.{found, is_live, is_frames, frames_are, header_refused, refused_shut, still_live, same_role, whole_is, next_shown_law}
use Rattle.demands.proofs.Lifted.{Follows, Lifted, open_same, four_of, role_of, lifted}
use Rattle.demands.proofs.Lifted.Follows.{same, shut}
use Rattle.demands.proofs.Fitting.{answer_fits}
use Rattle.std.specs.Prelude.{Result}
use Rattle.frames.specs.Fields.{read_as}
use Rattle.fields.specs.declared.Refusal.{Refusal}

-- ---- what is told of a history's state, and does not look at the mark, holds of that state closed

unmarked : {A : Type 0} (f : State → A) → ((s : State) (answer : Answer) (ty : ℕ) → f (closed s answer ty) ≡ f s) → (s t : State) → Follows s t → f t ≡ f s
unmarked f e s t same = refl
unmarked f e s t (shut answer ty) = e s answer ty

count_closed : (half : ℕ) (s : State) (answer : Answer) (ty : ℕ) → count_of (closed s answer ty).conn half ≡ count_of s.conn half
unfolding count_of
count_closed half s answer ty = refl

fits_same : (s t : State) → Follows s t → Fits s.conn s.table → Fits t.conn t.table
fits_same s t same f = f
fits_same s t (shut answer ty) f = mark_fits s.conn s.table (Code answer ty) f

-- ---- the answer to a frame that names an end

-- such a frame was read, and asks for that end: its offset and length do not pass 2^62-1
record Read (role : Role) (s : List ℕ) (at : ℕ) (kind : Kind) (id end : ℕ) (fin : Bool) : Type 0 where
  frame : Frame
  ty : ℕ
  next : ℕ
  reads : frame_at role s at kind ≡ read_as frame ty next
  ends : view_of role kind frame ≡ Ends id end fin

as_read : (role : Role) (s : List ℕ) (at : ℕ) (kind : Kind) (id end : ℕ) (fin : Bool) → Names role s at kind id end fin → Read role s at kind id end fin
unfolding end_of
as_read role s at kind _ _ _ (stream id offset len fin place ty next e) =
    let l = stream_end s at (frame_got role s at kind e).1 in
    record { frame = Stream id offset fin place len; ty = ty; next = next; reads = e; ends = rw (le-ltb (2 ^ 64 - 1) (offset + len) (omega arith)) refl }
as_read role s at kind _ _ _ (reset id code size ty next e) = record { frame = ResetStream id code size; ty = ty; next = next; reads = e; ends = refl }

pub settled_answer : (answer : Answer) (c : Conn) (e : Entry) (ty : ℕ) (conn : Conn) (entry : Entry) → (settled_of answer c e ty conn entry).answer ≡ answer
unfolding settled_of
settled_answer answer c e ty conn entry = holds (λ (j : Judged). j.answer ≡ answer) (accepts answer) _ _ (λ t. sym (accepts_true answer t)) (λ t. refl)

ends_answer : (h : State) → Live h → (s : List ℕ) (at : ℕ) (kind : Kind) (id end : ℕ) (fin : Bool) → Names h.conn.role s at kind id end fin → answered h (TakeFrame s at kind) ≡ answer_of h (Heard (Ends id end fin))
unfolding decided_of request_of judged_of
ends_answer h v s at kind id end fin m =
    let n = as_read h.conn.role s at kind id end fin m in
    answer_is h v s at kind ∙ ap (λ (r : Result Reading Refusal). (decided h kind at r).stepped.answer) n.reads ∙ settled_answer (verdict_of h.conn (entry_of h.table (stream_in (view_of h.conn.role kind n.frame))) (view_of h.conn.role kind n.frame)) h.conn _ n.ty _ _
    ∙ sym (ruled_answer h (view_of h.conn.role kind n.frame) v) ∙ ap (λ (w : View). answer_of h (Heard w)) n.ends

-- ---- the numbers that are handed out

handed_number : (c : Conn) (space : Space) → accepts (handed_out_of c space).answer ≡ true → (handed_out_of c space).number ≡ next_of c space
unfolding handed_out_of
handed_number c space = holds (λ (x : Called). accepts x.answer ≡ true → x.number ≡ next_of c space) (ltb most_credit (next_of c space)) _ _ (λ e a. impossible cc) (λ e a. refl)

pub called_number : (h : State) (k : Call) → accepts (answered h (Make k)) ≡ true → (number_given h (Make k) ≡ number_called h.conn (seated_call h.conn.role k)) × (reply_of h.conn (entry_at h.table (call_place h.conn k)) (seated_call h.conn.role k) ≡ Accepted)
unfolding called_at replied_of ruled_of replies.settled_of
called_number h k =
    holds (λ (x : Called). accepts x.answer ≡ true → (x.number ≡ number_called h.conn (seated_call h.conn.role k)) × (reply ≡ Accepted)) (fits h.conn h.table) _ _ (λ f.
    holds Gives (not (is_open h.conn.mark)) _ _ (λ o a. impossible cc) (λ o.
    holds Gives (accepts reply) _ _ (λ p a. (refl, accepts_true _ p)) (λ p a. absurd (not_both _ a p)))) (λ f a. impossible cc)
  where
    reply : Answer
    reply = reply_of h.conn (entry_at h.table (call_place h.conn k)) (seated_call h.conn.role k)

    Gives : Replied → Type 0
    Gives r = accepts r.called.answer ≡ true → (r.called.number ≡ number_called h.conn (seated_call h.conn.role k)) × (reply ≡ Accepted)

stream_number : (h : State) (ty : ℕ) → accepts (answered h (Make (OpenNext ty))) ≡ true → number_given h (Make (OpenNext ty)) ≡ seated_of h.conn.role (4 * count_of h.conn (half_of (seated_of h.conn.role ty)) + half_of (seated_of h.conn.role ty))
stream_number h ty a =
    let g = called_number h (OpenNext ty) a in
    let seat = seated_of h.conn.role ty in
    let p = opens_next h.conn _ seat g.1 in
    g.0 ∙ ap (seated_of h.conn.role) (next_is h.conn seat p.room ∙ ap (λ (n : ℕ). 4 * n + half_of seat) (sym (count_ours h.conn (half_of seat) p.ours)))

-- ---- calls since opening

module _ (role : Role) (o : Limits) (t : List Entry) (xs : List Act) (h : WasHosted role o t) where
  abbrev now : State
  now = host_after role o t xs

  abbrev past : List Event
  past = heard_by role o t xs

  by : Lifted role o past now
  by = lifted role o t h xs

  -- an open connection has the state of its history
  open_state : Enough role o t xs → now ≡ state_of role o past
  open_state p = open_same _ _ by.follows (ap is_open p.still_open)

  running : Enough role o t xs → Running role o past
  running p = record { two = h.two; accepted = by.accepted; still_open = subst (λ (s : State). s.conn.mark ≡ Open) (open_state p) p.still_open; enough = p.for_all }

  -- .. and every connection the role that it was opened with
  role_now : now.conn.role ≡ role
  role_now = role_of role o past now by

  fit_now : Fits now.conn now.table
  fit_now = fits_same _ _ by.follows (always role o past by.accepted)

  live_now : Enough role o t xs → Live now
  live_now p = record { fit = fit_now; still_open = ap is_open p.still_open }

  never : (x : Act) → Fitted x → answered now x ≡ DoesNotFit → ⊥
  never x g e = not_both _ (ap (λ (a : Answer). eqb (number_of a) 120) e) (answer_fits now (fits_test _ _ fit_now) x g).not_120

  -- what the state of the history says, and does not look at the mark, what the host keeps says too
  kept_same : {A : Type 0} (f : State → A) → ((s : State) (answer : Answer) (ty : ℕ) → f (closed s answer ty) ≡ f s) → f now ≡ f (state_of role o past)
  kept_same f e = unmarked f e (state_of role o past) now by.follows

pub demand3 : (role : Role) (o : Limits) (t : List Entry) (xs : List Act) → WasHosted role o t → Demand3 role o t xs
demand3 role o t xs h =
    let l = by role o t xs h in
    let past = heard_by role o t xs in
    let a = accounts role o past h.two l.accepted in
    let w = said role o past h.two l.accepted in
    record {
      total_is_sum = λ n m. kept_same role o t xs h (λ s. s.conn.total) (λ s answer ty. refl) ∙ a.total_is n m;
      none_left_out = λ id m. furthest_beyond role o past id l.accepted m;
      each_end = λ id m. kept_same role o t xs h (λ s. (entry_of s.table id).end) (λ s answer ty. refl) ∙ (owned role o past id l.accepted (listed_has id m)).end_is;
      each_size = λ id m. kept_same role o t xs h (λ s. final_of (entry_of s.table id).size) (λ s answer ty. refl) ∙ (owned role o past id l.accepted (listed_has id m)).size_is;
      credit_is = kept_same role o t xs h (λ s. s.conn.limits.credit) (λ s answer ty. refl) ∙ w.credit;
      each_credit = λ id m. kept_same role o t xs h (λ s. (entry_of s.table id).credit) (λ s answer ty. refl) ∙ credit_said role o past id l.accepted (listed_has id m);
      each_count = λ half m. kept_same role o t xs h (λ s. count_of s.conn half) (count_closed half) ∙ w.count half m;
      initial_is = kept_same role o t xs h (λ s. s.conn.limits.initial) (λ s answer ty. refl) ∙ w.initial;
      each_open = λ half m. kept_same role o t xs h (λ s. opened_of s.conn half) (λ s answer ty. refl) ∙ w.opened_is half m;
      each_next = λ space. kept_same role o t xs h (λ s. next_of s.conn space) (λ s answer ty. refl) ∙ w.next space;
      number_given_law = λ space g. handed_number (host_after role o t xs).conn space g ∙ kept_same role o t xs h (λ s. next_of s.conn space) (λ s answer ty. refl) ∙ w.next space;
      stream_given = λ ty g.
          stream_number (host_after role o t xs) ty g
          ∙ ap (λ (r : Role). seated_of r (4 * count_of (host_after role o t xs).conn (half_of (seated_of r ty)) + half_of (seated_of r ty))) (role_now role o t xs h)
          ∙ ap (λ (n : ℕ). seated_of role (4 * n + half_of (seated_of role ty))) (kept_same role o t xs h (λ s. count_of s.conn (half_of (seated_of role ty))) (count_closed (half_of (seated_of role ty))) ∙ w.count (half_of (seated_of role ty)) (omega arith));
      total_within = omega (arith, kept_same role o t xs h (λ s. s.conn.total) (λ s answer ty. refl), a.total_within);
      each_within = a.each_within;
      never_unfit = never role o t xs h;
      verdict = λ p s at kind id end fin n.
          ends_answer (host_after role o t xs) (live_now role o t xs h p) s at kind id end fin (subst (λ (r : Role). Names r s at kind id end fin) (sym (role_now role o t xs h)) n)
          ∙ subst (λ (u : State). answer_of u (Heard (Ends id end fin)) ≡ ruling (count_by o past (half_of id)) (stream_credit_by o past id) (own past id) id end fin) (sym (open_state role o t xs h p)) (verdict_is_own role o past (running role o t xs h p) id end fin);
      no_neighbour = λ p id end. neighbours_never role o past (running role o t xs h p) id end;
    }

-- the same own frames, credit and count of two connections give the same verdict on both
pub independence : Independence
independence role seat o p t u xs ys id e f a r s at place kind form end fin m n =
    (demand3 role o t xs e.was_hosted).verdict e r at kind id end fin m
    ∙ (λ j. ruling (a.count j) (a.credit j) (a.own_frames j) id end fin)
    ∙ sym ((demand3 seat p u ys f.was_hosted).verdict f s place form id end fin n)

-- ---- packets: none of the frames is waved through

-- frames after which the connection is open were all accepted
heard_whole : (k : ℕ) (h : State) → Live h → (s : List ℕ) (at : ℕ) (kind : Kind) → is_open (kept h (calls_of (one_by_one k h s at kind))).conn.mark ≡ true → (one_by_one k h s at kind).heard ≡ frames_from h.conn.role k s at kind
unfolding one_by_one frames_from kept
heard_whole zero h v s at kind = λ p. refl
heard_whole (suc k) h v s at kind =
    by_test (leb (length s) at) _ _ _ _ (λ e p. refl) (λ e.
    holds (WholeRun (with_frame (frame_at h.conn.role s at kind) [] (λ frame next. view_of h.conn.role kind frame ∷ frames_from h.conn.role k s next kind))) (not (accepts (answered h x))) _ _
    (λ a p. absurd (not_both _ p (refused_shut h v s at kind (not-true _ a))))
    (λ a. more (not-false _ a) (λ o p.
    heard_whole k (acted h x) (still_live h v s at kind (not-false _ a) o) s (next_shown at (shown_by h s at kind)) kind p
    ∙ ap (λ (r : Role). frames_from r k s (next_shown at (shown_by h s at kind)) kind) (same_role h v s at kind (not-false _ a)))))
  where
    x : Act
    x = TakeFrame s at kind

    WholeRun : List View → Run → Type 0
    WholeRun l r = is_open (kept h (calls_of r)).conn.mark ≡ true → r.heard ≡ l

    by_test : (b : Bool) (r q : Run) (l m : List View) → (b ≡ true → WholeRun l r) → (b ≡ false → WholeRun m q) → WholeRun (b ⇒ l ∣ m) (b ⇒ r ∣ q)
    by_test true r q l m f g = f refl
    by_test false r q l m f g = g refl

    further : Run
    further = one_by_one k (acted h x) s (next_shown at (shown_by h s at kind)) kind

    rest : Run
    rest = not (is_open (acted h x).conn.mark) ⇒ ended at ∣ further

    more : accepts (answered h x) ≡ true
        → (is_open (acted h x).conn.mark ≡ true → is_open (kept (acted h x) (calls_of further)).conn.mark ≡ true → further.heard ≡ frames_from h.conn.role k s (next_shown at (shown_by h s at kind)) kind)
        → is_open (kept (acted h x) (calls_of rest)).conn.mark ≡ true
        → asked h.conn.role kind (shown_by h s at kind) ++ rest.heard ≡ with_frame (frame_at h.conn.role s at kind) [] (λ frame next. view_of h.conn.role kind frame ∷ frames_from h.conn.role k s next kind)
    more a ih = holds (λ (r : Run). is_open (kept (acted h x) (calls_of r)).conn.mark ≡ true → asked h.conn.role kind (shown_by h s at kind) ++ r.heard ≡ with_frame (frame_at h.conn.role s at kind) [] (λ frame next. view_of h.conn.role kind frame ∷ frames_from h.conn.role k s next kind))
        (not (is_open (acted h x).conn.mark)) (ended at) further (λ o p. absurd (not_both _ p (not-true _ o))) (λ o p.
        let w = whole_is h v s at kind a in
        let n = next_shown_law h v s at kind a in
        ap (λ (l : List View). asked h.conn.role kind (shown_by h s at kind) ++ l) (ih (not-false _ o) p)
        ∙ ap (λ (l : List View). l ++ frames_from h.conn.role k s (next_shown at (shown_by h s at kind)) kind) (ap (asked h.conn.role kind) (shown_is h v s at kind) ∙ w.asks)
        ∙ ap (λ (m : ℕ). view_of h.conn.role kind w.frame ∷ frames_from h.conn.role k s m kind) n
        ∙ sym (ap (λ (r : Result Reading Refusal). with_frame r [] (λ frame next. view_of h.conn.role kind frame ∷ frames_from h.conn.role k s next kind)) w.reads))

frames_none : (role : Role) (k : ℕ) (s : List ℕ) (kind : Kind) → frames_from role k s (length s) kind ≡ []
unfolding frames_from
frames_none role zero s kind = refl
frames_none role (suc k) s kind = rw (le-leb (length s) (length s) (omega arith)) refl

-- a packet refused before its frames has none
none_begun : (c : Conn) (live fit : Bool) (begun : Begun) (s : List ℕ) → Begins c (length s) live fit begun → accepts begun.answer ≡ false → frames_of begun s ≡ []
unfolding closes_of refused_of
none_begun c live fit _ s (goes kind at number e) a = impossible cc
none_begun c live fit _ s (shuts e) a = frames_none _ (length s - length s) s OneRtt
none_begun c live fit _ s (stays answer q) a = frames_none _ (length s - length s) s OneRtt

packet_heard : (h : State) (rs : Records) (first : ℕ) (s : List ℕ) → length h.conn.opened ≡ 4 → is_open (acted h (TakePacket rs first s)).conn.mark ≡ true
    → (frames_in h rs first s).heard ≡ frames_of (begun_of h.conn rs h.table first s) s
packet_heard h rs first s four p = go (accepts (begun_of h.conn rs h.table first s).answer) refl
  where
    g : Begun
    g = begun_of h.conn rs h.table first s

    go : (b : Bool) → accepts g.answer ≡ b → (frames_in h rs first s).heard ≡ frames_of g s
    go true a =
        let f = frames_are h rs first s four a in
        ap (λ (r : Run). r.heard) f ∙ heard_whole (length s - g.at) h (is_live h rs first s four a) s g.at g.kind (ap (λ (r : Run). is_open (kept h (calls_of r)).conn.mark) (sym f) ∙ ap (λ (y : State). is_open y.conn.mark) (sym (is_frames h rs first s four a).state) ∙ p)
        ∙ ap (λ (c : Conn). frames_from c.role (length s - g.at) s g.at g.kind) (sym (found h rs first s four a).1)
    go false a = ap (λ (r : Run). r.heard) (header_refused h rs first s a).none ∙ sym (none_begun h.conn _ _ g s (begins h.conn rs (fits h.conn h.table) first s) a)

-- what is called first and what is called then
pub kept_then : (h : State) (xs ys : List Act) → kept h (xs ++ ys) ≡ kept (kept h xs) ys
unfolding kept
kept_then h [] ys = refl
kept_then h (x ∷ xs) ys = kept_then (acted h x) xs ys

heard_then : (h : State) (xs ys : List Act) (l : List Event) → heard_after h (xs ++ ys) l ≡ heard_after (kept h xs) ys (heard_after h xs l)
unfolding kept heard_after
heard_then h [] ys l = refl
heard_then h (x ∷ xs) ys l = heard_then (acted h x) xs ys (noted h x l)

pub none_waved : NoneWaved
unfolding kept heard_after
none_waved role o t xs rs first s h p =
    heard_then (hosted role o t) xs (TakePacket rs first s ∷ []) []
    ∙ ap (λ (l : List View). onto l (heard_by role o t xs)) (packet_heard (host_after role o t xs) rs first s (four_of role o (heard_by role o t xs) (host_after role o t xs) (lifted role o t h xs)) (ap is_open (ap (λ (x : State). x.conn.mark) (sym (kept_then (hosted role o t) xs (TakePacket rs first s ∷ []))) ∙ p)))
