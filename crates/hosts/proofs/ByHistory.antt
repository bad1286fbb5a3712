-- What the connection and the table hold is what the history says (demand 3), and the answers are those of the rules on what they hold: so they are those of the rules on the history.
-- A stream whose entry a rule looks at has one: rules 1 and 2 have passed, or it is open.
-- Assumes nothing.
use Prim.Native.Nat.{ℕ, ◌/◌, ◌%◌}
use mathlib.Core.Path.{◌≡◌, refl, sym, ◌∙◌, ap}
use mathlib.Core.Bool.{Bool, true, false, not, ◌||◌, ◌&&◌}
use mathlib.Core.List.{List, []}
use native.Mathlib.Omega.{arith}
use lib.Dec.{ltb, leb}
use borrow.Author.Tests.{not-true, not-false, ltb-true, leb-false}
use Rattle.kinds.specs.declared.Role.{Role}
use Rattle.answers.specs.Choice.{◌⇒◌∣◌}
use Rattle.answers.specs.Answers.{accepts}
use Rattle.answers.specs.declared.Answer.{Answer}
use Rattle.answers.specs.declared.Answer.TheVariants.{Accepted, FlowControl, StreamLimit, StreamState, FinalSize, ProtocolViolation, Closed, AboveCeiling, NotServed, SizeKnown}
use Rattle.answers.proofs.Choice.{holds}
use Rattle.answers.proofs.Accepts.{accepts_true}
use Rattle.wire.specs.Number.{number_at}
use Rattle.frames.specs.declared.Frame.{Frame}
use Rattle.kinds.specs.declared.Kind.{Kind}
use Rattle.kinds.specs.declared.Kind.TheVariants.{OneRtt}
use Rattle.frames.specs.declared.Reading.{Reading}
use Rattle.frames.specs.Reading.{frame_at}
use Rattle.frames.proofs.Order.{unreadable}
use Rattle.halves.specs.Stream.{stream_of, peers, receives, sends, most_streams}
use Rattle.entries.specs.declared.Entry.{Entry}
use Rattle.entries.specs.Entry.{most_credit, is_known, final_of, entry_of}
use Rattle.streams.specs.declared.Called.{Called}
use Rattle.streams.specs.declared.Limits.{Limits}
use Rattle.streams.specs.declared.Mark.{Mark}
use Rattle.streams.specs.declared.Mark.TheVariants.{Open}
use Rattle.kinds.specs.declared.Space.{Space}
use Rattle.streams.specs.Conn.{is_open, count_of, opened_of, next_of, handed_out_of}
use Rattle.rules.specs.declared.View.{View}
use Rattle.rules.specs.declared.View.TheVariants.{Ends, Blocks, ForSender, Acks, Closes, Nothing}
use Rattle.views.specs.View.{view_of, stream_in}
use Rattle.rules.specs.Rules.{rule1, rule2, rule3, rule4, rule5, ends_of, blocked_of, for_sender_of}
use Rattle.verdicts.specs.Verdict.{verdict_of, judged_of}
use Rattle.calls.specs.declared.Call.{Call}
use Rattle.calls.specs.declared.Call.TheVariants.{RaiseCredit, RaiseStream, RaiseCount, OpenNext}
use Rattle.replies.specs.declared.Replied.{Replied}
use Rattle.calls.specs.Calls as calls
use Rattle.replies.specs.Replies as replies
use Rattle.calls.specs.Calls.{raise_of, peers_type, ours_type, reply_of}
use Rattle.replies.specs.Replies.{ruled_of, replied_of}
use Rattle.limits.specs.Fits.{fits}
use Rattle.spaces.specs.Spaces.{records_fit}
use Rattle.packets.specs.Begin.{refused_of, begin_of}
use Rattle.receive.specs.Taking.{begun_of}
use Rattle.steps.specs.Gate.{gate_of}
use Rattle.steps.specs.Step.{request_of, decided_of, shown_of, shown_at}
use Rattle.steps.specs.declared.Shown.TheVariants.{Nothing as Unseen, Typed, Whole}
use Rattle.local.specs.Calling.{called_at}
use Rattle.accounts.specs.History.{Event, State, own, furthest, final_named}
use Rattle.accounts.specs.Advertised.{credit_by, stream_credit_by, count_by, mark_by}
use Rattle.accounts.proofs.Tests.{or_false, not_both, Has, has_listed}
use Rattle.accounts.proofs.Fits.{Fits, fits_facts}
use Rattle.accounts.proofs.Steps.{may}
use Rattle.accounts.proofs.Advertised.{said}
use Rattle.demands.specs.Hosts.{Act, answered, WasHosted, host_after}
use Rattle.demands.specs.Hosts.Act.{TakeFrame, TakePacket, Make, HandOut}
use Rattle.demands.specs.Heard.{shown_by, heard_by}
use Rattle.demands.specs.Demand3.{Demand3}
use Rattle.demands.proofs.Frames.{decided, Live, answer_is, shown_is, barred}
use Rattle.demands.proofs.OneByOne.{header_refused}
use Rattle.demands.proofs.Lifted.{role_of, open_same, four_of, lifted}
use Rattle.demands.proofs.Proved.{settled_answer, demand3}
use Rattle.hosts.specs.ByHistory.{total_by, verdict_by, reply_by, ClosedNext, ByHistory}
use Rattle.hosts.proofs.OnlyThen.{only_then}
use Rattle.std.specs.Prelude.{Some, None, Result}
use Rattle.frames.specs.Fields.{read_as}
use Rattle.frames.specs.Fields.{refused_as}
use Rattle.fields.specs.declared.Refusal.{Refusal}

-- ---- 101

gate_shut : (fit : Bool) (mark : Mark) → fit ≡ true → is_open mark ≡ false → (accepts (gate_of fit mark) ≡ false) × (gate_of fit mark ≡ Closed)
unfolding gate_of
gate_shut fit mark e f = rw (e, f) (refl, refl)

pub closed_next : ClosedNext
unfolding begin_of refused_of called_at replied_of replies.settled_of
closed_next h (TakeFrame s at kind) f c =
    let g = gate_shut (fits h.conn h.table) h.conn.mark (not-false _ f) (not-true _ c) in
    (barred h s at kind g.0).0 ∙ g.1
closed_next h (TakePacket rs first s) f c =
    let a : (begun_of h.conn rs h.table first s).answer ≡ Closed = rw (not-false (fits h.conn h.table && records_fit rs) f, not-true (is_open h.conn.mark) c) refl in
    (header_refused h rs first s (ap accepts a)).answer ∙ a
closed_next h (Make call) f c =
    holds (λ (x : Called). x.answer ≡ Closed) (fits h.conn h.table) _ _ (λ t.
    holds (λ (r : Replied). r.called.answer ≡ Closed) (not (is_open h.conn.mark)) _ _ (λ u. refl) (λ u. absurd (not_both _ c u))) (λ t. absurd (not_both _ (not-false _ f) t))
closed_next h (HandOut space) f c = absurd (not_both _ c refl)

-- ---- on an open connection whose table fits

call_is : (h : State) → fits h.conn h.table ≡ true → is_open h.conn.mark ≡ true → (k : Call) → answered h (Make k) ≡ reply_of h.conn (entry_of h.table (calls.stream_in (calls.seated_call h.conn.role k))) (calls.seated_call h.conn.role k)
unfolding called_at replied_of ruled_of replies.settled_of
call_is h f p k =
    holds (λ (x : Called). x.answer ≡ reply) (fits h.conn h.table) _ _ (λ t.
    holds Replies (not (is_open h.conn.mark)) _ _ (λ u. absurd (not_both _ p (not-true _ u))) (λ u.
    holds Replies (accepts reply) _ _ (λ a. sym (accepts_true reply a)) (λ a. refl))) (λ t. absurd (not_both _ f t))
  where
    reply : Answer
    reply = reply_of h.conn (entry_of h.table (calls.stream_in (calls.seated_call h.conn.role k))) (calls.seated_call h.conn.role k)

    Replies : Replied → Type 0
    Replies r = r.called.answer ≡ reply

either_answer : (b : Bool) (x y : Called) → (b ⇒ x ∣ y).answer ≡ (b ⇒ x.answer ∣ y.answer)
either_answer true x y = refl
either_answer false x y = refl

handed_is : (h : State) (space : Space) → answered h (HandOut space) ≡ (ltb most_credit (next_of h.conn space) ⇒ AboveCeiling ∣ Accepted)
unfolding handed_out_of
handed_is h space = either_answer (ltb most_credit (next_of h.conn space)) _ _

-- ---- since opening

module _ (role : Role) (o : Limits) (t : List Entry) (xs : List Act) (h : WasHosted role o t) where
  abbrev now : State
  now = host_after role o t xs

  abbrev past : List Event
  past = heard_by role o t xs

  d : Demand3 role o t xs
  d = demand3 role o t xs h

  -- the role is the one that was opened with
  seat : now.conn.role ≡ role
  seat = role_of role o past now (lifted role o t h xs)

  fit : fits now.conn now.table ≡ true
  fit = go (fits now.conn now.table) refl
    where
      go : (b : Bool) → fits now.conn now.table ≡ b → fits now.conn now.table ≡ true
      go true e = e
      go false e = absurd (d.never_unfit (TakeFrame [] 0 OneRtt) tt ((only_then now (TakeFrame [] 0 OneRtt)).first_of_all (ap not e)))

  facts : Fits now.conn now.table
  facts = fits_facts now.conn now.table (four_of role o past now (lifted role o t h xs)) fit

  count : (id : ℕ) → count_of now.conn (id % 4) ≡ count_by o past (id % 4)
  count id = d.each_count (id % 4) (omega arith)

  -- ---- the state rules

  module _ (id end : ℕ) (fin : Bool) where
    n : ℕ
    n = count_of now.conn (id % 4)

    held : Answer
    held =
        rule3 (final_of (entry_of now.table id).size) (entry_of now.table id).end end fin ⇒ FinalSize
        ∣ rule4 (entry_of now.table id).credit end ⇒ FlowControl
        ∣ rule5 now.conn.limits.credit now.conn.total (entry_of now.table id).end end ⇒ FlowControl
        ∣ Accepted

    named : Answer
    named =
        rule3 (final_named (own past id)) (furthest past id) end fin ⇒ FinalSize
        ∣ rule4 (stream_credit_by o past id) end ⇒ FlowControl
        ∣ rule5 (credit_by o past) (total_by past) (furthest past id) end ⇒ FlowControl
        ∣ Accepted

    same_rules : Has id → held ≡ named
    unfolding held named
    same_rules b =
        let l = has_listed id b in
        let size = d.each_size id l in
        let furthest-is = d.each_end id l in
        let credit = d.each_credit id l in
        let total = d.total_is_sum 256 (omega arith) in
        λ j. rule3 (size j) (furthest-is j) end fin ⇒ FinalSize ∣ rule4 (credit j) end ⇒ FlowControl ∣ rule5 (d.credit_is j) (total j) (furthest-is j) end ⇒ FlowControl ∣ Accepted

    ends_by : ends_of now.conn (entry_of now.table id) id end fin ≡ verdict_by o past (Ends id end fin)
    unfolding ends_of verdict_by held named n
    ends_by = go (rule1 n (stream_of id)) refl (rule2 n (stream_of id)) refl ∙ ap (λ (m : ℕ). rule1 m (stream_of id) ⇒ StreamState ∣ rule2 m (stream_of id) ⇒ StreamLimit ∣ named) (count id)
      where
        go : (x : Bool) → rule1 n (stream_of id) ≡ x → (y : Bool) → rule2 n (stream_of id) ≡ y
            → (rule1 n (stream_of id) ⇒ StreamState ∣ rule2 n (stream_of id) ⇒ StreamLimit ∣ held) ≡ (rule1 n (stream_of id) ⇒ StreamState ∣ rule2 n (stream_of id) ⇒ StreamLimit ∣ named)
        go true a y b = simp a
        go false a true b = simp (a, b)
        go false a false b = let m = may n id a b in simp (a, b) (same_rules (m.0, omega (arith, m.1, facts.conn.count_top (id % 4))))

  verdict_by_law : (v : View) → verdict_of now.conn (entry_of now.table (stream_in v)) v ≡ verdict_by o past v
  unfolding verdict_of blocked_of for_sender_of verdict_by
  verdict_by_law (Ends id end fin) = ends_by id end fin
  verdict_by_law (Blocks id) = ap (λ (m : ℕ). rule1 m (stream_of id) ⇒ StreamState ∣ rule2 m (stream_of id) ⇒ StreamLimit ∣ Accepted) (count id)
  verdict_by_law (ForSender id) = ap (λ (m : ℕ). not (sends (id % 4)) ⇒ StreamState ∣ (not (peers (id % 4)) && leb m (id / 4)) ⇒ StreamState ∣ rule2 m (stream_of id) ⇒ StreamLimit ∣ Accepted) (count id)
  verdict_by_law (Acks space largest) = ap (λ (m : ℕ). leb m largest ⇒ ProtocolViolation ∣ Accepted) (d.each_next space)
  verdict_by_law Closes = refl
  verdict_by_law Nothing = refl

  -- ---- the local calls

  reply_by_law : (k : Call) → reply_of now.conn (entry_of now.table (calls.stream_in k)) k ≡ reply_by o past k
  unfolding reply_of reply_by
  reply_by_law (RaiseCredit new) = ap (λ (m : ℕ). raise_of m new most_credit) d.credit_is
  reply_by_law (RaiseStream id new) = go (unserved (opened_of now.conn (id % 4))) refl ∙ ap (λ (m : ℕ). unserved m ⇒ NotServed ∣ is_known (final_named (own past id)) ⇒ SizeKnown ∣ raise_of (stream_credit_by o past id) new most_credit) (d.each_open (id % 4) (omega arith))
    where
      unserved : ℕ → Bool
      unserved m = not (receives (id % 4)) || leb m (id / 4)

      open_has : unserved (opened_of now.conn (id % 4)) ≡ false → Has id
      open_has e =
          let w = or_false (not (receives (id % 4))) (leb (opened_of now.conn (id % 4)) (id / 4)) e in
          (ltb-true (id % 4) 3 (not-false _ w.0), omega (arith, leb-false (opened_of now.conn (id % 4)) (id / 4) w.1, facts.conn.count_top (id % 4), facts.conn.opened_in_law (id % 4)))

      go : (b : Bool) → unserved (opened_of now.conn (id % 4)) ≡ b
          → (unserved (opened_of now.conn (id % 4)) ⇒ NotServed ∣ is_known (final_of (entry_of now.table id).size) ⇒ SizeKnown ∣ raise_of (entry_of now.table id).credit new most_credit)
          ≡ (unserved (opened_of now.conn (id % 4)) ⇒ NotServed ∣ is_known (final_named (own past id)) ⇒ SizeKnown ∣ raise_of (stream_credit_by o past id) new most_credit)
      go true e = rw e refl
      go false e = let l = has_listed id (open_has e) in rw e (λ j. is_known (d.each_size id l j) ⇒ SizeKnown ∣ raise_of (d.each_credit id l j) new most_credit)
  reply_by_law (RaiseCount ty new) = ap (λ (m : ℕ). not (peers_type ty) ⇒ NotServed ∣ raise_of m new most_streams) (count ty)
  reply_by_law (OpenNext ty) = ap (λ (m : ℕ). not (ours_type ty) ⇒ NotServed ∣ leb most_streams m ⇒ AboveCeiling ∣ Accepted) (d.each_open (ty % 4) (omega arith))

  -- ---- all of it

  module _ (p : now.conn.mark ≡ Open) where
    live : Live now
    live = record { fit = facts; still_open = ap is_open p }

    -- a frame is read in the connection's own seat
    here : (s : List ℕ) (at : ℕ) (kind : Kind) → frame_at now.conn.role s at kind ≡ frame_at role s at kind
    here s at kind = ap (λ (r : Role). frame_at r s at kind) seat

    judged : (s : List ℕ) (at : ℕ) (kind : Kind) (frame : Frame) (ty next : ℕ) → frame_at role s at kind ≡ read_as frame ty next → answered now (TakeFrame s at kind) ≡ verdict_by o past (view_of role kind frame)
    unfolding decided_of request_of judged_of
    judged s at kind frame ty next e =
        answer_is now live s at kind ∙ ap (λ (r : Result Reading Refusal). (decided now kind at r).stepped.answer) (here s at kind ∙ e)
        ∙ settled_answer (verdict_of now.conn (entry_of now.table (stream_in (view_of now.conn.role kind frame))) (view_of now.conn.role kind frame)) now.conn _ ty _ _
        ∙ verdict_by_law (view_of now.conn.role kind frame) ∙ ap (λ (r : Role). verdict_by o past (view_of r kind frame)) seat

    -- a reading that is refused does not accept
    unread : (s : List ℕ) (at : ℕ) (kind : Kind) (answer : Answer) (ty : ℕ) → frame_at role s at kind ≡ refused_as answer ty → answered now (TakeFrame s at kind) ≡ answer
    unfolding decided_of request_of
    unread s at kind answer ty e =
        answer_is now live s at kind ∙ ap (λ (r : Result Reading Refusal). (decided now kind at r).stepped.answer) (here s at kind ∙ e)

    shows : (s : List ℕ) (at : ℕ) (kind : Kind) (frame : Frame) (ty next : ℕ) → frame_at role s at kind ≡ read_as frame ty next → shown_by now s at kind ≡ Whole frame ty next
    unfolding shown_at shown_of
    shows s at kind frame ty next e = shown_is now live s at kind ∙ rw (here s at kind ∙ e) refl

    shows_type : (s : List ℕ) (at : ℕ) (kind : Kind) (answer : Answer) (ty value next : ℕ) → frame_at role s at kind ≡ refused_as answer ty → number_at s at ≡ Some (value, next) → shown_by now s at kind ≡ Typed value
    unfolding shown_at shown_of
    shows_type s at kind answer ty value next e n = shown_is now live s at kind ∙ rw (here s at kind ∙ e, n) refl

    shows_nothing : (s : List ℕ) (at : ℕ) (kind : Kind) → number_at s at ≡ None → shown_by now s at kind ≡ Unseen
    unfolding shown_at shown_of
    shows_nothing s at kind n = shown_is now live s at kind ∙ rw (unreadable now.conn.role s at kind n, n) refl

    unclosed : mark_by past ≡ Open
    unclosed =
        let l = lifted role o t h xs in
        sym (said role o past h.two l.accepted).mark ∙ sym (ap (λ (x : State). x.conn.mark) (open_same _ _ l.follows (ap is_open p))) ∙ p

  pub by_history : ByHistory role o t xs
  by_history = record {
    none_closed = unclosed;
    frame_shown = shows;
    type_shown = shows_type;
    nothing_shown = shows_nothing;
    frame_judged = judged;
    frame_refused = unread;
    call_answered = λ p k. call_is now fit (ap is_open p) k ∙ reply_by_law (calls.seated_call now.conn.role k) ∙ ap (λ (r : Role). reply_by o past (calls.seated_call r k)) seat;
    number_answered = λ space. handed_is now space ∙ ap (λ (m : ℕ). ltb most_credit m ⇒ AboveCeiling ∣ Accepted) (d.each_next space);
  }
