-- An accepted frame leaves what its event leaves (crate demands), a call changes the part it is for, and what does not pass the gate changes nothing.
-- Assumes nothing.
use Prim.Native.Nat.{ℕ}
use mathlib.Core.Path.{◌≡◌, refl, sym, ◌∙◌, ap}
use mathlib.Core.Bool.{Bool, true, false, not}
use mathlib.Core.List.{List}
use lib.ListN.{length}
use lib.Dec.{ltb}
use Rattle.answers.specs.Answers.{accepts}
use Rattle.answers.specs.declared.Answer.{Answer}
use Rattle.answers.proofs.Choice.{holds}
use Rattle.answers.proofs.Distinct.{impossible}
use Rattle.frames.specs.declared.Frame.{Frame}
use Rattle.kinds.specs.declared.Kind.{Kind}
use Rattle.frames.specs.declared.Reading.{Reading}
use Rattle.frames.specs.Reading.{frame_at}
use Rattle.streams.specs.declared.Called.{Called}
use Rattle.streams.specs.declared.Conn.{Conn}
use Rattle.kinds.specs.declared.Space.{Space}
use Rattle.entries.specs.declared.Entry.{Entry}
use Rattle.entries.specs.Entry.{most_credit, entry_of}
use Rattle.streams.specs.Conn.{is_open, next_of, handed_out_of}
use Rattle.rules.specs.declared.View.{View}
use Rattle.rules.specs.declared.View.TheVariants.{Ends, Blocks, ForSender, Acks, Closes, Nothing}
use Rattle.views.specs.View.{view_of}
use Rattle.verdicts.specs.Verdict.{conn_heard}
use Rattle.calls.specs.declared.Call.{Call}
use Rattle.calls.specs.declared.Call.TheVariants.{RaiseCredit, RaiseStream, RaiseCount, OpenNext}
use Rattle.replies.specs.declared.Replied.{Replied}
use Rattle.calls.specs.Calls.{seated_call, reply_of}
use Rattle.replies.specs.Replies.{conn_called, settled_of, ruled_of, replied_of}
use Rattle.limits.specs.Fits.{fits}
use Rattle.steps.specs.Step.{request_of}
use Rattle.receive.specs.Taking.{begun_of}
use Rattle.single.specs.Single.{gate_at}
use Rattle.local.specs.Calling.{called_at}
use Rattle.accounts.specs.History.{State, after, conn_after}
use Rattle.accounts.specs.History.Event.{Got as Heard}
use Rattle.accounts.specs.Advertised.{marks}
use Rattle.accounts.proofs.Fits.{fits_facts}
use Rattle.accounts.proofs.Tests.{not_both}
use Rattle.demands.specs.Hosts.{Act, answered, acted, number_given}
use Rattle.demands.specs.Hosts.Act.{TakeFrame, TakePacket, Make, HandOut}
use Rattle.demands.specs.Demand1 as Demand1
use Rattle.demands.specs.Demand1.{leaves}
use Rattle.demands.proofs.Frames.{view_in, Live, accepted_is, answer_is, acted_is, refusing, passed_gate, gate_passes, barred}
use Rattle.demands.proofs.OneByOne.{is_live, header_refused}
use Rattle.hosts.specs.Marked.{MarkLeft}
use Rattle.hosts.proofs.OnlyThen.{only_then}
use Rattle.std.specs.Prelude.{Result}
use Rattle.frames.specs.Fields.{read_as}
use Rattle.fields.specs.declared.Refusal.{Refusal}

-- ---- what is accepted

heard_mark : (c : Conn) (e : Entry) (v : View) → (conn_heard c e v).mark ≡ marks (Heard v) c.mark
unfolding conn_heard
heard_mark c e (Ends id end fin) = refl
heard_mark c e (Blocks id) = refl
heard_mark c e (ForSender id) = refl
heard_mark c e (Acks space largest) = refl
heard_mark c e Closes = refl
heard_mark c e Nothing = refl

called_mark : (c : Conn) (k : Call) → (conn_called c k).mark ≡ c.mark
called_mark c (RaiseCredit new) = refl
called_mark c (RaiseStream id new) = refl
called_mark c (RaiseCount ty new) = refl
called_mark c (OpenNext ty) = refl

-- a local call, accepted or refused
record Made (c : Conn) (x : Called) : Type 0 where
  mark : x.conn.mark ≡ c.mark
  number : accepts x.answer ≡ false → x.number ≡ 0

made : (h : State) (k : Call) → Made h.conn (called_at h.conn h.table k)
unfolding called_at replied_of ruled_of settled_of
made h k =
    holds (Made h.conn) (fits h.conn h.table) _ _ (λ f.
    holds Fine (not (is_open h.conn.mark)) _ _ (λ o. record { mark = refl; number = λ a. refl }) (λ o.
    holds Fine (accepts (reply_of h.conn (entry_of h.table _) (seated_call h.conn.role k))) _ _ (λ p. record { mark = called_mark h.conn (seated_call h.conn.role k); number = λ a. impossible cc }) (λ p. record { mark = refl; number = λ a. refl }))) (λ f. record { mark = refl; number = λ a. refl })
  where
    Fine : Replied → Type 0
    Fine r = Made h.conn r.called

handed : (h : State) (space : Space) → Made h.conn (handed_out_of h.conn space)
unfolding handed_out_of
handed h space = holds (Made h.conn) (ltb most_credit (next_of h.conn space)) _ _ (λ t. record { mark = refl; number = λ a. refl }) (λ t. record { mark = refl; number = λ a. impossible cc })

-- ---- one frame

module _ (h : State) (four : length h.conn.opened ≡ 4) (s : List ℕ) (at : ℕ) (kind : Kind) where
  frame_mark : (frame : Frame) (ty next : ℕ) → frame_at h.conn.role s at kind ≡ read_as frame ty next → accepts (answered h (TakeFrame s at kind)) ≡ true → (acted h (TakeFrame s at kind)).conn.mark ≡ marks (Heard (view_of h.conn.role kind frame)) h.conn.mark
  unfolding after conn_after request_of
  frame_mark frame ty next e a =
      let v = live in
      let w = accepted_is h v kind at (frame_at h.conn.role s at kind) (refusing h.conn.role s at kind) (ap accepts (sym (answer_is h v s at kind)) ∙ a) in
      ap (λ (x : State). x.conn.mark) (acted_is h v s at kind ∙ w.1)
      ∙ ap (λ (r : Result Reading Refusal). (after h (Heard (view_in h.conn.role kind r))).conn.mark) e
      ∙ heard_mark h.conn _ (view_of h.conn.role kind frame)
    where
      open_now : is_open h.conn.mark ≡ true
      open_now = gate_passes _ _ (passed_gate h s at kind a)

      fit : (b : Bool) → fits h.conn h.table ≡ b → fits h.conn h.table ≡ true
      fit true f = f
      fit false f = absurd (not_both _ a (ap accepts ((only_then h (TakeFrame s at kind)).first_of_all (ap not f))))

      live : Live h
      live = record { fit = fits_facts h.conn h.table four (fit _ refl); still_open = open_now }

  -- ---- what is closed

  closed_frame : is_open h.conn.mark ≡ false → (acted h (TakeFrame s at kind)).conn.mark ≡ h.conn.mark
  closed_frame c = go (accepts (gate_at h.conn h.table)) refl
    where
      go : (b : Bool) → accepts (gate_at h.conn h.table) ≡ b → (acted h (TakeFrame s at kind)).conn.mark ≡ h.conn.mark
      go true g = absurd (not_both _ (gate_passes _ _ g) c)
      go false g = ap (λ (x : State). x.conn.mark) (barred h s at kind g).1

pub mark_left : MarkLeft
mark_left h four = record {
  frame = frame_mark h four;
  call = λ k. (made h k).mark;
  number = λ space. (handed h space).mark;
  stays_closed = closed;
  no_number = none;
}
  where
    closed : is_open h.conn.mark ≡ false → (x : Act) → (acted h x).conn.mark ≡ h.conn.mark
    closed c (TakeFrame s at kind) = closed_frame h four s at kind c
    closed c (TakePacket rs first s) = go (accepts (begun_of h.conn rs h.table first s).answer) refl
      where
        left : (b : Bool) (answer : Answer) → Demand1.closes answer ≡ b → (Demand1.closes answer ≡ true → is_open h.conn.mark ≡ true) → (leaves answer 0 h).conn.mark ≡ h.conn.mark
        left true answer k p = absurd (not_both _ (p k) c)
        left false answer k p = rw k refl

        go : (b : Bool) → accepts (begun_of h.conn rs h.table first s).answer ≡ b → (acted h (TakePacket rs first s)).conn.mark ≡ h.conn.mark
        go true a = absurd (not_both _ (is_live h rs first s four a).still_open c)
        go false a = let r = header_refused h rs first s a in ap (λ (x : State). x.conn.mark) r.left ∙ left _ (begun_of h.conn rs h.table first s).answer refl r.was_open
    closed c (Make call) = (made h call).mark
    closed c (HandOut space) = (handed h space).mark

    none : (x : Act) → accepts (answered h x) ≡ false → number_given h x ≡ 0
    none (TakeFrame s at kind) a = refl
    none (TakePacket rs first s) a = refl
    none (Make call) a = (made h call).number a
    none (HandOut space) a = (handed h space).number a
