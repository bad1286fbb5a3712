-- Whatever a host calls from opening on, the frames and calls that were accepted are a history, and what the host keeps is the state of that history, or that state closed with a code.
-- A frame is one event, a packet one after the other; a closed connection is left as it is by all but the handing out of numbers.
-- Assumes nothing.
use Prim.Native.Nat.{ℕ, zero, suc, ◌-◌, ◌≤◌, ◌<◌, ◌/◌}
use mathlib.Core.Path.{◌≡◌, refl, sym, ◌∙◌, ap, subst}
use mathlib.Core.Bool.{Bool, true, false, not}
use mathlib.Core.List.{List, [], ◌∷◌}
use native.Mathlib.Omega.{arith}
use native.Mathlib.Decide.{ℕ_discrete}
use lib.ListN.{length, set, length-set}
use lib.Seq.{get_or-set_same, get_or-set_other, ext_get_or}
use lib.Dec.{ltb, eqb}
use borrow.Author.Tests.{eqb-true, not-false}
use Rattle.kinds.specs.declared.Role.{Role}
use Rattle.answers.specs.Choice.{◌⇒◌∣◌}
use Rattle.answers.specs.Answers.{accepts}
use Rattle.answers.specs.declared.Answer.{Answer}
use Rattle.answers.specs.declared.Answer.TheVariants.{Accepted, AboveCeiling, DoesNotFit}
use Rattle.answers.proofs.Accepts.{accepts_true}
use Rattle.answers.proofs.Choice.{holds}
use Rattle.answers.proofs.Distinct.{impossible}
use Rattle.kinds.specs.declared.Kind.{Kind}
use Rattle.frames.specs.declared.Reading.{Reading}
use Rattle.frames.specs.Reading.{frame_at}
use Rattle.halves.specs.Stream.{place_of}
use Rattle.streams.specs.declared.Called.{Called}
use Rattle.streams.specs.declared.Conn.{Conn}
use Rattle.entries.specs.declared.Entry.{Entry}
use Rattle.streams.specs.declared.Limits.{Limits}
use Rattle.streams.specs.declared.Mark.TheVariants.{Open}
use Rattle.kinds.specs.declared.Space.{Space}
use Rattle.opening.specs.declared.Opened.{Opened}
use Rattle.entries.specs.Entry.{most_credit, fresh, entry_at, entry_of}
use Rattle.streams.specs.Conn.{is_open, initial_of, next_of, handed_out_of, limits_fit}
use Rattle.opening.specs.Opening.{opened_conn, unopened_of, opening_of, opening_when, entries_of}
use Rattle.views.specs.View.{view_of}
use Rattle.calls.specs.declared.Call.{Call}
use Rattle.replies.specs.declared.Replied.{Replied}
use Rattle.calls.specs.Calls as calls
use Rattle.replies.specs.Replies as replies
use Rattle.calls.specs.Calls.{reply_of}
use Rattle.replies.specs.Replies.{ruled_of as ruled_call, replied_of}
use Rattle.limits.specs.Fits.{fits}
use Rattle.spaces.specs.declared.Records.{Records}
use Rattle.steps.specs.Step.{request_of}
use Rattle.tables.specs.Opened.{filled_to, opened_table}
use Rattle.receive.specs.Taking.{begun_of}
use Rattle.single.specs.Single.{gate_at}
use Rattle.local.specs.Calling.{call_place, called_at, called_table}
use Rattle.accounts.specs.History.{Event, ruled_of, conn_after, entry_after, State, answer_of, after, opened, WasOpened, state_of, AllAccepted}
use Rattle.accounts.specs.History.Event.{Got as Heard, Did, Gave}
use Rattle.accounts.proofs.Tests.{not_both}
use Rattle.accounts.proofs.Fits.{Fits, fits_test}
use Rattle.accounts.proofs.Owned.{length_list, list_at, always}
use Rattle.accounts.proofs.Seats.{role_is}
use Rattle.demands.specs.Hosts.{Act, answered, acted, kept, WasHosted, hosted}
use Rattle.demands.specs.Hosts.Act.{TakeFrame, TakePacket, Make, HandOut}
use Rattle.demands.specs.Heard.{Run, ended, one_by_one, frames_in, calls_of, onto, noted, heard_after, heard_by}
use Rattle.demands.specs.Packets.{Enters}
use Rattle.demands.specs.Demand1.{closes, leaves}
use Rattle.demands.proofs.Frames.{view_in, same_table, closed, refusing, decided, shuts, Live, accepted_is, answer_is, acted_is, barred, passed_gate, gate_passes}
use Rattle.demands.proofs.OneByOne.{by_frames, is_frames, frames_are, header_refused, entered}
use Rattle.std.specs.Prelude.{Result}
use Rattle.fields.specs.declared.Refusal.{Refusal}

-- ---- states

-- the state of a history, or that state closed with a code
pub data Follows (s : State) : State → Type 0 where
  same : Follows s s
  shut : (answer : Answer) (ty : ℕ) → Follows s (closed s answer ty)

pub record Lifted (role : Role) (o : Limits) (l : List Event) (s : State) : Type 0 where
  pub accepted : AllAccepted role o l
  pub follows : Follows (state_of role o l) s

pub open_same : (s t : State) → Follows s t → is_open t.conn.mark ≡ true → t ≡ s
open_same s t same e = refl
open_same s t (shut answer ty) e = impossible cc

-- what is open stands in a row of four
pub four_of : (role : Role) (o : Limits) (l : List Event) (h : State) → Lifted role o l h → length h.conn.opened ≡ 4
four_of role o l h w = go h w.follows
  where
    go : (t : State) → Follows (state_of role o l) t → length t.conn.opened ≡ 4
    go t same = (always role o l w.accepted).conn.four
    go t (shut answer ty) = (always role o l w.accepted).conn.four

-- and the role is the one that was opened with
pub role_of : (role : Role) (o : Limits) (l : List Event) (h : State) → Lifted role o l h → h.conn.role ≡ role
role_of role o l h w = go h w.follows
  where
    go : (t : State) → Follows (state_of role o l) t → t.conn.role ≡ role
    go t same = role_is role o l
    go t (shut answer ty) = role_is role o l

-- ---- one frame

module _ (role : Role) (o : Limits) (l : List Event) (h : State) (w : Lifted role o l h) (s : List ℕ) (at : ℕ) (kind : Kind) where
  abbrev x : Act
  x = TakeFrame s at kind

  -- where it passes the gate, what the host keeps is the state of the history, whose table fits
  module _ (p : is_open h.conn.mark ≡ true) where
    state_is : h ≡ state_of role o l
    state_is = open_same _ _ w.follows p

    live : Live h
    live = record { fit = subst (λ (y : State). Fits y.conn y.table) (sym state_is) (always role o l w.accepted); still_open = p }

    -- a frame that was accepted is an event, and what is left is the state after it
    goes_in : (e : Enters h s at kind l) → accepts (answered h x) ≡ true → Lifted role o (noted h x l) (acted h x)
    unfolding AllAccepted state_of request_of
    goes_in e a =
        let d = ap accepts (sym (answer_is h live s at kind)) ∙ a in
        let r = accepted_is h live kind at (frame_at h.conn.role s at kind) (refusing h.conn.role s at kind) d in
        let view : (view_in h.conn.role kind (frame_at h.conn.role s at kind)) ≡ view_of h.conn.role kind e.frame = ap (λ (y : Result Reading Refusal). (view_in h.conn.role kind y)) e.reads in
        let q : answer_of h (Heard (view_of h.conn.role kind e.frame)) ≡ Accepted = ap (λ v. answer_of h (Heard v)) (sym view) ∙ r.0 in
        let u : acted h x ≡ after h (Heard (view_of h.conn.role kind e.frame)) = acted_is h live s at kind ∙ r.1 ∙ ap (λ v. after h (Heard v)) view in
        subst (λ (m : List Event). Lifted role o m (acted h x)) (sym e.enters)
        (subst (λ (y : State). Lifted role o (Heard (view_of h.conn.role kind e.frame) ∷ l) y) (sym (u ∙ ap (λ (y : State). after y (Heard (view_of h.conn.role kind e.frame))) state_is))
        (record { accepted = (w.accepted, subst (λ (y : State). answer_of y (Heard (view_of h.conn.role kind e.frame)) ≡ Accepted) state_is q); follows = same }))

    -- one that was refused closes
    goes_out : accepts (answered h x) ≡ false → Lifted role o (noted h x l) (acted h x)
    goes_out a =
        let d = ap accepts (sym (answer_is h live s at kind)) ∙ a in
        subst (λ (m : List Event). Lifted role o m (acted h x)) (sym ((entered h s at kind l).if_refused a))
        (subst (λ (y : State). Lifted role o l y) (sym (acted_is h live s at kind ∙ shuts h kind at (frame_at h.conn.role s at kind) (refusing h.conn.role s at kind) d ∙ ap (λ (y : State). closed y (decided h kind at (frame_at h.conn.role s at kind)).stepped.answer (request_of h.conn.role kind at (frame_at h.conn.role s at kind)).ty) state_is))
        (record { accepted = w.accepted; follows = shut _ _ }))

  pub frame : Lifted role o (noted h x l) (acted h x)
  frame = go (accepts (gate_at h.conn h.table)) refl (accepts (answered h x)) refl
    where
      go : (b : Bool) → accepts (gate_at h.conn h.table) ≡ b → (a : Bool) → accepts (answered h x) ≡ a → Lifted role o (noted h x l) (acted h x)
      go true g true a = goes_in (gate_passes _ _ g) ((entered h s at kind l).if_accepted a) a
      go true g false a = goes_out (gate_passes _ _ g) a
      go false g true a = absurd (not_both _ (passed_gate h s at kind a) g)
      go false g false a = subst (λ (m : List Event). Lifted role o m (acted h x)) (sym ((entered h s at kind l).if_refused a)) (subst (λ (y : State). Lifted role o l y) (sym (barred h s at kind g).1) w)

-- ---- the frames of a packet

run : (role : Role) (o : Limits) (s : List ℕ) (kind : Kind) (k : ℕ) (h : State) (at : ℕ) (l : List Event) → Lifted role o l h → Lifted role o (heard_after h (calls_of (one_by_one k h s at kind)) l) (kept h (calls_of (one_by_one k h s at kind)))
unfolding heard_after kept
run role o s kind =
    by_frames s kind (λ h at r. (l : List Event) → Lifted role o l h → Lifted role o (heard_after h (calls_of r) l) (kept h (calls_of r))) (λ h at l w. w)
    (λ h at a l w. frame role o l h w s at kind) (λ h at a l w. frame role o l h w s at kind) (λ h at r a ih l w. ih _ (frame role o l h w s at kind))

-- ---- a local call, and a number handed out

reply_answer : (s : State) (call : Call) → fits s.conn s.table ≡ true → is_open s.conn.mark ≡ true → reply_of s.conn (entry_of s.table (calls.stream_in call)) call ≡ Accepted → answer_of s (Did call) ≡ Accepted
unfolding answer_of ruled_of
reply_answer s call f p e = rw (f, p) e

-- what an accepted call leaves of a state
abbrev made : State → Call → State
made st call = record { conn = replies.conn_called st.conn call; table = set st.table (place_of (calls.stream_in call)) (replies.entry_called (entry_at st.table (place_of (calls.stream_in call))) call) }

did : (role : Role) (o : Limits) (l : List Event) (call : Call) → AllAccepted role o l → is_open (state_of role o l).conn.mark ≡ true → reply_of (state_of role o l).conn (entry_of (state_of role o l).table (calls.stream_in call)) call ≡ Accepted → Lifted role o (Did call ∷ l) (made (state_of role o l) call)
unfolding AllAccepted state_of after conn_after entry_after
did role o l call a p e = record { accepted = (a, reply_answer (state_of role o l) call (fits_test _ _ (always role o l a)) p e); follows = same }

did_as : (role : Role) (o : Limits) (l : List Event) (call : Call) (st : State) → AllAccepted role o l → st ≡ state_of role o l → is_open st.conn.mark ≡ true → reply_of st.conn (entry_of st.table (calls.stream_in call)) call ≡ Accepted → Lifted role o (Did call ∷ l) (made st call)
did_as role o l call st a e p x = rw e (did role o l call a (rw e at p) (rw e at x))

abbrev above : Conn → Space → Bool
above c space = ltb most_credit (next_of c space)

gave_answer : (s : State) (space : Space) → above s.conn space ≡ false → answer_of s (Gave space) ≡ Accepted
unfolding answer_of ruled_of handed_out_of
gave_answer s space e = holds (λ (x : Called). x.answer ≡ Accepted) (above s.conn space) _ _ (λ t. absurd (not_both _ t e)) (λ t. refl)

-- handing out reads no mark and writes none
gave : (role : Role) (o : Limits) (l : List Event) (st : State) (space : Space) (b : Bool) → AllAccepted role o l → Follows (state_of role o l) st → above (state_of role o l).conn space ≡ b
    → Lifted role o (accepts (handed_out_of st.conn space).answer ⇒ Gave space ∷ l ∣ l) (record { conn = (handed_out_of st.conn space).conn; table = st.table })
unfolding AllAccepted state_of after conn_after entry_after handed_out_of
gave role o l st space true a same e = rw e (record { accepted = a; follows = same })
gave role o l st space true a (shut answer ty) e = rw e (record { accepted = a; follows = shut answer ty })
gave role o l st space false a same e = rw e (record { accepted = (a, gave_answer (state_of role o l) space e); follows = rw (same_table (state_of role o l).table (place_of 0)) same })
gave role o l st space false a (shut answer ty) e = rw e (record { accepted = (a, gave_answer (state_of role o l) space e); follows = rw (same_table (state_of role o l).table (place_of 0)) (shut answer ty) })

-- ---- the calls

module _ (role : Role) (o : Limits) (l : List Event) (h : State) (w : Lifted role o l h) where
  abbrev whole : Bool
  whole = fits h.conn h.table

  abbrev Goes : Act → Type 0
  Goes x = Lifted role o (noted h x l) (acted h x)

  -- a packet: its frames one by one; or it is refused before them, and closes an open connection or leaves it
  packet : (rs : Records) (first : ℕ) (s : List ℕ) → Goes (TakePacket rs first s)
  unfolding onto
  packet rs first s = go (accepts (begun_of h.conn rs h.table first s).answer) refl
    where
      four : length h.conn.opened ≡ 4
      four = four_of role o l h w

      frames : accepts (begun_of h.conn rs h.table first s).answer ≡ true → Goes (TakePacket rs first s)
      frames a =
          let p = is_frames h rs first s four a in
          let g = begun_of h.conn rs h.table first s in
          let P : State → Type 0 = λ y. Lifted role o (noted h (TakePacket rs first s) l) y in
          subst P (sym p.state) (subst (λ (m : List Event). Lifted role o m (kept h (calls_of (frames_in h rs first s)))) (sym (p.history l)) (subst (λ (r : Run). Lifted role o (heard_after h (calls_of r) l) (kept h (calls_of r))) (sym (frames_are h rs first s four a)) (run role o s g.kind (length s - g.at) h g.at l w)))

      none : (b : Bool) (answer : Answer) → closes answer ≡ b → (closes answer ≡ true → is_open h.conn.mark ≡ true) → Lifted role o l (leaves answer 0 h)
      none true answer k p = rw k (subst (λ (y : State). Lifted role o l (closed y answer 0)) (sym (open_same _ _ w.follows (p k))) (record { accepted = w.accepted; follows = shut answer 0 }))
      none false answer k p = rw k w

      unheard : frames_in h rs first s ≡ ended (length s) → l ≡ noted h (TakePacket rs first s) l
      unheard e = sym (ap (λ (r : Run). onto r.heard l) e)

      go : (b : Bool) → accepts (begun_of h.conn rs h.table first s).answer ≡ b → Goes (TakePacket rs first s)
      go true a = frames a
      go false a =
          let p = header_refused h rs first s a in
          subst (λ (m : List Event). Lifted role o m (acted h (TakePacket rs first s))) (unheard p.none) (subst (λ (y : State). Lifted role o l y) (sym p.left) (none _ (begun_of h.conn rs h.table first s).answer refl p.was_open))

  -- a local call, by whether the table fits and by what it leaves
  abbrev Calls : Call → Bool → Replied → Type 0
  Calls k fit r =
      Lifted role o (accepts (fit ⇒ r.called ∣ record { answer = DoesNotFit; number = 0; conn = h.conn }).answer ⇒ Did (calls.seated_call h.conn.role k) ∷ l ∣ l)
      (record { conn = (fit ⇒ r.called ∣ record { answer = DoesNotFit; number = 0; conn = h.conn }).conn; table = fit ⇒ set h.table (call_place h.conn k) r.entry ∣ h.table })

  called : (k : Call) (fit : Bool) → whole ≡ fit → Calls k fit (replied_of h.conn (entry_at h.table (call_place h.conn k)) k)
  unfolding replied_of ruled_call replies.settled_of
  called k false e = w
  called k true e =
      holds (Calls k true) (not (is_open h.conn.mark)) _ _ (λ g. rw (same_table h.table (call_place h.conn k)) w) (λ g.
      holds (Calls k true) (accepts (reply_of h.conn (entry_at h.table (call_place h.conn k)) (calls.seated_call h.conn.role k))) _ _
      (λ x. let p = not-false _ g in did_as role o l (calls.seated_call h.conn.role k) h w.accepted (open_same _ _ w.follows p) p (accepts_true _ x))
      (λ x. rw (x, same_table h.table (call_place h.conn k)) w))

  call : (k : Call) → Goes (Make k)
  unfolding called_at called_table
  call k = called k whole refl

  pub goes_by : (x : Act) → Goes x
  goes_by (TakeFrame s at kind) = frame role o l h w s at kind
  goes_by (TakePacket rs first s) = packet rs first s
  goes_by (Make k) = call k
  goes_by (HandOut space) = gave role o l h space _ w.accepted w.follows refl

-- all calls since
lift : (role : Role) (o : Limits) (l : List Event) (h : State) (xs : List Act) → Lifted role o l h → Lifted role o (heard_after h xs l) (kept h xs)
unfolding kept heard_after
lift role o l h [] a = a
lift role o l h (x ∷ xs) a = lift role o (noted h x l) (acted h x) xs (goes_by role o l h a x)

-- ---- opening

module _ (t : List Entry) (o : Limits) where
  filled_length : (n : ℕ) → length (filled_to n t o) ≡ length t
  unfolding filled_to
  filled_length zero = refl
  filled_length (suc n) = length-set (filled_to n t o) n _ ∙ filled_length n

  filled_at : (n i : ℕ) → n ≤ length t → i < n → entry_at (filled_to n t o) i ≡ fresh (initial_of o (i / 64))
  unfolding filled_to
  filled_at zero i h l = absurd (omega arith)
  filled_at (suc n) i h l = go (ℕ_discrete i n) (λ m. filled_at n i (omega arith) m)
    where
      e : Entry
      e = fresh (initial_of o (n / 64))

      go : Dec (i ≡ n) → (i < n → entry_at (filled_to n t o) i ≡ fresh (initial_of o (i / 64))) → entry_at (set (filled_to n t o) n e) i ≡ fresh (initial_of o (i / 64))
      go (yes p) f = rw p (get_or-set_same (filled_to n t o) n e (fresh 0) (omega (arith, filled_length n)))
      go (no p) f = get_or-set_other (filled_to n t o) n i e (fresh 0) p ∙ f (omega arith)

-- an opening that was accepted: the table has 192 entries, and the limits are within their ceilings
module _ (role : Role) (o : Limits) (t : List Entry) (w : WasHosted role o t) where
  h : (opening_when role (length t) o).answer ≡ Accepted
  h = w.accepted

  facts : (eqb (length t) 192 ≡ true) × (opening_when role (length t) o ≡ opening_of role o)
  unfolding opening_when
  facts = go (eqb (length t) 192) refl h
    where
      go : (b : Bool) → eqb (length t) 192 ≡ b → (b ⇒ opening_of role o ∣ unopened_of role DoesNotFit).answer ≡ Accepted → (eqb (length t) 192 ≡ true) × ((b ⇒ opening_of role o ∣ unopened_of role DoesNotFit) ≡ opening_of role o)
      go true e p = (e, refl)
      go false e p = impossible cc

  long : length t ≡ 192
  long = eqb-true (length t) 192 facts.0

  pub was_opened : WasOpened role o
  was_opened = ap (λ (x : Opened). x.answer) (sym facts.1) ∙ h

  opening_conn : (opening_of role o).conn ≡ opened_conn role o Open
  unfolding opening_of
  opening_conn = go (limits_fit o) was_opened
    where
      go : (b : Bool) → (b ⇒ record { answer = Accepted; conn = opened_conn role o Open } ∣ unopened_of role AboveCeiling).answer ≡ Accepted → (b ⇒ record { answer = Accepted; conn = opened_conn role o Open } ∣ unopened_of role AboveCeiling).conn ≡ opened_conn role o Open
      go true p = refl
      go false p = impossible cc

  table_same : filled_to 192 t o ≡ (opened role o).table
  unfolding opened
  table_same =
      ext_get_or (fresh 0) (filled_to 192 t o) (opened role o).table (filled_length t o 192 ∙ long ∙ sym (length_list 192 (λ i. fresh (initial_of o (i / 64))))) (λ i l.
      let m : i < 192 = omega (arith, filled_length t o 192, long) in
      filled_at t o 192 i (omega (arith, long)) m ∙ sym (list_at 192 i (λ k. fresh (initial_of o (k / 64))) (fresh 0) m))

  all_set : entries_of (opening_when role (length t) o).answer ≡ 192
  unfolding entries_of
  all_set = rw h refl

  -- What the host keeps is the state that opening leaves.
  pub hosted_same : hosted role o t ≡ opened role o
  unfolding hosted opened_table opened
  hosted_same = λ j. record { conn = (ap (λ (x : Opened). x.conn) facts.1 ∙ opening_conn) j; table = (ap (λ (n : ℕ). filled_to n t o) all_set ∙ table_same) j }

  -- Whatever was called since opening: the accepted frames and calls are a history, and what the host keeps is its state, or that state closed with a code.
  pub lifted : (xs : List Act) → Lifted role o (heard_by role o t xs) (kept (hosted role o t) xs)
  unfolding AllAccepted state_of
  lifted xs = lift role o [] (hosted role o t) xs (record { accepted = was_opened; follows = rw hosted_same same })
