-- A packet is its frames taken one by one: a step of the walk is the call for one frame, on a table that fits and a connection that is open; an accepted frame keeps both, or ends the walk.
-- Assumes nothing.
use Prim.Native.Nat.{ℕ, zero, suc, ◌-◌}
use mathlib.Core.Path.{◌≡◌, refl, sym, ◌∙◌, ap, subst}
use mathlib.Core.Bool.{Bool, true, false, not, ◌&&◌, and-eq-true_iff}
use mathlib.Core.List.{List, [], ◌∷◌, ◌++◌}
use native.Mathlib.Omega.{arith}
use lib.ListN.{length}
use lib.Dec.{leb}
use borrow.Author.Tests.{le-leb, not-true, not-false}
use Rattle.answers.specs.Choice.{◌⇒◌∣◌}
use Rattle.answers.specs.Answers.{accepts}
use Rattle.answers.specs.declared.Answer.{Answer}
use Rattle.answers.specs.declared.Answer.TheVariants.{Accepted, ProtocolViolation}
use Rattle.answers.proofs.Accepts.{accepts_true}
use Rattle.answers.proofs.Choice.{holds}
use Rattle.answers.proofs.Distinct.{impossible}
use Rattle.kinds.specs.declared.Kind.{Kind}
use Rattle.kinds.specs.declared.Kind.TheVariants.{OneRtt}
use Rattle.frames.specs.Reading.{frame_at}
use Rattle.entries.specs.declared.Entry.{Entry}
use Rattle.streams.specs.declared.Conn.{Conn}
use Rattle.streams.specs.declared.Mark.TheVariants.{Code}
use Rattle.streams.specs.Conn.{is_open, marked_as}
use Rattle.kinds.specs.Kinds.{space_of}
use Rattle.rules.specs.declared.View.{View}
use Rattle.limits.specs.Fits.{fits}
use Rattle.spaces.specs.declared.Records.{Records}
use Rattle.spaces.specs.Spaces.{recorded_of}
use Rattle.packets.specs.declared.Begun.{Begun}
use Rattle.packets.specs.Begin.{refused_of, closes_of}
use Rattle.steps.specs.declared.Stopped.{Stopped}
use Rattle.steps.specs.declared.TookFrame.{TookFrame}
use Rattle.steps.specs.Step.{request_at}
use Rattle.endings.specs.declared.Took.{Took}
use Rattle.endings.specs.Finish.{took_as, finish_of}
use Rattle.walks.specs.Walk.{stopped, Walked, walk_from, walk_all}
use Rattle.single.specs.Single.{decided_at, stepped_at, step_table}
use Rattle.receive.specs.Taking.{begun_of, took_of, took_table}
use Rattle.single.specs.Single.{took_frame_of}
use Rattle.accounts.specs.History as accounts
use Rattle.accounts.proofs.Seats.{role_stays}
use Rattle.accounts.specs.History.{Event, State}
use Rattle.accounts.specs.History.Event.{Got as Heard}
use Rattle.accounts.proofs.Fits.{Fits, fits_facts}
use Rattle.accounts.proofs.Tests.{not_both}
use Rattle.demands.specs.Hosts.{Act, answered, acted, with_both, records_after, place_told, kept}
use Rattle.demands.specs.Hosts.Act.{TakeFrame, TakePacket}
use Rattle.demands.specs.Heard.{shown_by, asked, next_shown, Run, ended, after, one_by_one, frames_in, calls_of, onto, noted, heard_after}
use Rattle.demands.specs.Demand1 as Demand1
use Rattle.demands.specs.Demand1.{leaves}
use Rattle.demands.specs.Packets.{OneByOne, IsFrames, Enters, Entered}
use Rattle.demands.proofs.Begins.{Begins, begins}
use Rattle.demands.proofs.Begins.Begins.{goes, shuts as closing, stays}
use Rattle.demands.proofs.Frames.{accepted_is, refusing, more_open, shuts, Live, accepted_fits, stepped, took_is, passed_gate, answer_is, acted_is, shown_is, Whole, whole}

-- ---- the walk

-- where a walk stopped, as a state
abbrev pub state_at : Walked → State
state_at w = record { conn = w.stop.conn; table = w.table }

pub record Same (h : State) (r : Run) (w : Walked) : Type 0 where
  pub answer : w.stop.answer ≡ r.answer
  pub place : w.stop.place ≡ r.place
  pub state : state_at w ≡ kept h (calls_of r)

-- both go by one test
same_choice : (h : State) (b : Bool) (x y : Run) (u v : Walked) → (b ≡ true → Same h x u) → (b ≡ false → Same h y v) → Same h (b ⇒ x ∣ y) (b ⇒ u ∣ v)
same_choice h true x y u v p q = p refl
same_choice h false x y u v p q = q refl

module _ (h : State) (v : Live h) (s : List ℕ) (at : ℕ) (kind : Kind) where
  abbrev x : Act
  x = TakeFrame s at kind

  -- the walk's own step
  abbrev stop_here : Walked
  stop_here = record { stop = stopped (stepped_at h.conn h.table s at kind).conn at (stepped_at h.conn h.table s at kind).answer; table = step_table h.conn h.table s at kind }

  abbrev goes_on : (State → ℕ → Walked) → Walked
  goes_on w = w (record { conn = (stepped_at h.conn h.table s at kind).conn; table = step_table h.conn h.table s at kind }) (stepped_at h.conn h.table s at kind).next

  more_is : is_open (stepped_at h.conn h.table s at kind).conn.mark ≡ is_open (acted h x).conn.mark
  unfolding decided_at request_at
  more_is = more_open h kind at (frame_at h.conn.role s at kind) ∙ ap (λ (y : State). is_open y.conn.mark) (sym (acted_is h v s at kind))

  -- a refused frame closes the connection
  pub refused_shut : accepts (answered h x) ≡ false → is_open (acted h x).conn.mark ≡ false
  refused_shut e = ap (λ (y : State). is_open y.conn.mark) (acted_is h v s at kind ∙ shuts h kind at (frame_at h.conn.role s at kind) (refusing h.conn.role s at kind) (ap accepts (sym (answer_is h v s at kind)) ∙ e))

  -- an accepted one that leaves it open leaves a table that fits
  pub still_live : accepts (answered h x) ≡ true → is_open (acted h x).conn.mark ≡ true → Live (acted h x)
  still_live e o = record {
    fit = subst (λ (y : State). Fits y.conn y.table) (sym (acted_is h v s at kind)) (accepted_fits h v kind at (frame_at h.conn.role s at kind) (refusing h.conn.role s at kind) (ap accepts (sym (answer_is h v s at kind)) ∙ e));
    still_open = o;
  }

  -- and the role
  pub same_role : accepts (answered h x) ≡ true → (acted h x).conn.role ≡ h.conn.role
  unfolding accounts.after
  same_role e =
      ap (λ (y : State). y.conn.role) (acted_is h v s at kind ∙ (accepted_is h v kind at (frame_at h.conn.role s at kind) (refusing h.conn.role s at kind) (ap accepts (sym (answer_is h v s at kind)) ∙ e)).1)
      ∙ role_stays h.conn _ _

  pub whole_is : accepts (answered h x) ≡ true → Whole kind at s h
  whole_is e = whole h s at kind (ap accepts (sym (answer_is h v s at kind)) ∙ e)

  pub next_shown_law : (e : accepts (answered h x) ≡ true) → next_shown at (shown_by h s at kind) ≡ (whole_is e).next
  next_shown_law e = ap (next_shown at) (shown_is h v s at kind) ∙ (whole_is e).follows

  module _ (run : State → ℕ → Run) (walk : State → ℕ → Walked) (same : (g : State) → Live g → (next : ℕ) → Same g (run g next) (walk g next)) where
    abbrev taken : Run
    taken =
        not (accepts (answered h x)) ⇒ record { accepted = []; heard = []; refused = x ∷ []; answer = answered h x; place = at }
        ∣ after x (asked h.conn.role kind (shown_by h s at kind)) (not (is_open (acted h x).conn.mark) ⇒ ended at ∣ run (acted h x) (next_shown at (shown_by h s at kind)))

    abbrev walked : Walked
    walked = is_open (stepped_at h.conn h.table s at kind).conn.mark ⇒ goes_on walk ∣ stop_here

    state_here : state_at stop_here ≡ acted h x
    unfolding decided_at request_at
    state_here = sym (acted_is h v s at kind)

    answer_here : (stepped_at h.conn h.table s at kind).answer ≡ answered h x
    unfolding decided_at request_at
    answer_here = sym (answer_is h v s at kind)

    next_here : accepts (answered h x) ≡ true → (stepped_at h.conn h.table s at kind).next ≡ next_shown at (shown_by h s at kind)
    unfolding decided_at request_at
    next_here e = sym (ap (next_shown at) (shown_is h v s at kind) ∙ (whole_is e).goes)

    pub step_same : Same h taken walked
    unfolding kept
    step_same = go (accepts (answered h x)) refl (is_open (acted h x).conn.mark) refl
      where
        onward : accepts (answered h x) ≡ true → is_open (acted h x).conn.mark ≡ true → Same h (after x (asked h.conn.role kind (shown_by h s at kind)) (run (acted h x) (next_shown at (shown_by h s at kind)))) (goes_on walk)
        onward a o =
            let w = subst (λ (y : State). Same (acted h x) (run (acted h x) (next_shown at (shown_by h s at kind))) (walk y (stepped_at h.conn h.table s at kind).next)) (sym state_here)
            (subst (λ (n : ℕ). Same (acted h x) (run (acted h x) (next_shown at (shown_by h s at kind))) (walk (acted h x) n)) (sym (next_here a)) (same (acted h x) (still_live a o) (next_shown at (shown_by h s at kind)))) in
            record { answer = w.answer; place = w.place; state = w.state }

        go : (a : Bool) → accepts (answered h x) ≡ a → (o : Bool) → is_open (acted h x).conn.mark ≡ o → Same h taken walked
        go false a o m = rw (a, more_is ∙ refused_shut a) (record { answer = answer_here; place = refl; state = state_here })
        go true a false m = rw (a, m, more_is ∙ m) (record { answer = answer_here ∙ accepts_true _ a; place = refl; state = state_here })
        go true a true m = rw (a, m, more_is ∙ m) (onward a m)

pub walk_same : (k : ℕ) (h : State) → Live h → (s : List ℕ) (at : ℕ) (kind : Kind) → Same h (one_by_one k h s at kind) (walk_from k h.conn h.table s at kind)
unfolding walk_from one_by_one kept
walk_same zero h v s at kind = record { answer = refl; place = refl; state = refl }
walk_same (suc k) h v s at kind =
    same_choice h (leb (length s) at) _ _ _ _ (λ e. record { answer = refl; place = refl; state = refl })
    (λ e. step_same h v s at kind (λ g next. one_by_one k g s next kind) (λ g next. walk_from k g.conn g.table s next kind) (λ g w next. walk_same k g w s next kind))

-- ---- what holds of frames taken one by one, by how they end

-- the run of a frame that is refused
abbrev pub refused_at : State → List ℕ → ℕ → Kind → Run
refused_at h s at kind = record { accepted = []; heard = []; refused = TakeFrame s at kind ∷ []; answer = answered h (TakeFrame s at kind); place = at }

-- no frame; one that is refused; an accepted one that closes the connection; and an accepted one before others
module _ (s : List ℕ) (kind : Kind) (P : State → ℕ → Run → Type 0) (none : (h : State) (at : ℕ) → P h at (ended at))
    (one : (h : State) (at : ℕ) → accepts (answered h (TakeFrame s at kind)) ≡ false → P h at (refused_at h s at kind))
    (last : (h : State) (at : ℕ) → accepts (answered h (TakeFrame s at kind)) ≡ true → P h at (after (TakeFrame s at kind) (asked h.conn.role kind (shown_by h s at kind)) (ended at)))
    (more : (h : State) (at : ℕ) (r : Run) → accepts (answered h (TakeFrame s at kind)) ≡ true → P (acted h (TakeFrame s at kind)) (next_shown at (shown_by h s at kind)) r → P h at (after (TakeFrame s at kind) (asked h.conn.role kind (shown_by h s at kind)) r)) where
  pub by_frames : (k : ℕ) (h : State) (at : ℕ) → P h at (one_by_one k h s at kind)
  unfolding one_by_one
  by_frames zero h at = none h at
  by_frames (suc k) h at =
      let further = one_by_one k (acted h (TakeFrame s at kind)) s (next_shown at (shown_by h s at kind)) kind in
      let rest = not (is_open (acted h (TakeFrame s at kind)).conn.mark) ⇒ ended at ∣ further in
      let taken = after (TakeFrame s at kind) (asked h.conn.role kind (shown_by h s at kind)) rest in
      holds (P h at) (leb (length s) at) (ended at) (not (accepts (answered h (TakeFrame s at kind))) ⇒ refused_at h s at kind ∣ taken) (λ e. none h at) (λ e.
      holds (P h at) (not (accepts (answered h (TakeFrame s at kind)))) (refused_at h s at kind) taken (λ a. one h at (not-true _ a)) (λ a.
      holds (λ (r : Run). P h at (after (TakeFrame s at kind) (asked h.conn.role kind (shown_by h s at kind)) r)) (not (is_open (acted h (TakeFrame s at kind)).conn.mark)) (ended at) further
      (λ o. last h at (not-false _ a)) (λ o. more h at further (not-false _ a) (by_frames k (acted h (TakeFrame s at kind)) (next_shown at (shown_by h s at kind))))))

-- ---- the history

pub onto_then : (a b : List View) (l : List Event) → onto (a ++ b) l ≡ onto b (onto a l)
unfolding onto
onto_then [] b l = refl
onto_then (v ∷ a) b l = onto_then a b (Heard v ∷ l)

noted_frame : (h : State) (s : List ℕ) (at : ℕ) (kind : Kind) (l : List Event) → accepts (answered h (TakeFrame s at kind)) ≡ true → onto (asked h.conn.role kind (shown_by h s at kind)) l ≡ noted h (TakeFrame s at kind) l
noted_frame h s at kind l a = rw a refl

heard_same : (s : List ℕ) (kind : Kind) (k : ℕ) (h : State) (at : ℕ) (l : List Event) → onto (one_by_one k h s at kind).heard l ≡ heard_after h (calls_of (one_by_one k h s at kind)) l
unfolding heard_after onto
heard_same s kind =
    by_frames s kind (λ h at r. (l : List Event) → onto r.heard l ≡ heard_after h (calls_of r) l) (λ h at l. refl) (λ h at a l. rw a refl)
    (λ h at a l. onto_then (asked h.conn.role kind (shown_by h s at kind)) [] l ∙ noted_frame h s at kind l a)
    (λ h at r a ih l. onto_then (asked h.conn.role kind (shown_by h s at kind)) r.heard l ∙ ih _ ∙ ap (λ (m : List Event). heard_after (acted h (TakeFrame s at kind)) (calls_of r) m) (noted_frame h s at kind l a))

-- ---- the packet

-- a packet that goes on to its frames found a connection that is open and a table that fits, and leaves the connection to them
begun_goes : (c : Conn) (end : ℕ) (live fit : Bool) (begun : Begun) → Begins c end live fit begun → accepts begun.answer ≡ true → (live ≡ true) × (begun.conn ≡ c)
unfolding closes_of refused_of
begun_goes c end live fit _ (goes kind at number e) a = (e, refl)
begun_goes c end live fit _ (closing e) a = impossible cc
begun_goes c end live fit _ (stays answer q) a = absurd (not_both _ a q.refuses)

-- what it leaves after them
finish_is : (begun : Begun) (w : Stopped) (rs : Records) → accepts begun.answer ≡ true → finish_of begun w rs ≡ took_as w w.answer (accepts w.answer ⇒ recorded_of rs (space_of begun.kind) begun.number ∣ rs)
unfolding finish_of
finish_is begun w rs a = rw a (go (accepts w.answer) refl)
  where
    go : (b : Bool) → accepts w.answer ≡ b → (b ⇒ took_as w Accepted (recorded_of rs (space_of begun.kind) begun.number) ∣ took_as w w.answer rs) ≡ took_as w w.answer (b ⇒ recorded_of rs (space_of begun.kind) begun.number ∣ rs)
    go true e = ap (λ (y : Answer). took_as w y (recorded_of rs (space_of begun.kind) begun.number)) (sym (accepts_true w.answer e))
    go false e = refl

module _ (h : State) (rs : Records) (first : ℕ) (s : List ℕ) (four : length h.conn.opened ≡ 4) where
  abbrev begun : Begun
  begun = begun_of h.conn rs h.table first s

  abbrev way : Walked
  way = walk_all begun.conn h.table s begun.at begun.kind

  module _ (a : accepts begun.answer ≡ true) where
    pub found : ((fits h.conn h.table && is_open h.conn.mark) ≡ true) × (begun.conn ≡ h.conn)
    found = begun_goes h.conn (length s) _ _ begun (begins h.conn rs (fits h.conn h.table) first s) a

    pub is_live : Live h
    is_live = let w = (and-eq-true_iff (fits h.conn h.table) (is_open h.conn.mark)).0 found.0 in record { fit = fits_facts h.conn h.table four w.0; still_open = w.1 }

    pub frames_are : frames_in h rs first s ≡ one_by_one (length s - begun.at) h s begun.at begun.kind
    unfolding frames_in
    frames_are = rw a refl

    same : Same h (frames_in h rs first s) way
    same = subst (λ (r : Run). Same h r way) (sym frames_are) (subst (λ (c : Conn). Same h (one_by_one (length s - begun.at) h s begun.at begun.kind) (walk_all c h.table s begun.at begun.kind)) (sym found.1) (walk_same (length s - begun.at) h is_live s begun.at begun.kind))

    took_as_law : took_of h.conn rs h.table first s ≡ took_as way.stop way.stop.answer (accepts way.stop.answer ⇒ recorded_of rs (space_of begun.kind) begun.number ∣ rs)
    unfolding took_of
    took_as_law = finish_is begun way.stop rs a

    table_as : took_table h.conn rs h.table first s ≡ way.table
    unfolding took_table
    table_as = refl

    is_one_by_one : OneByOne h rs first s
    is_one_by_one = record {
      answer = ap (λ (x : Took). x.answer) took_as_law ∙ same.answer;
      place = ap (λ (x : Took). x.place) took_as_law ∙ same.place;
      state = (λ j. with_both (took_as_law j).conn (table_as j)) ∙ same.state;
      history = λ l. subst (λ (r : Run). onto r.heard l ≡ heard_after h (calls_of r) l) (sym frames_are) (heard_same s begun.kind (length s - begun.at) h begun.at l);
      records = ap (λ (x : Took). x.records) took_as_law ∙ ap (λ (y : Answer). accepts y ⇒ recorded_of rs (space_of begun.kind) begun.number ∣ rs) same.answer;
    }

pub is_frames : IsFrames
is_frames h rs first s four a = is_one_by_one h rs first s four a

-- ---- a packet that is refused before its frames

-- from the end of the bytes on there is nothing to walk
pub walk_none : (k : ℕ) (c : Conn) (t : List Entry) (s : List ℕ) (kind : Kind) → walk_from k c t s (length s) kind ≡ record { stop = stopped c (length s) Accepted; table = t }
unfolding walk_from
walk_none zero c t s kind = refl
walk_none (suc k) c t s kind = rw (le-leb (length s) (length s) (omega arith)) refl

-- its answer is that of the first check which refuses it; it closes an open connection with code and type 0, or leaves it; the table and the records are as they were
pub record HeaderRefused (h : State) (rs : Records) (first : ℕ) (s : List ℕ) : Type 0 where
  pub answer : answered h (TakePacket rs first s) ≡ (begun_of h.conn rs h.table first s).answer
  pub place : place_told h rs first s ≡ length s
  pub records : records_after h rs first s ≡ rs
  pub none : frames_in h rs first s ≡ ended (length s)
  pub left : acted h (TakePacket rs first s) ≡ leaves (begun_of h.conn rs h.table first s).answer 0 h
  pub was_open : Demand1.closes (begun_of h.conn rs h.table first s).answer ≡ true → is_open h.conn.mark ≡ true

finish_refused : (begun : Begun) (w : Stopped) (rs : Records) → accepts begun.answer ≡ false → finish_of begun w rs ≡ took_as w begun.answer rs
unfolding finish_of
finish_refused begun w rs e = rw e

module _ (h : State) (rs : Records) (first : ℕ) (s : List ℕ) where
  abbrev stop_of : Begun → Walked
  stop_of g = walk_all g.conn h.table s g.at g.kind

  -- what the walk over no frames leaves, by how the packet was refused
  record Nowhere (g : Begun) : Type 0 where
    place : (stop_of g).stop.place ≡ length s
    state : state_at (stop_of g) ≡ leaves g.answer 0 h
    was_open : Demand1.closes g.answer ≡ true → is_open h.conn.mark ≡ true

  nowhere : (fit : Bool) (g : Begun) → Begins h.conn (length s) (fits h.conn h.table && is_open h.conn.mark) fit g → accepts g.answer ≡ false → Nowhere g
  unfolding closes_of refused_of
  nowhere fit _ (goes kind at number e) a = impossible cc
  nowhere fit _ (closing e) a =
      let w = walk_none (length s - length s) (marked_as h.conn (Code ProtocolViolation 0)) h.table s OneRtt in
      record { place = ap (λ (y : Walked). y.stop.place) w; state = ap state_at w; was_open = λ k. ((and-eq-true_iff (fits h.conn h.table) (is_open h.conn.mark)).0 e).1 }
  nowhere fit _ (stays answer q) a =
      let w = walk_none (length s - length s) h.conn h.table s OneRtt in
      record { place = ap (λ (y : Walked). y.stop.place) w; state = ap state_at w ∙ rw q.leaves refl; was_open = λ k. absurd (not_both _ k q.leaves) }

  pub header_refused : accepts (begun_of h.conn rs h.table first s).answer ≡ false → HeaderRefused h rs first s
  unfolding frames_in took_of took_table
  header_refused a =
      let g = begun_of h.conn rs h.table first s in
      let n = nowhere _ g (begins h.conn rs (fits h.conn h.table) first s) a in
      let f = finish_refused g (stop_of g).stop rs a in
      record {
        answer = ap (λ (x : Took). x.answer) f;
        place = ap (λ (x : Took). x.place) f ∙ n.place;
        records = ap (λ (x : Took). x.records) f;
        none = rw a refl;
        left = ap (λ (x : Took). with_both x.conn (stop_of g).table) f ∙ n.state;
        was_open = n.was_open;
      }

-- a frame that was accepted was read, and enters as it was
pub entered : (h : State) (s : List ℕ) (at : ℕ) (kind : Kind) (l : List Event) → Entered h s at kind l
unfolding onto
entered h s at kind l = record {
  if_accepted = λ a.
      let t = took_is h s at kind (passed_gate h s at kind a) in
      enters_as a t (whole h s at kind (ap (λ (x : TookFrame). accepts x.answer) (sym t) ∙ a));
  if_refused = λ a. rw a refl;
}
  where
    enters_as : accepts (answered h (TakeFrame s at kind)) ≡ true → took_frame_of h.conn h.table s at kind ≡ stepped h s at kind → Whole kind at s h → Enters h s at kind l
    enters_as a t w = record { frame = w.frame; ty = w.ty; next = w.next; reads = w.reads; enters = rw a (ap (λ (x : TookFrame). onto (asked h.conn.role kind x.shown) l) t ∙ ap (λ (v : List View). onto v l) w.asks) }
