-- One frame on a connection that is open and whose table fits: the call for it does what a step of the walk does. If it is accepted the table fits again; if it is refused the connection closes with its code and type, and all else is as it was.
-- Assumes nothing.
use Prim.Native.Nat.{ℕ}
use mathlib.Core.Path.{◌≡◌, refl, sym, ◌∙◌, ap, subst}
use mathlib.Core.Bool.{Bool, true, false, not, ◌&&◌}
use mathlib.Core.List.{List, [], ◌∷◌}
use mathlib.Core.Logic.{◌⊎◌, inl, inr}
use lib.ListN.{set}
use lib.Seq.{set-get_or}
use lib.Dec.{leb}
use borrow.Author.Tests.{not-false}
use Rattle.kinds.specs.declared.Role.{Role}
use Rattle.answers.specs.Choice.{◌⇒◌∣◌}
use Rattle.answers.specs.Answers.{accepts}
use Rattle.answers.specs.declared.Answer.{Answer}
use Rattle.answers.specs.declared.Answer.TheVariants.{Accepted, FlowControl, StreamLimit, StreamState, FinalSize, FrameEncoding, ProtocolViolation, Closed, DoesNotFit}
use Rattle.answers.proofs.Accepts.{accepts_true}
use Rattle.answers.proofs.Choice.{holds}
use Rattle.answers.proofs.Distinct.{impossible}
use Rattle.wire.specs.Number.{number_at, shortest, with_number}
use Rattle.layouts.specs.Layout.{known}
use Rattle.fields.specs.Heads.{head_at}
use Rattle.fields.specs.Parts.{parts_at, with_fields}
use Rattle.frames.specs.declared.Frame.{Frame}
use Rattle.kinds.specs.declared.Kind.{Kind}
use Rattle.frames.specs.declared.Reading.{Reading}
use Rattle.admission.specs.Admission.{admitted}
use Rattle.frames.specs.Fields.{frame_of, fields_at}
use Rattle.frames.specs.Reading.{with_head, admitted_head, frame_at}
use Rattle.frames.proofs.Codes.{codes}
use Rattle.halves.specs.Stream.{stream_of, half_of, peers, sends}
use Rattle.streams.specs.declared.Conn.{Conn}
use Rattle.entries.specs.declared.Entry.{Entry}
use Rattle.streams.specs.declared.Mark.{Mark}
use Rattle.streams.specs.declared.Mark.TheVariants.{Code}
use Rattle.entries.specs.Entry.{final_of, fresh, entry_at, entry_of}
use Rattle.streams.specs.Conn.{is_open, marked_as, count_of, next_of}
use Rattle.rules.specs.declared.View.{View}
use Rattle.rules.specs.declared.View.TheVariants.{Ends, Blocks, ForSender, Acks, Closes, Nothing}
use Rattle.views.specs.View.{view_of, stream_in, frame_place}
use Rattle.rules.specs.Rules.{rule1, rule2, rule3, rule4, rule5, ends_of, blocked_of, for_sender_of}
use Rattle.verdicts.specs.declared.Judged.{Judged}
use Rattle.verdicts.specs.Verdict.{verdict_of, settled_of, judged_of}
use Rattle.limits.specs.Fits.{fits}
use Rattle.steps.specs.declared.Decided.{Decided}
use Rattle.steps.specs.declared.Shown.TheVariants as Shown'
use Rattle.steps.specs.declared.TookFrame.{TookFrame}
use Rattle.steps.specs.Gate.{gate_of}
use Rattle.steps.specs.Step.{request_of, request_at, decided_of, shown_of, shown_at}
use Rattle.single.specs.Single.{decided_at}
use Rattle.single.specs.Single.{gate_at, took_frame_of, frame_table}
use Rattle.accounts.specs.History.{State, ruled_of, answer_of, after, conn_after, entry_after}
use Rattle.accounts.specs.History.Event.{Got as Heard}
use Rattle.accounts.proofs.Fits.{Fits, fits_test}
use Rattle.accounts.proofs.Steps.{step_fits}
use Rattle.accounts.proofs.Tests.{not_both}
use Rattle.demands.specs.Hosts.{answered, acted, with_conn}
use Rattle.demands.specs.Hosts.Act.{TakeFrame}
use Rattle.demands.specs.Heard.{shown_by, asked, next_shown}
use Rattle.demands.specs.Demand1.{type_at}
use Rattle.std.specs.Prelude.{Option, Some, None, Result, Ok, Err}
use Rattle.frames.specs.Fields.{read_as}
use Rattle.frames.specs.Fields.{refused_as}
use Rattle.fields.specs.Heads.{refusal}
use Rattle.fields.specs.declared.Parts.{Parts}
use Rattle.fields.specs.declared.Refusal.{Refusal}

-- an entry set to itself
pub same_table : (t : List Entry) (i : ℕ) → set t i (entry_at t i) ≡ t
same_table t i = set-get_or t i (fresh 0)

-- closed with a code and a type, and nothing else changed
abbrev pub closed : State → Answer → ℕ → State
closed h answer ty = with_conn h (marked_as h.conn (Code answer ty))

-- ---- the codes of a refusal

-- what holds of 7 and of 10 holds of the code of a reading that was refused
abbrev pub IfRefused : (Answer → Type 0) → Result Reading Refusal → Type 0
IfRefused P (Ok r) = Unit
IfRefused P (Err r) = P r.answer

pub refused_with : (P : Answer → Type 0) → P FrameEncoding → P ProtocolViolation → (role : Role) (s : List ℕ) (at : ℕ) (kind : Kind) → IfRefused P (frame_at role s at kind)
refused_with P seven ten role s at kind = go (frame_at role s at kind) refl
  where
    code : (answer : Answer) → (answer ≡ FrameEncoding) ⊎ (answer ≡ ProtocolViolation) → P answer
    code answer (inl e) = rw e seven
    code answer (inr e) = rw e ten

    go : (r : Result Reading Refusal) → frame_at role s at kind ≡ r → IfRefused P r
    go (Ok r) e = tt
    go (Err r) e = code r.answer (codes role s at kind e)

-- what a frame that was read asks of the streams; one that was not asks for nothing
abbrev pub view_in : Role → Kind → Result Reading Refusal → View
view_in role kind (Ok r) = view_of role kind r.frame
view_in role kind (Err r) = Nothing

-- it does not accept
abbrev pub Refusing : Result Reading Refusal → Type 0
Refusing r = IfRefused (λ answer. accepts answer ≡ false) r

pub refusing : (role : Role) (s : List ℕ) (at : ℕ) (kind : Kind) → Refusing (frame_at role s at kind)
refusing = refused_with (λ answer. accepts answer ≡ false) refl refl

-- what holds of 0, 3, 4, 5, 6, 7 and 10 holds of every answer to a frame
pub record Codes (P : Answer → Type 0) : Type 0 where
  pub accepted : P Accepted
  pub flow : P FlowControl
  pub limit : P StreamLimit
  pub state : P StreamState
  pub size : P FinalSize
  pub encoding : P FrameEncoding
  pub violation : P ProtocolViolation

module _ (P : Answer → Type 0) (k : Codes P) (c : Conn) where
  ends : (e : Entry) (id end : ℕ) (fin : Bool) → P (ends_of c e id end fin)
  unfolding ends_of
  ends e id end fin =
      holds P (rule1 (count_of c (half_of id)) (stream_of id)) StreamState _ (λ t. k.state) (λ t.
      holds P (rule2 (count_of c (half_of id)) (stream_of id)) StreamLimit _ (λ t. k.limit) (λ t.
      holds P (rule3 (final_of e.size) e.end end fin) FinalSize _ (λ t. k.size) (λ t.
      holds P (rule4 e.credit end) FlowControl _ (λ t. k.flow) (λ t.
      holds P (rule5 c.limits.credit c.total e.end end) FlowControl Accepted (λ t. k.flow) (λ t. k.accepted)))))

  blocks : (id : ℕ) → P (blocked_of c id)
  unfolding blocked_of
  blocks id =
      holds P (rule1 (count_of c (half_of id)) (stream_of id)) StreamState _ (λ t. k.state) (λ t.
      holds P (rule2 (count_of c (half_of id)) (stream_of id)) StreamLimit Accepted (λ t. k.limit) (λ t. k.accepted))

  for_sender : (id : ℕ) → P (for_sender_of c id)
  unfolding for_sender_of
  for_sender id =
      holds P (not (sends (half_of id))) StreamState _ (λ t. k.state) (λ t.
      holds P (not (peers (half_of id)) && leb (count_of c (half_of id)) (stream_of id).ordinal) StreamState _ (λ t. k.state) (λ t.
      holds P (rule2 (count_of c (half_of id)) (stream_of id)) StreamLimit Accepted (λ t. k.limit) (λ t. k.accepted)))

  verdict_with : (e : Entry) (v : View) → P (verdict_of c e v)
  unfolding verdict_of
  verdict_with e (Ends id end fin) = ends e id end fin
  verdict_with e (Blocks id) = blocks id
  verdict_with e (ForSender id) = for_sender id
  verdict_with e (Acks space largest) = holds P (leb (next_of c space) largest) ProtocolViolation Accepted (λ t. k.violation) (λ t. k.accepted)
  verdict_with e Closes = k.accepted
  verdict_with e Nothing = k.accepted

-- ---- what a frame leaves of a state, by the reading

module _ (st : State) (kind : Kind) (at : ℕ) where
  abbrev pub decided : Result Reading Refusal → Decided
  decided r = decided_of st.conn (entry_at st.table (request_of st.conn.role kind at r).place) (request_of st.conn.role kind at r)

  abbrev pub left : Result Reading Refusal → State
  left r = record { conn = (decided r).stepped.conn; table = set st.table (request_of st.conn.role kind at r).place (decided r).entry }

  pub more_open : (r : Result Reading Refusal) → is_open (decided r).stepped.conn.mark ≡ is_open (left r).conn.mark
  unfolding decided_of
  more_open r = refl

  -- every answer to a frame is one of those codes
  pub decided_with : (P : Answer → Type 0) → Codes P → (r : Result Reading Refusal) → IfRefused P r → P (decided r).stepped.answer
  unfolding decided_of request_of judged_of settled_of
  decided_with P k (Ok r) f = holds (λ (j : Judged). P j.answer) (accepts (verdict_of st.conn (entry_of st.table (stream_in (view_of st.conn.role kind r.frame))) (view_of st.conn.role kind r.frame))) _ _ (λ e. k.accepted) (λ e. verdict_with P k st.conn _ (view_of st.conn.role kind r.frame))
  decided_with P k (Err r) f = f

  -- a refused frame closes, and all else is as it was
  pub shuts : (r : Result Reading Refusal) → Refusing r → accepts (decided r).stepped.answer ≡ false → left r ≡ closed st (decided r).stepped.answer (request_of st.conn.role kind at r).ty
  unfolding decided_of request_of judged_of settled_of
  shuts (Ok r) c = go (accepts (verdict_of st.conn e (view_of st.conn.role kind r.frame))) refl
    where
      e : Entry
      e = entry_of st.table (stream_in (view_of st.conn.role kind r.frame))

      go : (b : Bool) → accepts (verdict_of st.conn e (view_of st.conn.role kind r.frame)) ≡ b → accepts (decided (Ok r)).stepped.answer ≡ false → left (Ok r) ≡ closed st (decided (Ok r)).stepped.answer r.ty
      go true d = rw d (λ f. impossible cc)
      go false d = rw (d, same_table st.table (frame_place (view_of st.conn.role kind r.frame))) (λ f. refl)
  shuts (Err r) c = rw (same_table st.table 0) (λ f. refl)

-- ---- a connection that is open and whose table fits

pub record Live (h : State) : Type 0 where
  pub fit : Fits h.conn h.table
  pub still_open : is_open h.conn.mark ≡ true

-- where the table fits and the connection is open, the answer to a frame is the rules'
pub ruled_answer : (h : State) (view : View) → Live h → answer_of h (Heard view) ≡ verdict_of h.conn (entry_of h.table (stream_in view)) view
unfolding answer_of ruled_of
ruled_answer h view v = rw (fits_test _ _ v.fit, v.still_open) refl

module _ (h : State) (v : Live h) (kind : Kind) (at : ℕ) where
  -- an accepted frame leaves the state after its event, whose table fits
  pub accepted_is : (r : Result Reading Refusal) → Refusing r → accepts (decided h kind at r).stepped.answer ≡ true
      → (answer_of h (Heard (view_in h.conn.role kind r)) ≡ Accepted) × (left h kind at r ≡ after h (Heard (view_in h.conn.role kind r)))
  unfolding decided_of request_of judged_of settled_of after conn_after entry_after
  accepted_is (Ok r) c = go (accepts (verdict_of h.conn (entry_of h.table (stream_in (view_of h.conn.role kind r.frame))) (view_of h.conn.role kind r.frame))) refl
    where
      go : (b : Bool) → accepts (verdict_of h.conn (entry_of h.table (stream_in (view_of h.conn.role kind r.frame))) (view_of h.conn.role kind r.frame)) ≡ b → accepts (decided h kind at (Ok r)).stepped.answer ≡ true
          → (answer_of h (Heard (view_of h.conn.role kind r.frame)) ≡ Accepted) × (left h kind at (Ok r) ≡ after h (Heard (view_of h.conn.role kind r.frame)))
      go true e = rw e (λ a. (ruled_answer h (view_of h.conn.role kind r.frame) v ∙ accepts_true _ e, refl))
      go false e = rw e (λ a. impossible cc)
  accepted_is (Err r) c = λ a. absurd (not_both _ a c)

  pub accepted_fits : (r : Result Reading Refusal) → Refusing r → accepts (decided h kind at r).stepped.answer ≡ true → Fits (left h kind at r).conn (left h kind at r).table
  accepted_fits r c a = let w = accepted_is r c a in subst (λ (x : State). Fits x.conn x.table) (sym w.1) (step_fits h (Heard (view_in h.conn.role kind r)) v.fit w.0)

-- ---- the call for it

gate_open : (fit : Bool) (mark : Mark) → fit ≡ true → is_open mark ≡ true → accepts (gate_of fit mark) ≡ true
unfolding gate_of
gate_open fit mark f p = rw (f, p) refl

pub gate_passes : (fit : Bool) (mark : Mark) → accepts (gate_of fit mark) ≡ true → is_open mark ≡ true
unfolding gate_of
gate_passes fit mark =
    holds (λ (g : Answer). accepts g ≡ true → is_open mark ≡ true) (not fit) _ _ (λ e p. impossible cc) (λ e.
    holds (λ (g : Answer). accepts g ≡ true → is_open mark ≡ true) (not (is_open mark)) _ _ (λ f p. impossible cc) (λ f p. not-false _ f))

-- what does not pass the gate is refused with 120 or 101
pub gate_with : (P : Answer → Type 0) → P DoesNotFit → P Closed → (fit : Bool) (mark : Mark) → accepts (gate_of fit mark) ≡ false → P (gate_of fit mark)
unfolding gate_of
gate_with P unfit closed fit mark =
    holds (λ (g : Answer). accepts g ≡ false → P g) (not fit) _ _ (λ e p. unfit) (λ e.
    holds (λ (g : Answer). accepts g ≡ false → P g) (not (is_open mark)) _ _ (λ f p. closed) (λ f p. impossible cc))

module _ (h : State) (s : List ℕ) (at : ℕ) (kind : Kind) where
  abbrev pub stepped : TookFrame
  stepped = record { answer = (decided h kind at (frame_at h.conn.role s at kind)).stepped.answer; shown = shown_at h.conn.role s at kind; conn = (left h kind at (frame_at h.conn.role s at kind)).conn }

  pub took_is : accepts (gate_at h.conn h.table) ≡ true → took_frame_of h.conn h.table s at kind ≡ stepped
  unfolding took_frame_of decided_at request_at
  took_is p = holds (λ (x : TookFrame). x ≡ stepped) (accepts (gate_at h.conn h.table)) _ _ (λ g. refl) (λ g. absurd (not_both _ p g))

  table_is : accepts (gate_at h.conn h.table) ≡ true → frame_table h.conn h.table s at kind ≡ (left h kind at (frame_at h.conn.role s at kind)).table
  unfolding frame_table decided_at request_at
  table_is p = holds (λ (x : List Entry). x ≡ (left h kind at (frame_at h.conn.role s at kind)).table) (accepts (gate_at h.conn h.table)) _ _ (λ g. refl) (λ g. absurd (not_both _ p g))

  pub left_is : accepts (gate_at h.conn h.table) ≡ true → acted h (TakeFrame s at kind) ≡ left h kind at (frame_at h.conn.role s at kind)
  left_is p = λ j. record { conn = (took_is p j).conn; table = table_is p j }

  -- what does not pass the gate is refused, and changes nothing
  pub barred : accepts (gate_at h.conn h.table) ≡ false → (answered h (TakeFrame s at kind) ≡ gate_at h.conn h.table) × (acted h (TakeFrame s at kind) ≡ h)
  unfolding took_frame_of frame_table
  barred g = (ap (λ (x : TookFrame). x.answer) conn_is, λ j. record { conn = (conn_is j).conn; table = same_is j })
    where
      none : TookFrame
      none = record { answer = gate_at h.conn h.table; shown = Shown'.Nothing; conn = h.conn }

      conn_is : took_frame_of h.conn h.table s at kind ≡ none
      conn_is = holds (λ (x : TookFrame). x ≡ none) (accepts (gate_at h.conn h.table)) _ _ (λ p. absurd (not_both _ p g)) (λ p. refl)

      same_is : frame_table h.conn h.table s at kind ≡ h.table
      same_is = holds (λ (x : List Entry). x ≡ h.table) (accepts (gate_at h.conn h.table)) _ _ (λ p. absurd (not_both _ p g)) (λ p. refl)

  -- an accepted frame passed the gate
  pub passed_gate : accepts (answered h (TakeFrame s at kind)) ≡ true → accepts (gate_at h.conn h.table) ≡ true
  passed_gate a = go (accepts (gate_at h.conn h.table)) refl
    where
      go : (b : Bool) → accepts (gate_at h.conn h.table) ≡ b → accepts (gate_at h.conn h.table) ≡ true
      go true g = g
      go false g = absurd (not_both _ (ap accepts (sym (barred g).0) ∙ a) (gate_with (λ answer. accepts answer ≡ false) refl refl (fits h.conn h.table) h.conn.mark g))

module _ (h : State) (v : Live h) (s : List ℕ) (at : ℕ) (kind : Kind) where
  gate : accepts (gate_at h.conn h.table) ≡ true
  gate = gate_open (fits h.conn h.table) h.conn.mark (fits_test _ _ v.fit) v.still_open

  pub answer_is : answered h (TakeFrame s at kind) ≡ (decided h kind at (frame_at h.conn.role s at kind)).stepped.answer
  answer_is = ap (λ (x : TookFrame). x.answer) (took_is h s at kind gate)

  pub shown_is : shown_by h s at kind ≡ shown_at h.conn.role s at kind
  shown_is = ap (λ (x : TookFrame). x.shown) (took_is h s at kind gate)

  pub acted_is : acted h (TakeFrame s at kind) ≡ left h kind at (frame_at h.conn.role s at kind)
  acted_is = left_is h s at kind gate

-- what is shown of a frame that was accepted is the frame as it was read: what it asked, and the place after it
pub record Whole (kind : Kind) (at : ℕ) (s : List ℕ) (h : State) : Type 0 where
  pub frame : Frame
  pub ty : ℕ
  pub next : ℕ
  pub reads : frame_at h.conn.role s at kind ≡ read_as frame ty next
  pub asks : asked h.conn.role kind (shown_at h.conn.role s at kind) ≡ view_of h.conn.role kind frame ∷ []
  pub follows : next_shown at (shown_at h.conn.role s at kind) ≡ next
  pub goes : next_shown at (shown_at h.conn.role s at kind) ≡ (decided h kind at (frame_at h.conn.role s at kind)).stepped.next

pub whole : (h : State) (s : List ℕ) (at : ℕ) (kind : Kind) → accepts (decided h kind at (frame_at h.conn.role s at kind)).stepped.answer ≡ true → Whole kind at s h
unfolding shown_at shown_of request_of decided_of
whole h s at kind a = go (frame_at h.conn.role s at kind) refl (refusing h.conn.role s at kind) a
  where
    go : (r : Result Reading Refusal) → frame_at h.conn.role s at kind ≡ r → Refusing r → accepts (decided h kind at r).stepped.answer ≡ true → Whole kind at s h
    go (Ok r) e c = λ b. record { frame = r.frame; ty = r.ty; next = r.next; reads = e; asks = rw e refl; follows = rw e refl; goes = rw e refl }
    go (Err r) e c = λ b. absurd (not_both _ b c)

-- ---- the type

-- the type of a reading is the number that stands at the place, and 0 where none can be read
abbrev TypeIs : ℕ → Result Reading Refusal → Type 0
TypeIs n (Ok r) = r.ty ≡ n
TypeIs n (Err r) = r.ty ≡ n

fields_type : (s : List ℕ) (at ty : ℕ) → TypeIs ty (fields_at s at ty)
unfolding fields_at
fields_type s at ty = go (parts_at s at ty)
  where
    go : (p : Option (Parts × ℕ)) → TypeIs ty (with_fields p (refused_as FrameEncoding ty) (λ q next. read_as (frame_of q) ty next))
    go (Some (parts, next)) = refl
    go None = refl

reading_type : (role : Role) (s : List ℕ) (at : ℕ) (kind : Kind) → TypeIs (type_at s at) (frame_at role s at kind)
unfolding frame_at head_at
reading_type role s at kind = go (number_at s at)
  where
    body : Option (ℕ × ℕ) → Result (ℕ × ℕ) Refusal
    body n = with_number n (Err (refusal FrameEncoding 0)) (λ ty next. not (shortest at ty next) ⇒ Err (refusal ProtocolViolation ty) ∣ not (known ty) ⇒ Err (refusal FrameEncoding ty) ∣ Ok (ty, next))

    go : (n : Option (ℕ × ℕ)) → TypeIs (with_number n 0 (λ ty next. ty)) (with_head (admitted_head role kind (body n)) (λ ty next. fields_at s next ty))
    go (Some (ty, next)) =
        holds (λ (x : Result (ℕ × ℕ) Refusal). TypeIs ty (with_head (admitted_head role kind x) (λ ty next. fields_at s next ty))) (not (shortest at ty next)) _ _ (λ e. refl) (λ e.
        holds (λ (x : Result (ℕ × ℕ) Refusal). TypeIs ty (with_head (admitted_head role kind x) (λ ty next. fields_at s next ty))) (not (known ty)) _ _ (λ f. refl) (λ f.
        holds (λ (x : Result (ℕ × ℕ) Refusal). TypeIs ty (with_head x (λ ty next. fields_at s next ty))) (not (admitted role kind ty)) _ _ (λ g. refl) (λ g. fields_type s next ty)))
    go None = refl

pub type_is : (role : Role) (s : List ℕ) (at : ℕ) (kind : Kind) → (request_of role kind at (frame_at role s at kind)).ty ≡ type_at s at
unfolding request_of
type_is role s at kind = go (frame_at role s at kind) (reading_type role s at kind)
  where
    go : (r : Result Reading Refusal) → TypeIs (type_at s at) r → (request_of role kind at r).ty ≡ type_at s at
    go (Ok r) e = e
    go (Err r) e = e
