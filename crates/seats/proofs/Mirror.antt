-- The mirror holds: states that agree are one state at its two ends, a frame exchanged asks at the one what it asks at the other, and no rule looks at the role.
-- Assumes nothing.
use Prim.Native.Nat.{ℕ, zero, suc, ◌+◌, ◌*◌, ◌/◌, ◌%◌, ◌<◌}
use mathlib.Core.Path.{◌≡◌, refl, sym, ◌∙◌, ap, subst}
use mathlib.Core.Bool.{Bool, true, false, not}
use mathlib.Core.List.{List}
use native.Mathlib.Omega.{arith}
use lib.ListN.{length, get_or, set}
use lib.Seq.{ext_get_or}
use lib.Dec.{eqb}
use Rattle.answers.specs.Choice.{◌⇒◌∣◌}
use Rattle.answers.specs.Answers.{accepts}
use Rattle.answers.specs.declared.Answer.TheVariants.{Accepted, ProtocolViolation, AboveCeiling, DoesNotFit}
use Rattle.answers.proofs.Choice.{through}
use Rattle.kinds.specs.declared.Kind.{Kind}
use Rattle.kinds.specs.declared.Role.{Role}
use Rattle.kinds.specs.declared.Role.TheVariants.{Server, Client}
use Rattle.fields.specs.Heads.{head_at}
use Rattle.frames.specs.declared.Frame.{Frame}
use Rattle.frames.specs.declared.Frame.TheVariants.{Padding, Ping, Ack, AckEcn, ResetStream, StopSending, Crypto, NewToken, Stream, MaxData, MaxStreamData, MaxStreams, DataBlocked, StreamDataBlocked, StreamsBlocked, NewConnectionId, RetireConnectionId, PathChallenge, PathResponse, ConnectionClose, ApplicationClose, HandshakeDone}
use Rattle.frames.specs.declared.Reading.{Reading}
use Rattle.admission.specs.Admission.{admitted}
use Rattle.frames.specs.Fields.{fields_at}
use Rattle.frames.specs.Reading.{with_head, admitted_head, frame_at}
use Rattle.halves.specs.Seat.{exchanged_of, seated_of, other_of}
use Rattle.halves.specs.Stream.{half_of, place_of}
use Rattle.halves.proofs.Seats.{exchanged_back, seated_back, seated_other}
use Rattle.entries.specs.Entry.{fresh, entry_at, entry_of}
use Rattle.streams.specs.declared.Called.{Called}
use Rattle.streams.specs.declared.Conn.{Conn}
use Rattle.streams.specs.declared.Limits.{Limits}
use Rattle.streams.specs.declared.Mark.TheVariants.{Open}
use Rattle.streams.specs.Conn.{initial_of, opened_of, count_of, limits_fit}
use Rattle.opening.specs.Opening.{opened_conn, unopened_of, opening_of, opening_when, entries_of}
use Rattle.views.specs.View.{view_of}
use Rattle.calls.specs.declared.Call.{Call}
use Rattle.calls.specs.declared.Call.TheVariants.{RaiseCredit, RaiseStream, RaiseCount, OpenNext}
use Rattle.calls.specs.Calls.{seated_call, stream_in}
use Rattle.replies.specs.Replies.{number_called, next_of, replied_of}
use Rattle.limits.specs.Fits.{fits}
use Rattle.tables.specs.Opened.{filled_to, opened_table}
use Rattle.steps.specs.declared.TookFrame.{TookFrame}
use Rattle.steps.specs.Gate.{gate_of}
use Rattle.steps.specs.Step.{request_of, request_at, decided_of}
use Rattle.single.specs.Single.{decided_at, stepped_at, gate_at, took_frame_of, frame_table}
use Rattle.local.specs.Calling.{call_place, replied_at, called_at, called_table}
use Rattle.accounts.specs.History.{State}
use Rattle.accounts.proofs.Tests.{place_is}
use Rattle.demands.specs.Hosts.{answered, acted, number_given, with_both, hosted}
use Rattle.demands.specs.Hosts.Act.{TakeFrame, Make, HandOut}
use Rattle.demands.proofs.Proved.{called_number}
use Rattle.seats.specs.Mirror.{Sized, Agree, exchanged_frame, exchanged_reading, Exchanged, exchanged_call, Mirror, Mirrors, OpenAlike}
use Rattle.seats.proofs.Same.{across, over, count_same, fits_same, decided_over, decided_same, replied_over, replied_same, handed_same}
use Rattle.std.specs.Prelude.{Result, Ok, Err}
use Rattle.fields.specs.Heads.{refusal}
use Rattle.fields.specs.declared.Refusal.{Refusal}

-- ---- a state and its like at the other end

pub agrees : (h : State) → Agree h (over h)
agrees h = record {
  role = refl;
  credit = refl;
  total = refl;
  next = refl;
  mark = refl;
  counts = λ ty. count_same h.conn _ ∙ ap (λ (x : ℕ). count_of h.conn (half_of x)) (seated_other h.conn.role ty);
  opens = λ ty. ap (λ (x : ℕ). opened_of h.conn (half_of x)) (seated_other h.conn.role ty);
  initials = λ ty. ap (λ (x : ℕ). initial_of h.conn.limits (half_of x)) (seated_other h.conn.role ty);
  streams = λ id. ap (entry_of h.table) (seated_other h.conn.role id);
}

-- the half and the ordinal of an ID
parts : (ordinal half : ℕ) → half < 4 → ((4 * ordinal + half) % 4 ≡ half) × ((4 * ordinal + half) / 4 ≡ ordinal)
parts ordinal half l = (omega (arith, l), omega (arith, l))

-- states that agree are one state at its two ends: each half and each place is that of some type or ID
module _ (h k : State) (sh : Sized h) (sk : Sized k) (a : Agree h k) where
  abbrev r : Role
  r = h.conn.role

  -- what is held by halves, at the type that has this half here
  by_half : {A : Type 0} (f : ℕ → A) (g : ℕ → A) → ((ty : ℕ) → f (seated_of k.conn.role (exchanged_of ty)) ≡ g (seated_of r ty)) → (id : ℕ) → f id ≡ g id
  by_half f g e id =
      let here : seated_of r (seated_of r id) ≡ id = seated_back r id in
      let there : seated_of k.conn.role (exchanged_of (seated_of r id)) ≡ id = ap (λ (s : Role). seated_of s (exchanged_of (seated_of r id))) a.role ∙ seated_other r (seated_of r id) ∙ here in
      ap f (sym there) ∙ e (seated_of r id) ∙ ap g here

  opened_is : k.conn.opened ≡ h.conn.opened
  opened_is = ext_get_or 0 k.conn.opened h.conn.opened (sk.open_four ∙ sym sh.open_four) (λ i l.
      let p : i % 4 ≡ i = omega (arith, sk.open_four) in
      subst (λ (x : ℕ). opened_of k.conn x ≡ opened_of h.conn x) p (by_half (λ id. opened_of k.conn (half_of id)) (λ id. opened_of h.conn (half_of id)) a.opens i))

  initial_is : k.conn.limits.initial ≡ h.conn.limits.initial
  initial_is = ext_get_or 0 k.conn.limits.initial h.conn.limits.initial (sk.initial_three ∙ sym sh.initial_three) (λ i l. at i (omega (arith, sk.initial_three)))
    where
      half : (i : ℕ) → initial_of k.conn.limits (half_of i) ≡ initial_of h.conn.limits (half_of i)
      half = by_half (λ id. initial_of k.conn.limits (half_of id)) (λ id. initial_of h.conn.limits (half_of id)) a.initials

      at : (i : ℕ) → i < 3 → get_or k.conn.limits.initial i 0 ≡ get_or h.conn.limits.initial i 0
      at zero l = half 0
      at (suc zero) l = half 1
      at (suc (suc zero)) l = half 2
      at (suc (suc (suc i))) l = absurd (omega arith)

  counts_is : k.conn.limits.counts ≡ h.conn.limits.counts
  unfolding count_of
  counts_is = ext_get_or 0 k.conn.limits.counts h.conn.limits.counts (sk.counts_two ∙ sym sh.counts_two) (λ i l. at i (omega (arith, sk.counts_two)))
    where
      half : (i : ℕ) → count_of k.conn (half_of i) ≡ count_of h.conn (half_of i)
      half = by_half (λ id. count_of k.conn (half_of id)) (λ id. count_of h.conn (half_of id)) a.counts

      at : (i : ℕ) → i < 2 → get_or k.conn.limits.counts i 0 ≡ get_or h.conn.limits.counts i 0
      at zero l = half 0
      at (suc zero) l = half 2
      at (suc (suc i)) l = absurd (omega arith)

  table_is : k.table ≡ h.table
  table_is = ext_get_or (fresh 0) k.table h.table (sk.table_long ∙ sym sh.table_long) (λ i l.
      let id = 4 * (i % 64) + i / 64 in
      let m : i < 192 = omega (arith, sk.table_long) in
      let q = parts (i % 64) (i / 64) (omega arith) in
      let p : place_of id ≡ i = place_is id (omega (arith, q.0), omega (arith, q.1)) ∙ omega (arith, q.0, q.1) in
      subst (λ (x : ℕ). entry_at k.table x ≡ entry_at h.table x) p (by_half (entry_of k.table) (entry_of h.table) a.streams id))

  is_over : k ≡ over h
  is_over = λ i. record {
    conn = record {
      limits = record { credit = a.credit i; counts = counts_is i; initial = initial_is i };
      opened = opened_is i;
      total = a.total i;
      next = a.next i;
      mark = a.mark i;
      role = a.role i;
    };
    table = table_is i;
  }

-- ---- a frame exchanged

exchanged_asks : (role : Role) (kind : Kind) (f : Frame) → view_of (other_of role) kind (exchanged_frame f) ≡ view_of role kind f
exchanged_asks role kind f = elim f as (λ (k : Frame). view_of (other_of role) kind (exchanged_frame k) ≡ view_of role kind k) [
  | Padding ↦ refl
  | Ping ↦ refl
  | Ack largest delay count first at ↦ refl
  | AckEcn largest delay count first at ect0 ect1 ce ↦ refl
  | ResetStream id code size ↦ rw (seated_other role id) refl
  | StopSending id code ↦ rw (seated_other role id) refl
  | Crypto offset at len ↦ refl
  | NewToken at len ↦ refl
  | Stream id offset fin at len ↦ rw (seated_other role id) refl
  | MaxData maximum ↦ refl
  | MaxStreamData id maximum ↦ rw (seated_other role id) refl
  | MaxStreams uni maximum ↦ refl
  | DataBlocked maximum ↦ refl
  | StreamDataBlocked id maximum ↦ rw (seated_other role id) refl
  | StreamsBlocked uni maximum ↦ refl
  | NewConnectionId sequence retire at len token ↦ refl
  | RetireConnectionId sequence ↦ refl
  | PathChallenge at ↦ refl
  | PathResponse at ↦ refl
  | ConnectionClose code ty at len ↦ refl
  | ApplicationClose code at len ↦ refl
  | HandshakeDone ↦ refl
]

request_same : (role : Role) (kind : Kind) (at : ℕ) (x : Result Reading Refusal) → request_of (other_of role) kind at (exchanged_reading x) ≡ request_of role kind at x
unfolding request_of
request_same role kind at (Ok r) = rw (exchanged_asks role kind r.frame) refl
request_same role kind at (Err r) = refl

module _ (role : Role) (s r : List ℕ) (at : ℕ) (kind : Kind) (x : Exchanged role s r at kind) where
  reads_exchanged : frame_at (other_of role) r at kind ≡ exchanged_reading (frame_at role s at kind)
  unfolding frame_at
  reads_exchanged = ap (λ (y : Result (ℕ × ℕ) Refusal). with_head (admitted_head (other_of role) kind y) (λ ty next. fields_at r next ty)) x.head ∙ go (head_at s at) refl
    where
      go : (y : Result (ℕ × ℕ) Refusal) → head_at s at ≡ y → with_head (admitted_head (other_of role) kind y) (λ ty next. fields_at r next ty) ≡ exchanged_reading (with_head (admitted_head role kind y) (λ ty next. fields_at s next ty))
      go (Err r) e = refl
      go (Ok (ty, next)) e =
          ap (λ (b : Bool). with_head (not b ⇒ Err (refusal ProtocolViolation ty) ∣ Ok (ty, next)) (λ ty next. fields_at r next ty)) (x.admission ty next e)
          ∙ by_test (admitted role kind ty)
        where
          by_test : (b : Bool) → with_head (not b ⇒ Err (refusal ProtocolViolation ty) ∣ Ok (ty, next)) (λ ty next. fields_at r next ty)
              ≡ exchanged_reading (with_head (not b ⇒ Err (refusal ProtocolViolation ty) ∣ Ok (ty, next)) (λ ty next. fields_at s next ty))
          by_test true = x.fields ty next e
          by_test false = refl

  asks_same : request_at (other_of role) r at kind ≡ request_at role s at kind
  unfolding request_at
  asks_same = ap (request_of (other_of role) kind at) reads_exchanged ∙ request_same role kind at (frame_at role s at kind)

-- ---- the call for one frame

-- its answer, the connection and the table, by the gate
frame_answer : (h : State) (s : List ℕ) (at : ℕ) (kind : Kind) → answered h (TakeFrame s at kind) ≡ (accepts (gate_at h.conn h.table) ⇒ (stepped_at h.conn h.table s at kind).answer ∣ gate_at h.conn h.table)
unfolding took_frame_of
frame_answer h s at kind = through (λ (x : TookFrame). x.answer) (accepts (gate_at h.conn h.table)) _ _

frame_conn : (h : State) (s : List ℕ) (at : ℕ) (kind : Kind) → (took_frame_of h.conn h.table s at kind).conn ≡ (accepts (gate_at h.conn h.table) ⇒ (stepped_at h.conn h.table s at kind).conn ∣ h.conn)
unfolding took_frame_of
frame_conn h s at kind = through (λ (x : TookFrame). x.conn) (accepts (gate_at h.conn h.table)) _ _

module _ (h : State) (s r : List ℕ) (at : ℕ) (kind : Kind) (x : Exchanged h.conn.role s r at kind) where
  abbrev asks : request_at (other_of h.conn.role) r at kind ≡ request_at h.conn.role s at kind
  asks = asks_same h.conn.role s r at kind x

  decided_over_law : decided_at (across h.conn) h.table r at kind ≡ decided_over (decided_at h.conn h.table s at kind)
  unfolding decided_at
  decided_over_law = (λ i. decided_of (across h.conn) (entry_at h.table (asks i).place) (asks i)) ∙ decided_same h.conn (entry_at h.table (request_at h.conn.role s at kind).place) (request_at h.conn.role s at kind)

  frame_answers : answered (over h) (TakeFrame r at kind) ≡ answered h (TakeFrame s at kind)
  frame_answers =
      frame_answer (over h) r at kind
      ∙ (λ i. accepts (gate_of (fits_same h.conn h.table i) h.conn.mark) ⇒ (decided_over_law i).stepped.answer ∣ gate_of (fits_same h.conn h.table i) h.conn.mark)
      ∙ sym (frame_answer h s at kind)

  frame_leaves : acted (over h) (TakeFrame r at kind) ≡ over (acted h (TakeFrame s at kind))
  unfolding frame_table
  frame_leaves = λ i. with_both (conns i) (tables i)
    where
      conns : (took_frame_of (across h.conn) h.table r at kind).conn ≡ across (took_frame_of h.conn h.table s at kind).conn
      conns =
          frame_conn (over h) r at kind
          ∙ (λ i. accepts (gate_of (fits_same h.conn h.table i) h.conn.mark) ⇒ (decided_over_law i).stepped.conn ∣ across h.conn)
          ∙ sym (through across (accepts (gate_at h.conn h.table)) _ _)
          ∙ ap across (sym (frame_conn h s at kind))

      tables : frame_table (across h.conn) h.table r at kind ≡ frame_table h.conn h.table s at kind
      tables = λ i. accepts (gate_of (fits_same h.conn h.table i) h.conn.mark) ⇒ set h.table (asks i).place (decided_over_law i).entry ∣ h.table

-- ---- a local call

call_same : (role : Role) (k : Call) → seated_call (other_of role) (exchanged_call k) ≡ seated_call role k
call_same role (RaiseCredit new) = refl
call_same role (RaiseStream id new) = rw (seated_other role id) refl
call_same role (RaiseCount ty new) = rw (seated_other role ty) refl
call_same role (OpenNext ty) = rw (seated_other role ty) refl

-- at the other end an ID is the exchanged one
seated_across : (role : Role) (id : ℕ) → seated_of (other_of role) id ≡ exchanged_of (seated_of role id)
seated_across Server id = refl
seated_across Client id = sym (exchanged_back id)

module _ (h : State) (k : Call) where
  abbrev unfit : Conn → Called
  unfit c = record { answer = DoesNotFit; number = 0; conn = c }

  place_same : call_place (across h.conn) (exchanged_call k) ≡ call_place h.conn k
  place_same = ap (λ (x : Call). place_of (stream_in x)) (call_same h.conn.role k)

  -- what it leaves at the other end, whatever number it hands out there
  left_over : (number : ℕ) × (replied_at (across h.conn) h.table (exchanged_call k) ≡ replied_over number (replied_at h.conn h.table k))
  left_over = (_, ap (λ (i : ℕ). replied_of (across h.conn) (entry_at h.table i) (exchanged_call k)) place_same ∙ replied_same h.conn (entry_at h.table (call_place h.conn k)) k (exchanged_call k) (call_same h.conn.role k))

  call_answers : answered (over h) (Make (exchanged_call k)) ≡ answered h (Make k)
  unfolding called_at
  call_answers =
      through (λ (x : Called). x.answer) (fits (across h.conn) h.table) _ _
      ∙ (λ i. fits_same h.conn h.table i ⇒ (left_over.1 i).called.answer ∣ DoesNotFit)
      ∙ sym (through (λ (x : Called). x.answer) (fits h.conn h.table) _ _)

  call_leaves : acted (over h) (Make (exchanged_call k)) ≡ over (acted h (Make k))
  unfolding called_at called_table
  call_leaves = λ i. with_both (conns i) (tables i)
    where
      conns : (called_at (across h.conn) h.table (exchanged_call k)).conn ≡ across (called_at h.conn h.table k).conn
      conns =
          through (λ (x : Called). x.conn) (fits (across h.conn) h.table) _ _
          ∙ (λ i. fits_same h.conn h.table i ⇒ (left_over.1 i).called.conn ∣ across h.conn)
          ∙ sym (through (λ (x : Called). across x.conn) (fits h.conn h.table) (replied_at h.conn h.table k).called (unfit h.conn))

      tables : called_table (across h.conn) h.table (exchanged_call k) ≡ called_table h.conn h.table k
      tables = λ i. fits_same h.conn h.table i ⇒ set h.table (place_same i) (left_over.1 i).entry ∣ h.table

opened_over : (h : State) (ty : ℕ) → accepts (answered h (Make (OpenNext ty))) ≡ true → number_given (over h) (Make (OpenNext (exchanged_of ty))) ≡ exchanged_of (number_given h (Make (OpenNext ty)))
opened_over h ty a =
    (called_number (over h) (OpenNext (exchanged_of ty)) (ap accepts (call_answers h (OpenNext ty)) ∙ a)).0
    ∙ ap (λ (k : Call). number_called (across h.conn) k) (call_same h.conn.role (OpenNext ty))
    ∙ seated_across h.conn.role (next_of h.conn (seated_of h.conn.role ty))
    ∙ ap exchanged_of (sym (called_number h (OpenNext ty) a).0)

-- ---- the law

mirror_over : (h : State) → Mirror h (over h)
mirror_over h = record {
  frame = λ s r at kind x. record { answer = frame_answers h s r at kind x; agree = subst (Agree (acted h (TakeFrame s at kind))) (sym (frame_leaves h s r at kind x)) (agrees _) };
  call = λ k. record { answer = call_answers h k; agree = subst (Agree (acted h (Make k))) (sym (call_leaves h k)) (agrees _) };
  stream = opened_over h;
  number = λ space.
      let e = handed_same h.conn space in
      record { answer = ap (λ (x : Called). x.answer) e; agree = subst (Agree (acted h (HandOut space))) (sym (ap (λ (x : Called). with_both x.conn h.table) e)) (agrees _) };
  number_given_law = λ space. ap (λ (x : Called). x.number) (handed_same h.conn space);
}

pub mirrors : Mirrors
mirrors h k sh sk a = subst (Mirror h) (sym (is_over h k sh sk a)) (mirror_over h)

-- ---- opening

opening_over : (role : Role) (n : ℕ) (o : Limits) → opening_when (other_of role) n o ≡ record { answer = (opening_when role n o).answer; conn = across (opening_when role n o).conn }
unfolding opening_when opening_of
opening_over role n o = go (eqb n 192) (limits_fit o)
  where
    go : (long fit : Bool) → (long ⇒ (fit ⇒ record { answer = Accepted; conn = opened_conn (other_of role) o Open } ∣ unopened_of (other_of role) AboveCeiling) ∣ unopened_of (other_of role) DoesNotFit)
        ≡ record {
          answer = (long ⇒ (fit ⇒ record { answer = Accepted; conn = opened_conn role o Open } ∣ unopened_of role AboveCeiling) ∣ unopened_of role DoesNotFit).answer;
          conn = across (long ⇒ (fit ⇒ record { answer = Accepted; conn = opened_conn role o Open } ∣ unopened_of role AboveCeiling) ∣ unopened_of role DoesNotFit).conn;
        }
    go true true = refl
    go true false = refl
    go false fit = refl

pub open_alike : OpenAlike
unfolding hosted opened_table
open_alike role o t = subst (Agree (hosted role o t)) (λ i. with_both (sym (opening_over role (length t) o) i).conn (filled_to (entries_of (sym (opening_over role (length t) o) i).answer) t o)) (agrees (hosted role o t))
