-- What a refusal leaves, call by call: a frame that the gate lets pass is refused with a code that closes, and one that it does not with 101 or 120, which change nothing;
-- a packet is its frames one by one; every other call names what it leaves where it names its answer.
-- Assumes nothing.
use Prim.Native.Nat.{ℕ, ◌-◌}
use mathlib.Core.Path.{◌≡◌, refl, sym, ◌∙◌, ap, subst}
use mathlib.Core.Bool.{Bool, true, false, not, true≢false}
use mathlib.Core.List.{List}
use native.Mathlib.Omega.{arith}
use lib.Dec.{ltb}
use lib.ListN.{length, set}
use Rattle.kinds.specs.declared.Role.{Role}
use Rattle.answers.specs.Choice.{◌⇒◌∣◌}
use Rattle.answers.specs.Answers.{accepts}
use Rattle.answers.specs.declared.Answer.{Answer}
use Rattle.answers.specs.declared.Answer.TheVariants.{Accepted, DoesNotFit}
use Rattle.answers.proofs.Choice.{holds}
use Rattle.wire.specs.Number.{with_number}
use Rattle.wire.specs.Writing.{Draft, writes, number_draft}
use Rattle.wire.proofs.Forms as forms
use Rattle.wire.proofs.Writing as writing
use Rattle.row.specs.Row.{row_draft}
use Rattle.kinds.specs.declared.Kind.{Kind}
use Rattle.frames.specs.Reading.{frame_at}
use Rattle.contents.specs.Content.{contents}
use Rattle.sizes.specs.Spelled.{frame_draft}
use Rattle.records.specs.declared.Record.{Record}
use Rattle.records.specs.Ring.{taken_of}
use Rattle.records.proofs.Taking as taking
use Rattle.acks.specs.Ack.{ack_draft}
use Rattle.streams.specs.declared.Called.{Called}
use Rattle.streams.specs.declared.Conn.{Conn}
use Rattle.entries.specs.declared.Entry.{Entry}
use Rattle.streams.specs.declared.Limits.{Limits}
use Rattle.kinds.specs.declared.Space.{Space}
use Rattle.entries.specs.Entry.{entry_at, most_credit}
use Rattle.streams.specs.Conn.{is_open, next_of, handed_out_of}
use Rattle.kinds.specs.Kinds.{space_of}
use Rattle.opening.specs.Opening.{opening_when, entries_of}
use Rattle.calls.specs.declared.Call.{Call}
use Rattle.replies.specs.declared.Replied.{Replied}
use Rattle.calls.specs.Calls as calls
use Rattle.replies.specs.Replies as replies
use Rattle.calls.specs.Calls.{reply_of}
use Rattle.replies.specs.Replies.{ruled_of, replied_of}
use Rattle.limits.specs.Fits.{fits}
use Rattle.spaces.specs.declared.Records.{Records}
use Rattle.spaces.specs.Spaces.{recorded_of}
use Rattle.steps.specs.declared.TookFrame.{TookFrame}
use Rattle.tables.specs.Opened.{filled_to, opened_table}
use Rattle.local.specs.Calling.{call_place, called_at, called_table}
use Rattle.receive.specs.Taking.{begun_of}
use Rattle.single.specs.Single.{gate_at}
use Rattle.accounts.specs.History.{State}
use Rattle.accounts.proofs.Tests.{not_both}
use Rattle.demands.specs.Hosts.{answered, acted, with_conn, with_both, place_told, kept}
use Rattle.demands.specs.Hosts.Act.{TakeFrame, TakePacket, Make, HandOut}
use Rattle.demands.specs.Heard.{Run, one_by_one, frames_in, calls_of}
use Rattle.demands.specs.Demand1.{wrote_answer, closes, leaves, type_at, Left, Demand1}
use Rattle.demands.specs.Demand1.Asked.{OfHost, Open, RecordNumber, WriteNumber, WriteRow, WriteFrame, Acknowledge}
use Rattle.demands.proofs.Frames.{same_table, closed, refused_with, refusing, Codes, decided, decided_with, shuts, gate_with, took_is, left_is, barred, type_is}
use Rattle.demands.proofs.OneByOne.{by_frames, is_frames, frames_are, header_refused}
use Rattle.std.specs.Prelude.{Option, Result, Ok, Err}

-- an acceptance is no refusal
none : {G : Type 0} → accepts Accepted ≡ false → G
none e = absurd (true≢false e)

-- ---- a frame

-- every code of a frame that does not accept closes
abbrev Closing : Answer → Type 0
Closing answer = accepts answer ≡ false → closes answer ≡ true

closing_codes : Codes Closing
closing_codes = record { accepted = none; flow = λ e. refl; limit = λ e. refl; state = λ e. refl; size = λ e. refl; encoding = λ e. refl; violation = λ e. refl }

-- what is left, by whether the answer closes
leaves_shut : (h : State) (answer : Answer) (ty : ℕ) → closes answer ≡ true → closed h answer ty ≡ leaves answer ty h
leaves_shut h answer ty k = rw k refl

leaves_same : (h : State) (answer : Answer) (ty : ℕ) → closes answer ≡ false → h ≡ leaves answer ty h
leaves_same h answer ty k = rw k refl

frame_left : (h : State) (s : List ℕ) (at : ℕ) (kind : Kind) → accepts (answered h (TakeFrame s at kind)) ≡ false → acted h (TakeFrame s at kind) ≡ leaves (answered h (TakeFrame s at kind)) (type_at s at) h
frame_left h s at kind e = go (accepts (gate_at h.conn h.table)) refl
  where
    answer : Answer
    answer = (decided h kind at (frame_at h.conn.role s at kind)).stepped.answer

    go : (b : Bool) → accepts (gate_at h.conn h.table) ≡ b → acted h (TakeFrame s at kind) ≡ leaves (answered h (TakeFrame s at kind)) (type_at s at) h
    go true g =
        let t = ap (λ (x : TookFrame). x.answer) (took_is h s at kind g) in
        let refused = ap accepts (sym t) ∙ e in
        let k = decided_with h kind at Closing closing_codes (frame_at h.conn.role s at kind) (refused_with Closing (λ d. refl) (λ d. refl) h.conn.role s at kind) refused in
        left_is h s at kind g ∙ shuts h kind at (frame_at h.conn.role s at kind) (refusing h.conn.role s at kind) refused
        ∙ ap (closed h answer) (type_is h.conn.role s at kind) ∙ leaves_shut h answer (type_at s at) k ∙ ap (λ (x : Answer). leaves x (type_at s at) h) (sym t)
    go false g =
        let b = barred h s at kind g in
        b.1 ∙ leaves_same h (gate_at h.conn h.table) (type_at s at) (gate_with (λ x. closes x ≡ false) refl refl (fits h.conn h.table) h.conn.mark g) ∙ ap (λ (x : Answer). leaves x (type_at s at) h) (sym b.0)

-- ---- a packet

-- the frames before the refused one stay applied, and it closes what they left
abbrev RunLeft : List ℕ → State → ℕ → Run → Type 0
RunLeft s h at r = accepts r.answer ≡ false → kept h (calls_of r) ≡ leaves r.answer (type_at s r.place) (kept h r.accepted)

run_left : (s : List ℕ) (kind : Kind) (k : ℕ) (h : State) (at : ℕ) → RunLeft s h at (one_by_one k h s at kind)
unfolding kept
run_left s kind = by_frames s kind (RunLeft s) (λ h at. none) (λ h at a. frame_left h s at kind) (λ h at a. none) (λ h at r a ih. ih)

no_type : (s : List ℕ) → type_at s (length s) ≡ 0
no_type s = ap (λ (n : Option (ℕ × ℕ)). with_number n 0 (λ ty next. ty)) (forms.past s (length s) (omega arith))

packet_left : (h : State) (rs : Records) (first : ℕ) (s : List ℕ) → length h.conn.opened ≡ 4 → accepts (answered h (TakePacket rs first s)) ≡ false → Left (OfHost h (TakePacket rs first s))
unfolding kept
packet_left h rs first s four e = go (accepts (begun_of h.conn rs h.table first s).answer) refl
  where
    whole : accepts (begun_of h.conn rs h.table first s).answer ≡ true → Left (OfHost h (TakePacket rs first s))
    whole a =
        let p = is_frames h rs first s four a in
        let f = frames_are h rs first s four a in
        let g = begun_of h.conn rs h.table first s in
        let r = frames_in h rs first s in
        let refused = ap accepts (sym p.answer) ∙ e in
        let P : Run → Type 0 = λ q. accepts q.answer ≡ false → kept h (calls_of q) ≡ leaves q.answer (type_at s q.place) (kept h q.accepted) in (
          p.state ∙ subst P (sym f) (run_left s g.kind (length s - g.at) h g.at) refused ∙ (λ j. leaves (sym p.answer j) (type_at s (sym p.place j)) (kept h r.accepted)),
          p.records ∙ ap (λ (b : Bool). b ⇒ recorded_of rs (space_of g.kind) g.number ∣ rs) refused,
        )

    header : accepts (begun_of h.conn rs h.table first s).answer ≡ false → Left (OfHost h (TakePacket rs first s))
    header a =
        let p = header_refused h rs first s a in
        let same : h ≡ kept h (frames_in h rs first s).accepted = sym (ap (λ (r : Run). kept h r.accepted) p.none) in
        let ty : 0 ≡ type_at s (place_told h rs first s) = sym (ap (type_at s) p.place ∙ no_type s) in
        (p.left ∙ (λ j. leaves (sym p.answer j) (ty j) (same j)), p.records)

    go : (b : Bool) → accepts (begun_of h.conn rs h.table first s).answer ≡ b → Left (OfHost h (TakePacket rs first s))
    go true a = whole a
    go false a = header a

-- ---- the other calls

handed_left : (c : Conn) (space : Space) → accepts (handed_out_of c space).answer ≡ false → (handed_out_of c space).conn ≡ c
unfolding handed_out_of
handed_left c space = holds (λ (x : Called). accepts x.answer ≡ false → x.conn ≡ c) (ltb most_credit (next_of c space)) _ _ (λ a e. refl) (λ a. none)

module _ (h : State) (k : Call) where
  -- a refused call leaves the connection and the entry
  abbrev Leaves : Replied → Type 0
  Leaves r = accepts r.called.answer ≡ false → (r.called.conn ≡ h.conn) × (r.entry ≡ entry_at h.table (call_place h.conn k))

  replied_left : Leaves (replied_of h.conn (entry_at h.table (call_place h.conn k)) k)
  unfolding replied_of ruled_of replies.settled_of
  replied_left =
      holds Leaves (not (is_open h.conn.mark)) _ _ (λ g e. (refl, refl)) (λ g.
      holds Leaves (accepts (reply_of h.conn (entry_at h.table (call_place h.conn k)) (calls.seated_call h.conn.role k))) _ _ (λ a. none) (λ a e. (refl, refl)))

  abbrev called : Bool → Replied → Called
  called fit r = fit ⇒ r.called ∣ record { answer = DoesNotFit; number = 0; conn = h.conn }

  -- the entry is set to itself
  call_left : (fit : Bool) (r : Replied) → Leaves r → accepts (called fit r).answer ≡ false → with_both (called fit r).conn (fit ⇒ set h.table (call_place h.conn k) r.entry ∣ h.table) ≡ h
  call_left true r f e =
      let g = f e in
      ap (λ (c : Conn). with_both c (set h.table (call_place h.conn k) r.entry)) g.0
      ∙ ap (λ (x : Entry). with_both h.conn (set h.table (call_place h.conn k) x)) g.1 ∙ ap (with_both h.conn) (same_table h.table (call_place h.conn k))
  call_left false r f e = refl

-- ---- opening, recording, writing

open_left : (role : Role) (t : List Entry) (o : Limits) → accepts (opening_when role (length t) o).answer ≡ false → opened_table role t o ≡ t
unfolding opened_table entries_of filled_to
open_left role t o e = rw e refl

taken_left : (R : Record) (n : ℕ) → accepts (taken_of R n).answer ≡ false → (taken_of R n).«record» ≡ R
taken_left R n e = taking.leaves R n (λ a. not_both _ (ap accepts a) e)

-- whatever is written
written_left : (d : Draft) (out : List ℕ) (at : ℕ) → accepts (wrote_answer (writes d out at).0) ≡ false → (writes d out at).1 ≡ out
written_left d out at e = go (writes d out at).0 refl e
  where
    go : (r : Result ℕ Answer) → (writes d out at).0 ≡ r → accepts (wrote_answer r) ≡ false → (writes d out at).1 ≡ out
    go (Ok n) p = none
    go (Err answer) p = λ f. writing.refused d out at {r = (writes d out at).0} {after = (writes d out at).1} refl p

pub demand1 : Demand1
unfolding called_at called_table
demand1 (OfHost h (TakeFrame s at kind)) four = frame_left h s at kind
demand1 (OfHost h (TakePacket rs first s)) four = packet_left h rs first s four
demand1 (OfHost h (Make k)) four = call_left h k (fits h.conn h.table) _ (replied_left h k)
demand1 (OfHost h (HandOut space)) four = λ e. ap (with_conn h) (handed_left h.conn space e)
demand1 (Open role t o) u = open_left role t o
demand1 (RecordNumber R n) u = taken_left R n
demand1 (WriteNumber v out at) u = written_left (number_draft v) out at
demand1 (WriteRow vs out at) u = written_left (row_draft vs) out at
demand1 (WriteFrame s f out at) u = written_left (frame_draft (contents s f)) out at
demand1 (Acknowledge R delay out at) u = written_left (ack_draft R delay) out at
