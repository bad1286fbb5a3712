-- 120 never comes of the host's own calls: the records that a packet leaves fit again, and where the table and the records fit no call answers 120.
-- Every other answer is named where it is given, and none of these is 120.
-- Assumes nothing.
use Prim.Native.Nat.{ℕ, zero, suc, ◌-◌}
use mathlib.Core.Path.{◌≡◌, refl}
use mathlib.Core.Bool.{Bool, true, false, not, ◌||◌}
use mathlib.Core.List.{List}
use lib.Dec.{ltb, leb, eqb}
use lib.ListN.{length}
use Rattle.answers.specs.Answers.{number_of}
use Rattle.answers.specs.declared.Answer.{Answer}
use Rattle.answers.specs.declared.Answer.TheVariants.{Accepted, NotAbove, AboveCeiling, NotServed, SizeKnown}
use Rattle.answers.proofs.Choice.{holds}
use Rattle.kinds.specs.declared.Kind.{Kind}
use Rattle.frames.specs.Reading.{frame_at}
use Rattle.records.specs.declared.Record.{Record}
use Rattle.records.specs.Marks.{sound_of, none_of}
use Rattle.records.specs.Ring.{taken_of}
use Rattle.records.proofs.None.{none_fits}
use Rattle.records.proofs.Taking.{can_be, leaves, still_fits}
use Rattle.streams.specs.declared.Conn.{Conn}
use Rattle.entries.specs.declared.Entry.{Entry}
use Rattle.streams.specs.declared.Called.{Called}
use Rattle.verdicts.specs.declared.Judged.{Judged}
use Rattle.streams.specs.declared.Mark.{Mark}
use Rattle.kinds.specs.declared.Space.{Space}
use Rattle.kinds.specs.declared.Space.TheVariants.{Initial, Handshake, Application}
use Rattle.halves.specs.Stream.{half_of, ordinal_of, receives, most_streams}
use Rattle.entries.specs.Entry.{most_credit, final_of, is_known, entry_at}
use Rattle.streams.specs.Conn.{is_open, opened_of, count_of, next_of, handed_out_of}
use Rattle.kinds.specs.Kinds.{space_of}
use Rattle.calls.specs.declared.Call.{Call}
use Rattle.calls.specs.declared.Call.TheVariants.{RaiseCredit, RaiseStream, RaiseCount, OpenNext}
use Rattle.replies.specs.declared.Replied.{Replied}
use Rattle.calls.specs.Calls as calls
use Rattle.replies.specs.Replies as replies
use Rattle.calls.specs.Calls.{raise_of, peers_type, ours_type, reply_of}
use Rattle.replies.specs.Replies.{ruled_of, replied_of}
use Rattle.answers.specs.Answers.{accepts}
use Rattle.limits.specs.Fits.{fits}
use Rattle.accounts.proofs.Tests.{not_both}
use Rattle.answers.proofs.Accepts.{accepts_true}
use Rattle.packets.specs.declared.Begun.{Begun}
use Rattle.spaces.specs.declared.Records.{Records}
use Rattle.steps.specs.declared.Stopped.{Stopped}
use Rattle.endings.specs.declared.Took.{Took}
use Rattle.steps.specs.declared.TookFrame.{TookFrame}
use Rattle.spaces.specs.Spaces.{records_fit, recorded_of}
use Rattle.spaces.proofs.Each.{each}
use Rattle.steps.specs.Step.{request_at}
use Rattle.packets.specs.Begin as begin
use Rattle.endings.specs.Finish.{finish_of}
use Rattle.steps.specs.Gate.{gate_of}
use Rattle.walks.specs.Walk.{Walked, walk_from}
use Rattle.single.specs.Single.{decided_at, stepped_at}
use Rattle.receive.specs.Taking.{begun_of, took_of}
use Rattle.single.specs.Single.{gate_at, took_frame_of}
use Rattle.local.specs.Calling.{call_place, called_at}
use Rattle.accounts.specs.History.{State}
use Rattle.demands.specs.Hosts.{Act, answered, records_after}
use Rattle.demands.specs.Hosts.Act.{TakeFrame, TakePacket, Make, HandOut}
use Rattle.demands.specs.Demand3.{Fitted}
use Rattle.demands.proofs.Begins.{Begins, begins}
use Rattle.demands.proofs.Begins.Begins.{goes, shuts, stays}
use Rattle.demands.proofs.Frames.{refused_with, Codes, decided_with}

-- an answer that is not 120
pub record Fitting (answer : Answer) : Type 0 where
  pub not_120 : eqb (number_of answer) 120 ≡ false

-- the same of what holds an answer
abbrev CalledFits : Called → Type 0
CalledFits x = Fitting x.answer

abbrev JudgedFits : Judged → Type 0
JudgedFits x = Fitting x.answer

abbrev FrameFits : TookFrame → Type 0
FrameFits x = Fitting x.answer

abbrev TookFits : Took → Type 0
TookFits x = Fitting x.answer

-- ---- the rules

-- every code of a frame
fitting_codes : Codes Fitting
fitting_codes = record { accepted = record { not_120 = refl }; flow = record { not_120 = refl }; limit = record { not_120 = refl }; state = record { not_120 = refl }; size = record { not_120 = refl }; encoding = record { not_120 = refl }; violation = record { not_120 = refl } }

module _ (c : Conn) where
  raises : (present new ceiling : ℕ) → Fitting (raise_of present new ceiling)
  unfolding raise_of
  raises present new ceiling =
      holds Fitting (ltb ceiling new) AboveCeiling _ (λ t. record { not_120 = refl }) (λ t.
      holds Fitting (leb new present) NotAbove Accepted (λ t. record { not_120 = refl }) (λ t. record { not_120 = refl }))

  reply_fits : (e : Entry) (k : Call) → Fitting (reply_of c e k)
  unfolding reply_of
  reply_fits e (RaiseCredit new) = raises c.limits.credit new most_credit
  reply_fits e (RaiseStream id new) =
      holds Fitting (not (receives (half_of id)) || leb (opened_of c (half_of id)) (ordinal_of id)) NotServed _ (λ t. record { not_120 = refl }) (λ t.
      holds Fitting (is_known (final_of e.size)) SizeKnown _ (λ t. record { not_120 = refl }) (λ t. raises e.credit new most_credit))
  reply_fits e (RaiseCount ty new) = holds Fitting (not (peers_type ty)) NotServed _ (λ t. record { not_120 = refl }) (λ t. raises (count_of c (half_of ty)) new most_streams)
  reply_fits e (OpenNext ty) =
      holds Fitting (not (ours_type ty)) NotServed _ (λ t. record { not_120 = refl }) (λ t.
      holds Fitting (leb most_streams (opened_of c (half_of ty))) AboveCeiling Accepted (λ t. record { not_120 = refl }) (λ t. record { not_120 = refl }))

  abbrev RepliedFits : Replied → Type 0
  RepliedFits r = Fitting r.called.answer

  replied_fits : (e : Entry) (k : Call) → RepliedFits (replied_of c e k)
  unfolding replied_of ruled_of replies.settled_of
  replied_fits e k =
      holds RepliedFits (not (is_open c.mark)) _ _ (λ t. record { not_120 = refl }) (λ t.
      holds RepliedFits (accepts (reply_of c e (calls.seated_call c.role k))) _ _ (λ a. record { not_120 = refl }) (λ a. reply_fits e (calls.seated_call c.role k)))

-- ---- one frame, and the walk

stepped_fits : (c : Conn) (t : List Entry) (s : List ℕ) (at : ℕ) (kind : Kind) → Fitting (stepped_at c t s at kind).answer
unfolding decided_at request_at
stepped_fits c t s at kind = decided_with (record { conn = c; table = t }) kind at Fitting fitting_codes (frame_at c.role s at kind) (refused_with Fitting (record { not_120 = refl }) (record { not_120 = refl }) c.role s at kind)

abbrev StopFits : Walked → Type 0
StopFits w = Fitting w.stop.answer

walk_fits : (k : ℕ) (c : Conn) (t : List Entry) (s : List ℕ) (at : ℕ) (kind : Kind) → StopFits (walk_from k c t s at kind)
unfolding walk_from
walk_fits zero c t s at kind = record { not_120 = refl }
walk_fits (suc k) c t s at kind =
    holds StopFits (leb (length s) at) _ _ (λ e. record { not_120 = refl }) (λ e.
    holds StopFits (is_open (stepped_at c t s at kind).conn.mark) _ _ (λ m. walk_fits k _ _ s _ kind) (λ m. stepped_fits c t s at kind))

-- ---- the calls, where all fits

begun_fits : (c : Conn) (end : ℕ) (live fit : Bool) (begun : Begun) → fit ≡ true → Begins c end live fit begun → Fitting begun.answer
unfolding begin.closes_of begin.refused_of
begun_fits c end live fit _ f (goes kind at number e) = record { not_120 = refl }
begun_fits c end live fit _ f (shuts e) = record { not_120 = refl }
begun_fits c end live fit _ f (stays answer q) = record { not_120 = q.fitting f }

finish_fits : (begun : Begun) (w : Stopped) (rs : Records) → Fitting begun.answer → Fitting w.answer → Fitting (finish_of begun w rs).answer
unfolding finish_of
finish_fits begun w rs f g =
    holds TookFits (accepts begun.answer) _ _ (λ e.
    holds TookFits (accepts w.answer) _ _ (λ d. record { not_120 = refl }) (λ d. g)) (λ e. f)

handed_fits : (c : Conn) (space : Space) → CalledFits (handed_out_of c space)
unfolding handed_out_of
handed_fits c space = holds CalledFits (ltb most_credit (next_of c space)) _ _ (λ t. record { not_120 = refl }) (λ t. record { not_120 = refl })

gate_fits : (fit : Bool) (mark : Mark) → fit ≡ true → Fitting (gate_of fit mark)
unfolding gate_of
gate_fits fit mark f = rw f (holds Fitting (not (is_open mark)) _ _ (λ e. record { not_120 = refl }) (λ e. record { not_120 = refl }))

module _ (h : State) (f : fits h.conn h.table ≡ true) where
  frame_fits : (s : List ℕ) (at : ℕ) (kind : Kind) → Fitting (answered h (TakeFrame s at kind))
  unfolding took_frame_of
  frame_fits s at kind = holds FrameFits (accepts (gate_at h.conn h.table)) _ _ (λ p. stepped_fits h.conn h.table s at kind) (λ p. gate_fits _ h.conn.mark f)

  packet_fits : (rs : Records) (first : ℕ) (s : List ℕ) → records_fit rs ≡ true → Fitting (answered h (TakePacket rs first s))
  unfolding took_of
  packet_fits rs first s g =
      let begun = begun_of h.conn rs h.table first s in
      finish_fits begun _ rs (begun_fits h.conn (length s) _ _ begun (rw (f, g)) (begins h.conn rs (fits h.conn h.table) first s))
      (walk_fits (length s - begun.at) begun.conn h.table s begun.at begun.kind)

  call_fits : (k : Call) → Fitting (answered h (Make k))
  unfolding called_at
  call_fits k = holds CalledFits (fits h.conn h.table) _ _ (λ e. replied_fits h.conn (entry_at h.table (call_place h.conn k)) k) (λ e. absurd (not_both _ f e))

  pub answer_fits : (x : Act) → Fitted x → Fitting (answered h x)
  answer_fits (TakeFrame s at kind) g = frame_fits s at kind
  answer_fits (TakePacket rs first s) g = packet_fits rs first s g
  answer_fits (Make k) g = call_fits k
  answer_fits (HandOut space) g = handed_fits h.conn space

-- ---- the records

-- a record with a number more can be, or it is as it was
taken_sound : (R : Record) (n : ℕ) → sound_of R ≡ true → sound_of (taken_of R n).«record» ≡ true
taken_sound R n s = go (accepts (taken_of R n).answer) refl
  where
    go : (b : Bool) → accepts (taken_of R n).answer ≡ b → sound_of (taken_of R n).«record» ≡ true
    go true e = can_be _ (still_fits R n (accepts_true _ e))
    go false e = rw (leaves R n (λ a. not_both _ (rw a) e)) s

-- all three can be
record Sounds (rs : Records) : Type 0 where
  initial : sound_of rs.initial ≡ true
  handshake : sound_of rs.handshake ≡ true
  application : sound_of rs.application ≡ true

sounds : (rs : Records) → records_fit rs ≡ true → Sounds rs
sounds rs e = record { initial = each rs e Initial; handshake = each rs e Handshake; application = each rs e Application }

records_test : (rs : Records) → Sounds rs → records_fit rs ≡ true
unfolding records_fit
records_test rs s = rw (s.initial, s.handshake, s.application)

recorded_fits : (rs : Records) (space : Space) (n : ℕ) → records_fit rs ≡ true → records_fit (recorded_of rs space n) ≡ true
unfolding recorded_of
recorded_fits rs Initial n e = let s = sounds rs e in records_test _ (record { initial = taken_sound rs.initial n s.initial; handshake = s.handshake; application = s.application })
recorded_fits rs Handshake n e = let s = sounds rs e in records_test _ (record { initial = s.initial; handshake = taken_sound rs.handshake n s.handshake; application = s.application })
recorded_fits rs Application n e = let s = sounds rs e in records_test _ (record { initial = s.initial; handshake = s.handshake; application = taken_sound rs.application n s.application })

abbrev TookSound : Took → Type 0
TookSound x = records_fit x.records ≡ true

finish_sound : (begun : Begun) (w : Stopped) (rs : Records) → records_fit rs ≡ true → TookSound (finish_of begun w rs)
unfolding finish_of
finish_sound begun w rs e =
    holds TookSound (accepts begun.answer) _ _ (λ a.
    holds TookSound (accepts w.answer) _ _ (λ b. recorded_fits rs (space_of begun.kind) begun.number e) (λ b. e)) (λ a. e)

-- the records that a packet hands back fit if those that came with it did, and those of spaces of which nothing came fit
pub records_after_law : (h : State) (rs : Records) (first : ℕ) (s : List ℕ) → records_fit rs ≡ true → records_fit (records_after h rs first s) ≡ true
unfolding took_of
records_after_law h rs first s e = finish_sound _ _ rs e

pub records_none : records_fit (record { initial = none_of; handshake = none_of; application = none_of }) ≡ true
records_none = let s = can_be none_of none_fits in records_test _ (record { initial = s; handshake = s; application = s })
