-- 120 is the first test of every call, so that it decides where it holds; and where all fits every other answer is named where it is given, and none of these is 120 (crate demands, `answer_fits`).
-- Assumes nothing.
use Prim.Native.Nat.{ℕ}
use mathlib.Core.Path.{◌≡◌, refl, ◌∙◌, ap}
use mathlib.Core.Bool.{Bool, true, false, and-eq-true_iff}
use mathlib.Core.List.{List}
use lib.Dec.{ltb, eqb}
use borrow.Author.Tests.{not-true, not-false}
use Rattle.answers.specs.Choice.{◌⇒◌∣◌}
use Rattle.answers.specs.Answers.{number_of, accepts}
use Rattle.answers.specs.declared.Answer.{Answer}
use Rattle.answers.specs.declared.Answer.TheVariants.{DoesNotFit}
use Rattle.answers.proofs.Choice.{holds}
use Rattle.answers.proofs.Distinct.{impossible}
use Rattle.streams.specs.declared.Mark.{Mark}
use Rattle.kinds.specs.declared.Space.{Space}
use Rattle.streams.specs.declared.Called.{Called}
use Rattle.entries.specs.Entry.{most_credit}
use Rattle.streams.specs.Conn.{next_of, handed_out_of}
use Rattle.limits.specs.Fits.{fits}
use Rattle.spaces.specs.declared.Records.{Records}
use Rattle.spaces.specs.Spaces.{records_fit}
use Rattle.packets.specs.Begin.{refused_of, begin_of}
use Rattle.steps.specs.Gate.{gate_of}
use Rattle.receive.specs.Taking.{begun_of}
use Rattle.local.specs.Calling.{replied_at, called_at, called_table}
use Rattle.accounts.specs.History.{State}
use Rattle.accounts.proofs.Tests.{not_both}
use Rattle.demands.specs.Hosts.{Act, answered, acted}
use Rattle.demands.specs.Hosts.Act.{TakeFrame, TakePacket, Make, HandOut}
use Rattle.demands.specs.Demand1.{leaves}
use Rattle.demands.specs.Demand3.{Fitted}
use Rattle.demands.proofs.Frames.{barred}
use Rattle.demands.proofs.OneByOne.{header_refused}
use Rattle.demands.proofs.Fitting.{answer_fits}
use Rattle.hosts.specs.OnlyThen.{does_not_fit, RecordsLeft, OnlyThen}

-- ---- 120 where it does not fit

gate_bars : (fit : Bool) (mark : Mark) → fit ≡ false → (accepts (gate_of fit mark) ≡ false) × (gate_of fit mark ≡ DoesNotFit)
unfolding gate_of
gate_bars fit mark e = rw e (refl, refl)

packet_unfit : (h : State) (rs : Records) (first : ℕ) (s : List ℕ) → does_not_fit h (TakePacket rs first s) ≡ true → (begun_of h.conn rs h.table first s).answer ≡ DoesNotFit
unfolding begin_of refused_of
packet_unfit h rs first s e = rw e refl

-- the answer, what the host keeps, and the records
bars : (h : State) (x : Act) → does_not_fit h x ≡ true → (answered h x ≡ DoesNotFit) × ((acted h x ≡ h) × RecordsLeft h x)
unfolding called_at called_table
bars h (TakeFrame s at kind) e =
    let g = gate_bars (fits h.conn h.table) h.conn.mark (not-true _ e) in
    let b = barred h s at kind g.0 in
    (b.0 ∙ g.1, (b.1, tt))
bars h (TakePacket rs first s) e =
    let a = packet_unfit h rs first s e in
    let p = header_refused h rs first s (ap accepts a) in
    (p.answer ∙ a, (p.left ∙ ap (λ (y : Answer). leaves y 0 h) a, p.records))
bars h (Make call) e =
    let f = not-true (fits h.conn h.table) e in
    (ap (λ (b : Bool). (b ⇒ (replied_at h.conn h.table call).called ∣ record { answer = DoesNotFit; number = 0; conn = h.conn }).answer) f, (rw f refl, tt))
bars h (HandOut space) e = absurd (not_both _ e refl)

-- ---- and only there

handing_out : (h : State) (space : Space) → answered h (HandOut space) ≡ DoesNotFit → ⊥
unfolding handed_out_of
handing_out h space = holds (λ (c : Called). c.answer ≡ DoesNotFit → ⊥) (ltb most_credit (next_of h.conn space)) _ _ (λ t e. impossible cc) (λ t e. impossible cc)

not_120 : (h : State) (x : Act) → fits h.conn h.table ≡ true → Fitted x → answered h x ≡ DoesNotFit → ⊥
not_120 h x f g e = not_both _ (ap (λ (a : Answer). eqb (number_of a) 120) e) (answer_fits h f x g).not_120

where_all_fits : (h : State) (x : Act) → does_not_fit h x ≡ false → answered h x ≡ DoesNotFit → ⊥
where_all_fits h (TakeFrame s at kind) f e = not_120 h (TakeFrame s at kind) (not-false _ f) tt e
where_all_fits h (TakePacket rs first s) f e =
    let g = (and-eq-true_iff (fits h.conn h.table) (records_fit rs)).0 (not-false _ f) in
    not_120 h (TakePacket rs first s) g.0 g.1 e
where_all_fits h (Make call) f e = not_120 h (Make call) (not-false _ f) tt e
where_all_fits h (HandOut space) f e = handing_out h space e

only : (h : State) (x : Act) (b : Bool) → does_not_fit h x ≡ b → answered h x ≡ DoesNotFit → does_not_fit h x ≡ true
only h x true f e = f
only h x false f e = absurd (where_all_fits h x f e)

pub only_then : (h : State) (x : Act) → OnlyThen h x
only_then h x = record { first_of_all = λ e. (bars h x e).0; only_then = only h x (does_not_fit h x) refl; host_left = λ e. (bars h x e).1.0; records_left = λ e. (bars h x e).1.1 }
