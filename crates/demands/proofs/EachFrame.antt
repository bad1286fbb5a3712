-- Every frame of a packet is judged as by the call for one frame, on what the accepted frames before it left: so demand 3's verdict is the verdict on it.
-- Assumes nothing.
use Prim.Native.Nat.{ℕ, ◌-◌}
use mathlib.Core.Path.{◌≡◌, refl, sym, ◌∙◌, ap, subst}
use mathlib.Core.List.{List, [], ◌∷◌, ◌++◌}
use lib.ListN.{length}
use Rattle.answers.specs.Answers.{accepts}
use Rattle.answers.specs.declared.Answer.TheVariants.{Accepted}
use Rattle.answers.proofs.Accepts.{accepts_true}
use Rattle.answers.proofs.Choice.{holds}
use Rattle.answers.proofs.Distinct.{impossible}
use Rattle.kinds.specs.declared.Kind.{Kind}
use Rattle.spaces.specs.declared.Records.{Records}
use Rattle.receive.specs.Taking.{begun_of}
use Rattle.accounts.specs.History.{State}
use Rattle.demands.specs.Hosts.{Act, answered, acted, kept, hosted, host_after}
use Rattle.demands.specs.Hosts.Act.{TakeFrame}
use Rattle.demands.specs.Heard.{one_by_one, frames_in}
use Rattle.demands.specs.EachFrame.{EachJudged, PacketVerdicts}
use Rattle.demands.proofs.OneByOne.{by_frames, is_frames}
use Rattle.demands.proofs.Lifted.{four_of, lifted}
use Rattle.demands.proofs.Proved.{demand3, kept_then}

-- what has an element is not empty
not_empty : {G : Type 0} (before later : List Act) (y : Act) → ◌≡◌ {A = List Act} [] (before ++ (y ∷ later)) → G
not_empty [] later y e = impossible cc
not_empty (z ∷ before) later y e = impossible cc

each_accepted : (s : List ℕ) (kind : Kind) (k : ℕ) (h : State) (at : ℕ) (before later : List Act) (y : Act) → (one_by_one k h s at kind).accepted ≡ before ++ (y ∷ later) → answered (kept h before) y ≡ Accepted
unfolding kept
each_accepted s kind =
    by_frames s kind (λ h at r. Judges h r.accepted) (λ h at before later y. not_empty before later y) (λ h at a before later y. not_empty before later y)
    (λ h at a. inner h (TakeFrame s at kind) [] (accepts_true _ a) (λ before later y. not_empty before later y)) (λ h at r a. inner h (TakeFrame s at kind) r.accepted (accepts_true _ a))
  where
    Judges : State → List Act → Type 0
    Judges h xs = (before later : List Act) (y : Act) → xs ≡ before ++ (y ∷ later) → answered (kept h before) y ≡ Accepted

    -- the first of them, or one of the others
    inner : (h : State) (x : Act) (xs : List Act) → answered h x ≡ Accepted → Judges (acted h x) xs → Judges h (x ∷ xs)
    inner h x xs a ih [] later y e = let p : x ≡ y = cc in subst (λ (z : Act). answered h z ≡ Accepted) p a
    inner h x xs a ih (z ∷ before) later y e =
        let p : x ≡ z = cc in
        let q : xs ≡ before ++ (y ∷ later) = cc in
        subst (λ (w : Act). answered (kept (acted h w) before) y ≡ Accepted) p (ih before later y q)

one_refused : (s : List ℕ) (kind : Kind) (k : ℕ) (h : State) (at : ℕ) (y : Act) (later : List Act) → (one_by_one k h s at kind).refused ≡ y ∷ later → answered (kept h (one_by_one k h s at kind).accepted) y ≡ (one_by_one k h s at kind).answer
unfolding kept
one_refused s kind =
    by_frames s kind (λ h at r. (y : Act) (later : List Act) → r.refused ≡ y ∷ later → answered (kept h r.accepted) y ≡ r.answer) (λ h at y later e. impossible cc)
    (λ h at a y later e. let p : y ≡ TakeFrame s at kind = cc in ap (answered h) p) (λ h at a y later e. impossible cc) (λ h at r a ih. ih)

none_refused : (s : List ℕ) (kind : Kind) (k : ℕ) (h : State) (at : ℕ) → (one_by_one k h s at kind).refused ≡ [] → (one_by_one k h s at kind).answer ≡ Accepted
none_refused s kind = by_frames s kind (λ h at r. r.refused ≡ [] → r.answer ≡ Accepted) (λ h at e. refl) (λ h at a e. impossible cc) (λ h at a e. refl) (λ h at r a ih. ih)

pub each_judged : (h : State) (rs : Records) (first : ℕ) (s : List ℕ) → EachJudged h (frames_in h rs first s)
unfolding frames_in
each_judged h rs first s =
    holds (EachJudged h) (accepts (begun_of h.conn rs h.table first s).answer) _ _
    (λ a. let g = begun_of h.conn rs h.table first s in record { each_accepted = each_accepted s g.kind (length s - g.at) h g.at; one_refused = one_refused s g.kind (length s - g.at) h g.at; none_refused = none_refused s g.kind (length s - g.at) h g.at })
    (λ a. record { each_accepted = λ before later x. not_empty before later x; one_refused = λ x later e. impossible cc; none_refused = λ e. refl })

pub packet_verdicts : PacketVerdicts
packet_verdicts role o t xs rs first s w a =
    let h = host_after role o t xs in
    let r = frames_in h rs first s in
    let j = each_judged h rs first s in
    let four = four_of role o _ h (lifted role o t w xs) in
    record {
      accepted_own = λ before later at kind id end fin e n m. sym ((demand3 role o t (xs ++ before) w).verdict n s at kind id end fin m) ∙ ap (λ (y : State). answered y (TakeFrame s at kind)) (kept_then (hosted role o t) xs before) ∙ j.each_accepted before later (TakeFrame s at kind) e;
      refused_own = λ at kind id end fin e n m.
          (is_frames h rs first s four a).answer ∙ sym (j.one_refused (TakeFrame s at kind) [] e) ∙ ap (λ (y : State). answered y (TakeFrame s at kind)) (sym (kept_then (hosted role o t) xs r.accepted))
          ∙ (demand3 role o t (xs ++ r.accepted) w).verdict n s at kind id end fin m;
    }
