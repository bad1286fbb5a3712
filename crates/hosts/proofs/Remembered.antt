-- An accepted packet's number is one that its space's record takes, and taking it keeps to the history of that record (crate windows); a refused packet leaves all three, an accepted one the other two.
-- Assumes nothing.
use Prim.Native.Nat.{ℕ}
use mathlib.Core.Path.{◌≡◌, refl, sym, ◌∙◌}
use mathlib.Core.Bool.{Bool, true, false}
use mathlib.Core.List.{List, [], ◌∷◌}
use lib.Dec.{eqb}
use Rattle.answers.specs.Choice.{◌⇒◌∣◌}
use Rattle.answers.specs.Answers.{accepts}
use Rattle.answers.specs.declared.Answer.TheVariants.{Accepted}
use Rattle.answers.proofs.Accepts.{accepts_true}
use Rattle.records.specs.Ring.{taken_of}
use Rattle.windows.specs.History.{Holds, record_after, taken_numbers}
use Rattle.windows.proofs.History as windows
use Rattle.kinds.specs.declared.Space.{Space}
use Rattle.kinds.specs.declared.Space.TheVariants.{Initial, Handshake, Application}
use Rattle.streams.specs.Conn.{index_of}
use Rattle.kinds.specs.Kinds.{space_of}
use Rattle.steps.specs.declared.Stopped.{Stopped}
use Rattle.spaces.specs.declared.Records.{Records}
use Rattle.spaces.specs.Spaces.{record_of, recorded_of}
use Rattle.packets.specs.declared.Begun.{Begun}
use Rattle.endings.specs.Finish.{finish_of}
use Rattle.receive.specs.Taking.{begun_of, took_of}
use Rattle.limits.specs.Fits.{fits}
use Rattle.accounts.specs.History.{State}
use Rattle.accounts.proofs.Tests.{not_both}
use Rattle.demands.specs.Hosts.{answered, acted, records_after}
use Rattle.demands.specs.Hosts.Act.{TakePacket}
use Rattle.demands.proofs.Recorded.{begin_sure, finished}
use Rattle.hosts.specs.Remembered.{Deed, act_of, handed_back, noting, records_kept, numbers_of, no_records, Remembered}
use Rattle.hosts.specs.Remembered.Deed.{Packet, Other}

-- ---- one packet

-- a number more in one space
one_more : (rs : Records) (n : ℕ) (own space : Space) (l : List ℕ) → (taken_of (record_of rs own) n).answer ≡ Accepted → Holds l (record_of rs space) → Holds (eqb (index_of own) (index_of space) ⇒ n ∷ l ∣ l) (record_of (recorded_of rs own n) space)
unfolding recorded_of
one_more rs n Initial Initial l a h = windows.taken l rs.initial h n (sym (h.next n) ∙ a)
one_more rs n Initial Handshake l a h = h
one_more rs n Initial Application l a h = h
one_more rs n Handshake Initial l a h = h
one_more rs n Handshake Handshake l a h = windows.taken l rs.handshake h n (sym (h.next n) ∙ a)
one_more rs n Handshake Application l a h = h
one_more rs n Application Initial l a h = h
one_more rs n Application Handshake l a h = h
one_more rs n Application Application l a h = windows.taken l rs.application h n (sym (h.next n) ∙ a)

-- a packet that is refused leaves the records
unfinished : (g : Begun) (w : Stopped) (rs : Records) → accepts (finish_of g w rs).answer ≡ false → (finish_of g w rs).records ≡ rs
unfolding finish_of
unfinished g w rs = go (accepts g.answer) refl (accepts w.answer) refl
  where
    go : (a : Bool) → accepts g.answer ≡ a → (b : Bool) → accepts w.answer ≡ b → accepts (finish_of g w rs).answer ≡ false → (finish_of g w rs).records ≡ rs
    go true p true q = rw (p, q) (λ e. absurd (not_both _ refl e))
    go true p false q = rw (p, q) (λ e. refl)
    go false p b q = rw p (λ e. refl)

module _ (h : State) (rs : Records) (space : Space) (l : List ℕ) (holding : Holds l (record_of rs space)) where
  step : (x : Deed) → Holds (noting h rs x space l) (record_of (handed_back h rs x) space)
  unfolding took_of
  step (Packet first s) = go (accepts (answered h (TakePacket rs first s))) refl
    where
      g : Begun
      g = begun_of h.conn rs h.table first s

      go : (b : Bool) → accepts (answered h (TakePacket rs first s)) ≡ b → Holds (noting h rs (Packet first s) space l) (record_of (records_after h rs first s) space)
      go true e =
          let f = finished g _ rs (accepts_true _ e) in
          rw (e, f.1) (one_more rs g.number (space_of g.kind) space l (begin_sure h.conn rs first s (fits h.conn h.table) f.0) holding)
      go false e = rw (e, unfinished g _ rs e) holding
  step (Other x) = holding

-- ---- all of it

along : (xs : List Deed) (h : State) (rs : Records) (space : Space) (l : List ℕ) → Holds l (record_of rs space) → Holds (numbers_of h rs xs space l) (record_of (records_kept h rs xs) space)
unfolding records_kept numbers_of
along [] h rs space l w = w
along (x ∷ xs) h rs space l w = along xs (acted h (act_of rs x)) (handed_back h rs x) space (noting h rs x space l) (step h rs space l w x)

none : (space : Space) → Holds [] (record_of no_records space)
unfolding record_after taken_numbers
none Initial = windows.kept []
none Handshake = windows.kept []
none Application = windows.kept []

pub remembered : Remembered
remembered h xs space = along xs h no_records space [] (none space)
