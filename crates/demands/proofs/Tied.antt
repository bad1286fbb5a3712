-- The host's calls are what the contracts of crates tables, single, receive and local promise: one theorem a call, on the `ensures` that the toolchain reads off the source (each is a fact).
-- What a call's `ensures` says of its arguments, its result and the table at exit is that the answer is `answered` and what the host then keeps is `acted`.
-- Assumes nothing.
use mathlib.Core.Path.{◌≡◌, refl, ap}
use mathlib.Core.List.{List}
use lib.ListN.{length}
use seplogic.Ra.Ura.{Ura}
use base.Logic.{SProp}
use contract.Lifetimes.{Lfts}
use contract.Monad.{Fun, fact}
use denote.Triple.Clauses.{Ended, Clauses, AtExit}
use denote.Triple.Entry.{Args, Res}
use borrow.Fn.Kinds.{Dens, ended_of}
use types.Logic.{Logic}
use prog.Memory.{Memory}
use prog.Routine.{Routine}
use Rattle.answers.specs.Firm.{Told}
use Rattle.entries.specs.declared.Entry.{Entry}
use Rattle.streams.specs.declared.Called.{Called}
use Rattle.opening.specs.declared.Opened.{Opened}
use Rattle.opening.specs.Opening.{opening_when}
use Rattle.steps.specs.declared.TookFrame.{TookFrame}
use Rattle.endings.specs.declared.Took.{Took}
use Rattle.tables.specs.Opened.{opened_table}
use Rattle.local.specs.Calling.{called_at, called_table}
use Rattle.receive.specs.Taking.{took_of, took_table}
use Rattle.single.specs.Single.{took_frame_of, frame_table}
use Rattle.tables.specs.contracts.open as opening
use Rattle.local.specs.contracts.call as calling
use Rattle.local.proofs.hand_out.Kinds as hand_out
use Rattle.local.proofs.hand_out.Reads as hand_out_reads
use Rattle.single.specs.contracts.take_frame as take_frame
use Rattle.receive.specs.contracts.take_packet as take_packet
use Rattle.demands.specs.Hosts.{answered, acted, with_both, records_after, place_told, number_given, hosted}
use Rattle.demands.specs.Hosts.Act.{TakeFrame, TakePacket, Make, HandOut}
use Rattle.demands.specs.Heard.{shown_by}

-- the `ensures` of the clauses c is a fact of the arguments, the result and the parameters at exit, from which `Does` follows
pub record Ties {M : Type 1} (𝓤 : Ura M) (T : Ended) (c : Clauses 𝓤 T) (Does : Told T) : Type 2 where
  pub told : Told T
  pub a_fact : (κs : Lfts T.signature.lifetimes) (a : Args T.signature κs) (g : (c κs a).ghost) (x : Res T.signature κs) (s : AtExit T κs) → (c κs a).ensures g x s ≡ fact 𝓤 (told κs a x s)
  pub does : (κs : Lfts T.signature.lifetimes) (a : Args T.signature κs) (x : Res T.signature κs) (s : AtExit T κs) → told κs a x s → Does κs a x s

module _ {M : Type 1} {𝓤 : Ura M} (𝓛 : Logic 𝓤) (mem : Memory → SProp 𝓤) (run : Routine → Fun 𝓤) where
  -- single::take_frame(c, t, s, at, kind)
  abbrev pub TookAFrame : Told take_frame.ended
  TookAFrame κs a x e =
      let h = with_both a.0 a.1.0.now in
      let s = a.1.1.0.now in
      let at = a.1.1.1.0 in
      let kind = a.1.1.1.1.0 in
      (x.answer ≡ answered h (TakeFrame s at kind)) × (x.shown ≡ shown_by h s at kind) × (with_both x.conn e.1.0.now ≡ acted h (TakeFrame s at kind))

  pub take_frame_tied : Ties 𝓤 take_frame.ended (take_frame.clauses 𝓛 mem run) TookAFrame
  take_frame_tied = record {
    told = λ κs a x e. (x ≡ took_frame_of a.0 a.1.0.now a.1.1.0.now a.1.1.1.0 a.1.1.1.1.0) × (e.1.0.now ≡ frame_table a.0 a.1.0.now a.1.1.0.now a.1.1.1.0 a.1.1.1.1.0);
    a_fact = λ κs a g x e. refl;
    does = λ κs a x e p. (ap (λ (y : TookFrame). y.answer) p.0, ap (λ (y : TookFrame). y.shown) p.0, λ j. with_both (p.0 j).conn (p.1 j));
  }

  -- receive::take_packet(c, records, t, first, s)
  abbrev pub TookAPacket : Told take_packet.ended
  TookAPacket κs a x e =
      let rs = a.1.0 in
      let h = with_both a.0 a.1.1.0.now in
      let first = a.1.1.1.0 in
      let s = a.1.1.1.1.0.now in
      (x.answer ≡ answered h (TakePacket rs first s)) × (x.place ≡ place_told h rs first s) × (x.records ≡ records_after h rs first s) × (with_both x.conn e.1.1.0.now ≡ acted h (TakePacket rs first s))

  pub take_packet_tied : Ties 𝓤 take_packet.ended (take_packet.clauses 𝓛 mem run) TookAPacket
  take_packet_tied = record {
    told = λ κs a x e. (x ≡ took_of a.0 a.1.0 a.1.1.0.now a.1.1.1.0 a.1.1.1.1.0.now) × (e.1.1.0.now ≡ took_table a.0 a.1.0 a.1.1.0.now a.1.1.1.0 a.1.1.1.1.0.now);
    a_fact = λ κs a g x e. refl;
    does = λ κs a x e p. (ap (λ (y : Took). y.answer) p.0, ap (λ (y : Took). y.place) p.0, ap (λ (y : Took). y.records) p.0, λ j. with_both (p.0 j).conn (p.1 j));
  }

  -- tables::open(t, role, limits)
  abbrev pub WasOpened : Told opening.ended
  WasOpened κs a x e =
      let t = a.0.now in
      let role = a.1.0 in
      let o = a.1.1.0 in
      (x.answer ≡ (opening_when role (length t) o).answer) × (with_both x.conn e.0.now ≡ hosted role o t)

  pub open_tied : Ties 𝓤 opening.ended (opening.clauses 𝓛 mem run) WasOpened
  unfolding hosted
  open_tied = record {
    told = λ κs a x e. (x ≡ opening_when a.1.0 (length a.0.now) a.1.1.0) × (e.0.now ≡ opened_table a.1.0 a.0.now a.1.1.0);
    a_fact = λ κs a g x e. refl;
    does = λ κs a x e p. (ap (λ (y : Opened). y.answer) p.0, λ j. with_both (p.0 j).conn (p.1 j));
  }

  -- local::call(c, t, call)
  abbrev pub WasCalled : Told calling.ended
  WasCalled κs a x e =
      let h = with_both a.0 a.1.0.now in
      let k = a.1.1.0 in
      (x.answer ≡ answered h (Make k)) × (x.number ≡ number_given h (Make k)) × (with_both x.conn e.1.0.now ≡ acted h (Make k))

  pub call_tied : Ties 𝓤 calling.ended (calling.clauses 𝓛 mem run) WasCalled
  call_tied = record {
    told = λ κs a x e. (x ≡ called_at a.0 a.1.0.now a.1.1.0) × (e.1.0.now ≡ called_table a.0 a.1.0.now a.1.1.0);
    a_fact = λ κs a g x e. refl;
    does = λ κs a x e p. (ap (λ (y : Called). y.answer) p.0, ap (λ (y : Called). y.number) p.0, λ j. with_both (p.0 j).conn (p.1 j));
  }

-- local::hand_out(c, space), which is lent nothing
pub hand_out_tied : (κs : Lfts 0) (a : Dens κs hand_out.ps) (x : Called) (t : List Entry) (e : AtExit (ended_of 0 hand_out.ps hand_out.r) κs) → hand_out_reads.Post κs a x e
    → (x.answer ≡ answered (with_both a.0 t) (HandOut a.1.0)) × (x.number ≡ number_given (with_both a.0 t) (HandOut a.1.0)) × (with_both x.conn t ≡ acted (with_both a.0 t) (HandOut a.1.0))
hand_out_tied κs a x t e p = (ap (λ (y : Called). y.answer) p, ap (λ (y : Called). y.number) p, ap (λ (y : Called). with_both y.conn t) p)
