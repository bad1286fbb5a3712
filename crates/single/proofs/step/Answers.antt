-- `single::step` meets its contract: the entry that the frame looks at is taken out, judged and put back; one that is not there is judged as it would be found, and nothing is put back.
use mathlib.Core.Path.{◌≡◌, refl, sym, ap}
use mathlib.Core.List.{List}
use Prim.Native.Nat.{ℕ, ◌≤◌, ◌<◌}
use lib.ListN.{length, get_or, set}
use Rattle.std.proofs.lemmas.List.{get_or_default, get_or_past, set_past}
use Rattle.kinds.specs.declared.Kind.{Kind}
use Rattle.streams.specs.declared.Conn.{Conn}
use Rattle.entries.specs.declared.Entry.{Entry}
use Rattle.entries.specs.Entry.{fresh}
use Rattle.steps.specs.declared.Decided.{Decided}
use Rattle.steps.specs.declared.Request.{Request}
use Rattle.steps.specs.Step.{request_at, decided_of}
use Rattle.single.specs.Single.{decided_at, stepped_at, step_table}
use Rattle.single.proofs.step.Goals as goal

module _ (c : Conn) (t : List Entry) (s : List ℕ) (at : ℕ) (kind : Kind) {a : Request} (e : a ≡ request_at c.role s at kind) where
  -- an entry that is not there
  alone : length t ≤ a.place → {j : Decided} → j ≡ decided_of c (fresh 0) a → (j.stepped ≡ stepped_at c t s at kind) × (t ≡ step_table c t s at kind)
  unfolding decided_at
  alone l {j} h =
      let m = rw e at l in
      rw (h, e) (ap (λ (x : Entry). (decided_of c x (request_at c.role s at kind)).stepped) (sym (get_or_past t (request_at c.role s at kind).place (fresh 0) m)), sym (set_past t (request_at c.role s at kind).place _ m))

  -- one that is there
  there : a.place < length t → (d : Entry) {j : Decided} → j ≡ decided_of c (get_or t a.place d) a → (j.stepped ≡ stepped_at c t s at kind) × (set t a.place j.entry ≡ step_table c t s at kind)
  unfolding decided_at
  there l d h = rw (h, get_or_default t a.place d (fresh 0) l, e) (refl, refl)

pub returns-then-t-i : goal.returns-then-t-i
returns-then-t-i c = alone c.args.c c.args.t.now c.args.s.now c.args.at c.args.kind c.request-a.ensures c.if-t-i.true c.decide-alone.ensures

pub returns : goal.returns
returns c = there c.args.c c.args.t.now c.args.s.now c.args.at c.args.kind c.request-a.ensures c.if-t-i.false _ c.decide-j.ensures
