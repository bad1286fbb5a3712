-- What the walk over frames rests on: a refused frame is refused with a code, and one after which the walk goes on ends above its place.
-- Assumes nothing.
use mathlib.Core.Path.{◌≡◌, refl}
use mathlib.Core.Bool.{true, false≢true}
use mathlib.Core.List.{List}
use Prim.Native.Nat.{ℕ, ◌<◌}
use Rattle.kinds.specs.declared.Kind.{Kind}
use Rattle.frames.specs.declared.Reading.{Reading}
use Rattle.frames.specs.Reading.{frame_at}
use Rattle.frames.proofs.Sound.{sound}
use Rattle.streams.specs.declared.Conn.{Conn}
use Rattle.entries.specs.declared.Entry.{Entry}
use Rattle.entries.specs.Entry.{entry_at}
use Rattle.verdicts.specs.Verdict.{settled_of, judged_of}
use Rattle.steps.specs.Step.{request_of, request_at, decided_of}
use Rattle.single.specs.Single.{decided_at, stepped_at}
use Rattle.std.specs.Prelude.{Result, Ok, Err}
use Rattle.fields.specs.declared.Refusal.{Refusal}
use Rattle.streams.specs.Conn.{is_open}

-- a frame after which the connection is open was read, and ends above its place
pub steps_on : (c : Conn) (t : List Entry) (s : List ℕ) (at : ℕ) (kind : Kind) → is_open (stepped_at c t s at kind).conn.mark ≡ true → at < (stepped_at c t s at kind).next
unfolding decided_at request_at request_of decided_of judged_of settled_of
steps_on c t s at kind = go (frame_at c.role s at kind) refl
  where
    go : (r : Result Reading Refusal) → frame_at c.role s at kind ≡ r → is_open (decided_of c (entry_at t (request_of c.role kind at r).place) (request_of c.role kind at r)).stepped.conn.mark ≡ true → at < (decided_of c (entry_at t (request_of c.role kind at r).place) (request_of c.role kind at r)).stepped.next
    go (Ok r) e p = (sound c.role s at kind e).above
    go (Err r) e p = absurd (false≢true p)
