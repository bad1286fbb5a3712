-- What each call leaves of the closing mark, of every host. A refused frame or packet closes with code and type (demand 1); here the others: only CONNECTION_CLOSE closes "by peer", no local call and no number handed out touches the mark, and what is closed stays as it was closed.
use Rattle.std.specs.Prelude.{ℕ, ◌≡◌, true, false, List, length}
use Rattle.answers.specs.Answers.{accepts}
use Rattle.frames.specs.declared.Frame.{Frame}
use Rattle.kinds.specs.declared.Kind.{Kind}
use Rattle.frames.specs.Reading.{frame_at}
use Rattle.kinds.specs.declared.Space.{Space}
use Rattle.streams.specs.Conn.{is_open}
use Rattle.views.specs.View.{view_of}
use Rattle.calls.specs.declared.Call.{Call}
use Rattle.accounts.specs.History.{State}
use Rattle.accounts.specs.History.Event.{Got as Heard}
use Rattle.accounts.specs.Advertised.{marks}
use Rattle.demands.specs.Hosts.{Act, answered, acted, number_given}
use Rattle.demands.specs.Hosts.Act.{TakeFrame, Make, HandOut}
use Rattle.frames.specs.Fields.{read_as}

pub record Marked (h : State) : Type 0 where
  -- "CONNECTION_CLOSE is accepted [..] and closes "by peer"": an accepted frame leaves the mark as the history has it
  pub frame : (s : List ℕ) (at : ℕ) (kind : Kind) (frame : Frame) (ty next : ℕ) → frame_at h.conn.role s at kind ≡ read_as frame ty next → accepts (answered h (TakeFrame s at kind)) ≡ true
      → (acted h (TakeFrame s at kind)).conn.mark ≡ marks (Heard (view_of h.conn.role kind frame)) h.conn.mark
  pub call : (call : Call) → (acted h (Make call)).conn.mark ≡ h.conn.mark
  pub number : (space : Space) → (acted h (HandOut space)).conn.mark ≡ h.conn.mark
  -- 101 leaves "nothing changed"
  pub stays_closed : is_open h.conn.mark ≡ false → (x : Act) → (acted h x).conn.mark ≡ h.conn.mark
  -- a refused call hands out no number
  pub no_number : (x : Act) → accepts (answered h x) ≡ false → number_given h x ≡ 0

-- its connection has four numbers of what is open, as the type says
abbrev pub MarkLeft : Type 0
MarkLeft = (h : State) → length h.conn.opened ≡ 4 → Marked h
