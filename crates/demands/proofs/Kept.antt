-- A call that looks at no stream sets the first entry to itself, and a table with an entry set to itself is as it was.
-- Assumes nothing.
use mathlib.Core.Path.{◌≡◌, refl}
use mathlib.Core.Bool.{not}
use mathlib.Core.List.{List}
use Rattle.answers.specs.Answers.{accepts}
use Rattle.answers.proofs.Choice.{holds}
use Rattle.streams.specs.declared.Conn.{Conn}
use Rattle.entries.specs.declared.Entry.{Entry}
use Rattle.entries.specs.Entry.{entry_at}
use Rattle.streams.specs.Conn.{is_open}
use Rattle.limits.specs.Fits.{fits}
use Rattle.calls.specs.declared.Call.{Call}
use Rattle.calls.specs.declared.Call.TheVariants.{RaiseCredit, RaiseCount, OpenNext}
use Rattle.replies.specs.declared.Replied.{Replied}
use Rattle.calls.specs.Calls.{seated_call, reply_of}
use Rattle.replies.specs.Replies.{entry_called, settled_of, ruled_of, replied_of}
use Rattle.local.specs.Calling.{call_place, called_table}
use Rattle.demands.specs.Kept.{TableKept}
use Rattle.demands.proofs.Frames.{same_table}

module _ (c : Conn) (t : List Entry) where
  -- a call that leaves its entry leaves the table
  entry_kept : (call : Call) → entry_called (entry_at t (call_place c call)) (seated_call c.role call) ≡ entry_at t (call_place c call) → (replied_of c (entry_at t (call_place c call)) call).entry ≡ entry_at t (call_place c call)
  unfolding replied_of ruled_of settled_of
  entry_kept call e =
      holds (λ (r : Replied). r.entry ≡ entry_at t (call_place c call)) (not (is_open c.mark)) _ _ (λ g. refl) (λ g.
      holds (λ (r : Replied). r.entry ≡ entry_at t (call_place c call)) (accepts (reply_of c (entry_at t (call_place c call)) (seated_call c.role call))) _ _ (λ a. e) (λ a. refl))

  table_kept : (call : Call) → entry_called (entry_at t (call_place c call)) (seated_call c.role call) ≡ entry_at t (call_place c call) → called_table c t call ≡ t
  unfolding called_table
  table_kept call e = holds (λ (u : List Entry). u ≡ t) (fits c t) _ _ (λ f. rw (entry_kept call e) (same_table t (call_place c call))) (λ f. refl)

pub kept : (c : Conn) (t : List Entry) → TableKept c t
kept c t = record { raise_credit = λ new. table_kept c t (RaiseCredit new) refl; raise_count = λ ty new. table_kept c t (RaiseCount ty new) refl; open_next = λ ty. table_kept c t (OpenNext ty) refl }
