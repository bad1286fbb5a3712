-- The role of a connection is the one that opening named, over every history: no event looks at it, and each leaves it.
-- Assumes nothing.
use mathlib.Core.Path.{◌≡◌, refl, ◌∙◌}
use mathlib.Core.List.{List, [], ◌∷◌}
use Rattle.kinds.specs.declared.Role.{Role}
use Rattle.streams.specs.declared.Conn.{Conn}
use Rattle.streams.specs.declared.Limits.{Limits}
use Rattle.entries.specs.declared.Entry.{Entry}
use Rattle.rules.specs.declared.View.TheVariants.{Ends, Blocks, ForSender, Acks, Closes, Nothing}
use Rattle.verdicts.specs.Verdict.{conn_heard}
use Rattle.calls.specs.declared.Call.TheVariants.{RaiseCredit, RaiseStream, RaiseCount, OpenNext}
use Rattle.accounts.specs.History.{Event, conn_after, after, opened, state_of}
use Rattle.accounts.specs.History.Event.{Got, Did, Gave}

pub role_stays : (c : Conn) (e : Entry) (ev : Event) → (conn_after c e ev).role ≡ c.role
unfolding conn_after conn_heard
role_stays c e (Got (Ends id end fin)) = refl
role_stays c e (Got (Blocks id)) = refl
role_stays c e (Got (ForSender id)) = refl
role_stays c e (Got (Acks space largest)) = refl
role_stays c e (Got Closes) = refl
role_stays c e (Got Nothing) = refl
role_stays c e (Did (RaiseCredit new)) = refl
role_stays c e (Did (RaiseStream id new)) = refl
role_stays c e (Did (RaiseCount ty new)) = refl
role_stays c e (Did (OpenNext ty)) = refl
role_stays c e (Gave space) = refl

pub role_is : (role : Role) (o : Limits) (h : List Event) → (state_of role o h).conn.role ≡ role
unfolding state_of opened after
role_is role o [] = refl
role_is role o (ev ∷ h) = role_stays (state_of role o h).conn _ ev ∙ role_is role o h
