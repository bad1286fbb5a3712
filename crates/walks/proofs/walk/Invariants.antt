use mathlib.Core.Path.{◌≡◌}
use Prim.Native.Nat.{ℕ, ◌+◌, ◌-◌, ◌≤◌}
use lib.ListN.{length}
use Rattle.walks.proofs.Padding.{reached}
use Rattle.walks.proofs.walk.Given as goal

-- what is left from here, with enough steps for it, is what was asked at the start
abbrev pub invariant-walk : goal.invariant-walk
invariant-walk l = (k : ℕ) × (length l.s ≤ k + l.at) × (reached k l.conn l.t l.s l.at l.kind ≡ reached (length l.s - l.fn.from) l.fn.c l.fn.t l.s l.fn.from l.kind)

abbrev pub decreases-walk : goal.decreases-walk
decreases-walk l = length l.s - l.at
