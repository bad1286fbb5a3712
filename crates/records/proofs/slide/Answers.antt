-- `records::slide` meets its contract: what is cleared are the slots of the numbers that are new in the window, and no slot of one that stays.
use native.Mathlib.Omega.{arith}
use native.Mathlib.Decide.{dec_le}
use mathlib.Core.Path.{◌≡◌}
use mathlib.Core.Logic.{◌⊎◌, inl, inr}
use Prim.Native.Nat.{ℕ, ◌+◌, ◌-◌, ◌≤◌, max}
use Rattle.records.proofs.Ring.{slide}
use Rattle.records.proofs.slide.Goals as goal

-- what is cleared begins at the top, or 8,191 below n
begins : (top n : ℕ) → (max top (n - 8191) ≡ top) ⊎ (max top (n - 8191) + 8191 ≡ n)
begins top n = go (dec_le (n - 8191) top)
  where
    go : Dec (n - 8191 ≤ top) → (max top (n - 8191) ≡ top) ⊎ (max top (n - 8191) + 8191 ≡ n)
    go (yes p) = inl (omega arith)
    go (no p) = inr (omega arith)

pub clear-requires : goal.clear-requires
clear-requires c = (omega arith, omega arith, omega arith, c.requires.1)

pub returns : goal.returns
returns c =
    let a = c.args in
    record {
      slid = slide a.seen.now a.n c.max-from.result _ (omega arith) (omega arith) (omega arith) (rw (c.max-from.ensures, c.saturating_sub.ensures) (begins a.seen.now.top a.n)) c.clear.ensures.cleared;
      whole = c.clear.ensures.whole;
    }
