-- What holds of every number that was read: it is below 2^62, and the place after it is above its own and within the bytes.
use Rattle.std.specs.Prelude.{◌≡◌, ℕ, ◌+◌, ◌^◌, ◌≤◌, ◌<◌, List, length}

pub record Sound (s : List ℕ) (at v next : ℕ) : Type 0 where
  pub low : v < 2 ^ 62
  pub above : at < next
  pub within : next ≤ length s

-- what holds of every field of k bytes with the value x that was read as v, up to next
pub record Found (s : List ℕ) (at k x v next : ℕ) : Type 0 where
  pub value : v ≡ x
  pub ends : next ≡ at + k
  pub within : at + k ≤ length s
