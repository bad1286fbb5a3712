-- What the parts of the writer do: the ranges below a run, and all numbers of the frame, in the front of a lent array.
use Rattle.std.specs.Prelude.{◌≡◌, Bool, false, List, ◌++◌, ℕ, ◌+◌, ◌-◌, ◌*◌, ◌≤◌, ◌<◌, length, take}
use Rattle.ring.specs.Runs.{runs_down}
use Rattle.acks.specs.Ack.{ranges_of, frame_of}

-- a number down to which a run of P goes: the one below it is not in P
pub record Below (P : ℕ → Bool) (low : ℕ) : Type 0 where
  pub stop : 0 < low → P (low - 1) ≡ false

-- n numbers in the array `numbers`: the first five of `start`, and the ranges of the runs of P below low
pub record Ranged (P : ℕ → Bool) (low : ℕ) (start : List ℕ) (n : ℕ) (numbers : List ℕ) : Type 0 where
  pub long : length numbers ≡ 67
  pub count : n ≡ 5 + 2 * length (runs_down 31 P low)
  pub most : n ≤ 67
  pub holds : take n numbers ≡ take 5 start ++ ranges_of low (runs_down 31 P low)

-- n numbers in the array `numbers`: the frame of the runs of P below top
pub record Framed (P : ℕ → Bool) (top delay n : ℕ) (numbers : List ℕ) : Type 0 where
  pub long : length numbers ≡ 67
  pub most : n ≤ 67
  pub holds : take n numbers ≡ frame_of delay (runs_down 32 P top)
