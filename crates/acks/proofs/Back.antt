-- The acknowledgement reads back, number after number, as the frame of the record's first 32 runs; and only the delay can be out of range.
-- Assumes nothing.
use mathlib.Core.Path.{◌≡◌, refl}
use mathlib.Core.Bool.{Bool, true, false, not}
use mathlib.Core.List.{List}
use Prim.Native.Nat.{ℕ, zero, suc, ◌-◌, ◌^◌, ◌≤◌}
use native.Mathlib.Omega.{arith}
use borrow.Author.Tests.{le-leb, not-false}
use lib.Dec.{eqb}
use lib.ListN.{length}
use Rattle.answers.specs.declared.Answer.TheVariants.{NothingToAcknowledge, DoesNotFit}
use Rattle.wire.specs.Writing.{writes}
use Rattle.wire.proofs.Writing.{past}
use Rattle.row.specs.Row.{in_range, row_draft, ReadAs}
use Rattle.row.proofs.Back as row
use Rattle.records.specs.declared.Record.{Record}
use Rattle.ring.specs.declared.Run.{Run}
use Rattle.records.specs.Marks.{recorded, sound_of}
use Rattle.ring.specs.Runs.{next_run, after_run, runs_down, RunOf}
use Rattle.ring.proofs.Meaning.{run_is}
use Rattle.records.proofs.Sound.{sound_facts}
use Rattle.acks.specs.Ack.{ranges_of, frame_of, ack_of, ack_draft}
use Rattle.std.specs.Prelude.{Option, Some, None, Result, Ok}
use Rattle.answers.specs.declared.Answer.{Answer}

-- what is accepted is the acknowledgement of a record that fits and is not empty, and it was written as a row of numbers
pub accepted : (R : Record) (delay : ℕ) (out : List ℕ) (at : ℕ) {r : Result ℕ Answer} {after : List ℕ} → (r, after) ≡ writes (ack_draft R delay) out at → {n : ℕ} → r ≡ Ok n
    → (sound_of R ≡ true) × (eqb R.top 0 ≡ false) × ((r, after) ≡ writes (row_draft (ack_of R delay)) out at)
unfolding ack_draft
accepted R delay out at e p =
    let f = past (not (sound_of R)) DoesNotFit _ out at e p in
    let g = past (eqb R.top 0) NothingToAcknowledge _ out at f.1 p in
    (not-false (sound_of R) f.0, g.0, g.1)

-- what is written reads back: type, largest, delay, count, first range, then a gap and a length for each further run
pub written : (R : Record) (delay : ℕ) (out : List ℕ) (at : ℕ) {r : Result ℕ Answer} {after : List ℕ} → (r, after) ≡ writes (ack_draft R delay) out at → {n : ℕ} → r ≡ Ok n
    → ReadAs after at (ack_of R delay) n
written R delay out at e p = row.written (ack_of R delay) out at (accepted R delay out at e p).2 p

-- the numbers of the ranges are no larger than the number above them
ranges_range : (P : ℕ → Bool) (j k : ℕ) → k ≤ 2 ^ 62 → in_range (ranges_of k (runs_down j P k)) ≡ true
unfolding runs_down ranges_of in_range after_run
ranges_range P zero k h = refl
ranges_range P (suc j) k h = go (ranges_range P j) (next_run P k) (run_is P k)
  where
    go : ((m : ℕ) → m ≤ 2 ^ 62 → in_range (ranges_of m (runs_down j P m)) ≡ true) → (r : Option Run) → RunOf P k r → in_range (ranges_of k (after_run r (runs_down j P))) ≡ true
    go below (Some r') r =
        rw (le-leb (k - r'.high - 2) (2 ^ 62 - 1) (omega (arith, r.below)), le-leb (r'.high - r'.low) (2 ^ 62 - 1) (omega (arith, r.below)), below r'.low (omega (arith, r.below, r.ordered)))
    go below None r = refl

-- no more runs than were asked for
few : (P : ℕ → Bool) (n k : ℕ) → length (runs_down n P k) ≤ n
unfolding runs_down after_run
few P zero k = omega arith
few P (suc n) k = go (few P n) (next_run P k)
  where
    go : ((m : ℕ) → length (runs_down n P m) ≤ n) → (r : Option Run) → length (after_run r (runs_down n P)) ≤ suc n
    go below (Some r) = omega (arith, below r.low)
    go below None = omega arith

-- of a record that fits, only a delay above 2^62-1 makes the frame unwritable: 109
pub only_delay : (R : Record) (delay : ℕ) → sound_of R ≡ true → delay ≤ 2 ^ 62 - 1 → in_range (ack_of R delay) ≡ true
unfolding ack_of frame_of in_range runs_down after_run
only_delay R delay s d = go (next_run (recorded R) R.top) (run_is (recorded R) R.top)
  where
    go : (r : Option Run) → RunOf (recorded R) R.top r → in_range (frame_of delay (after_run r (runs_down 31 (recorded R)))) ≡ true
    go (Some r') r =
        let t = (sound_facts R s).small in
        rw (
          le-leb r'.high (2 ^ 62 - 1) (omega (arith, r.below)),
          le-leb delay (2 ^ 62 - 1) d,
          le-leb (length (runs_down 31 (recorded R) r'.low)) (2 ^ 62 - 1) (omega (arith, few (recorded R) 31 r'.low)),
          le-leb (r'.high - r'.low) (2 ^ 62 - 1) (omega (arith, r.below)),
          ranges_range (recorded R) 31 r'.low (omega (arith, r.below, r.ordered)),
        )
    go None r = refl
