-- The numbers of the ranges, a run at a time: what stands in the front of the array and what is still to come make up all of them.
-- Assumes nothing.
use mathlib.Core.Path.{◌≡◌, refl, sym, ◌∙◌, subst}
use mathlib.Core.Bool.{Bool, false}
use mathlib.Core.List.{List, [], ◌∷◌, ◌++◌, append-nil, append_assoc}
use Prim.Native.Nat.{ℕ, zero, suc, ◌+◌, ◌-◌, ◌*◌, ◌/◌, ◌≤◌, ◌<◌}
use native.Mathlib.Numerals.{add-one, add-two}
use native.Mathlib.Omega.{arith}
use lib.ListN.{length, take, set, length-set}
use lib.Seq.{take-suc-set, take-set-lt}
use Rattle.ring.specs.Runs.{next_run, after_run, runs_down, IsRun, RunOf}
use Rattle.ring.proofs.Meaning.{run_is, apart}
use Rattle.acks.specs.Ack.{ranges_of, frame_of}
use Rattle.acks.specs.Parts.{Ranged, Framed}
use Rattle.std.specs.Prelude.{Some, None}
use Rattle.ring.specs.declared.Run.{Run}

-- the next run, as it is meant
pub is_run : (P : ℕ → Bool) (k : ℕ) {r : Run} → next_run P k ≡ Some r → IsRun P k r.high r.low
is_run P k e = subst (RunOf P k) e (run_is P k)

-- the next run and those below it
pub more : (P : ℕ → Bool) (j k : ℕ) {r : Run} → next_run P k ≡ Some r → runs_down (suc j) P k ≡ r ∷ runs_down j P r.low
unfolding runs_down after_run
more P j k e = rw e

pub none : (P : ℕ → Bool) (n k : ℕ) → next_run P k ≡ None → runs_down n P k ≡ []
unfolding runs_down after_run
none P zero k e = refl
none P (suc n) k e = rw e

-- where the writer stands with n numbers written and k runs left, below `bottom`
pub record Going (P : ℕ → Bool) (low : ℕ) (start numbers : List ℕ) (bottom n k : ℕ) : Type 0 where
  pub left : n + 2 * k ≡ 67
  pub from : 5 ≤ n
  pub long : length numbers ≡ 67
  pub stop : 0 < bottom → P (bottom - 1) ≡ false
  pub count : n + 2 * length (runs_down k P bottom) ≡ 5 + 2 * length (runs_down 31 P low)
  pub holds : take n numbers ++ ranges_of bottom (runs_down k P bottom) ≡ take 5 start ++ ranges_of low (runs_down 31 P low)

-- two stores at the end of the front
take_two : (l : List ℕ) (n a b : ℕ) → n + 1 < length l → take (n + 2) (set (set l n a) (n + 1) b) ≡ take n l ++ (a ∷ b ∷ [])
take_two l n a b h =
    rw (add-two, add-one)
    (take-suc-set (set l n a) (suc n) b (rw length-set (omega arith)) ∙ rw (take-suc-set l n a (omega arith), append_assoc))

module _ (P : ℕ → Bool) (low : ℕ) (start numbers : List ℕ) (bottom n : ℕ) where
  -- between two runs a number is missing, so the gap is not negative
  pub gap : {k : ℕ} {r : Run} → Going P low start numbers bottom n k → next_run P bottom ≡ Some r → (r.high + 2 ≤ bottom) × (r.low ≤ r.high)
  gap g e =
      let r = is_run P bottom e in
      let p : 0 < bottom = omega (arith, r.below) in
      (apart P bottom _ _ p (g.stop p) r, r.ordered)

  -- one run more
  pub turn : (k : ℕ) {r : Run} → n < 67 → Going P low start numbers bottom n k → next_run P bottom ≡ Some r
      → (j : ℕ) × Going P low start (set (set numbers n (bottom - r.high - 2)) (n + 1) (r.high - r.low)) r.low (n + 2) j
  unfolding ranges_of
  turn zero h g e = absurd (omega (arith, g.left))
  turn (suc j) {r} h g e =
      let m = more P j bottom e in (
        j,
        record {
          left = omega (arith, g.left);
          from = omega (arith, g.from);
          long = rw (length-set, length-set) g.long;
          stop = (is_run P bottom e).stop;
          count = omega (arith, rw m at g.count);
          holds = rw (take_two numbers n (bottom - r.high - 2) (r.high - r.low) (omega (arith, g.left, g.long)), append_assoc) (rw m at g.holds);
        },
      )

  -- no run is left
  pub ended : (k : ℕ) → Going P low start numbers bottom n k → runs_down k P bottom ≡ []
      → (n ≡ 5 + 2 * length (runs_down 31 P low)) × (take n numbers ≡ take 5 start ++ ranges_of low (runs_down 31 P low))
  unfolding ranges_of
  ended k g e = (omega (arith, rw e at g.count), sym (append-nil (take n numbers)) ∙ rw e at g.holds)

-- at the start
pub begin : (P : ℕ → Bool) (low : ℕ) (start : List ℕ) → length start ≡ 67 → (0 < low → P (low - 1) ≡ false) → Going P low start start low 5 31
begin P low start h s = record { left = refl; from = omega arith; long = h; stop = s; count = refl; holds = refl }

-- the five numbers before the ranges, of which the fourth is still to come
head : (l : List ℕ) (a b c e : ℕ) → length l ≡ 67 → (d : ℕ) × (take 5 (set (set (set (set l 0 a) 1 b) 2 c) 4 e) ≡ a ∷ b ∷ c ∷ d ∷ e ∷ [])
head (v ∷ w ∷ x ∷ d ∷ z ∷ l) a b c e h = (d, refl)
head [] a b c e h = absurd (omega arith)
head (v ∷ []) a b c e h = absurd (omega arith)
head (v ∷ w ∷ []) a b c e h = absurd (omega arith)
head (v ∷ w ∷ x ∷ []) a b c e h = absurd (omega arith)
head (v ∷ w ∷ x ∷ d ∷ []) a b c e h = absurd (omega arith)

-- the whole frame: the count of ranges goes to its place among the first five
pub framed : (P : ℕ → Bool) (top delay : ℕ) (run : Run) (start numbers : List ℕ) (count : ℕ) → next_run P top ≡ Some run → length start ≡ 67
    → Ranged P run.low (set (set (set (set start 0 2) 1 run.high) 2 delay) 4 (run.high - run.low)) count numbers
    → Framed P top delay count (set numbers 3 ((count - 5) / 2))
unfolding frame_of
framed P top delay run start numbers count e h r =
    let d = head start 2 run.high delay (run.high - run.low) h in
    let half : (count - 5) / 2 ≡ length (runs_down 31 P run.low) = omega (arith, r.count) in
    record {
      long = rw length-set r.long;
      most = r.most;
      holds = rw (take-set-lt count numbers 3 ((count - 5) / 2) (omega (arith, r.count)), r.holds, d.1, more P 31 top e, half);
    }
