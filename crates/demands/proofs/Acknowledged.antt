-- The acknowledgement reads back as the ACK of exactly the record's runs: between two runs a number is missing, so that every gap and length gives back the run that it was taken from.
-- Assumes nothing.
use Prim.Native.Nat.{ℕ, zero, suc, ◌+◌, ◌-◌, ◌≤◌, ◌<◌}
use mathlib.Core.Path.{◌≡◌, refl, sym, ◌∙◌, ap, subst}
use mathlib.Core.Bool.{Bool, true, false, true≢false}
use mathlib.Core.List.{List, [], ◌∷◌}
use native.Mathlib.Omega.{arith}
use native.Mathlib.Nat.{add_assoc}
use borrow.Author.Tests.{le-ltb, eq-eqb, ne_eqb, eqb-false}
use lib.ListN.{length}
use Rattle.wire.specs.Number.{number_at, form_of, size_of, shortest, Stands}
use Rattle.wire.specs.Writing.{writes}
use Rattle.row.specs.Row.{in_range, size_all, bytes_all, row_draft, ReadAs}
use Rattle.row.proofs.Back as row
use Rattle.ranges.specs.Ranges.{range_at, ranges_at}
use Rattle.ranges.specs.Walk.{first_of, step_of}
use Rattle.ranges.proofs.Steps.{below_spans}
use Rattle.layouts.specs.Layout.{layouts, layout_of, known}
use Rattle.layouts.specs.Body.{optional_at, numbers_at, ranged_at}
use Rattle.fields.specs.Faults.{fault_of}
use Rattle.fields.specs.Parts.{ended_at, parts_at}
use Rattle.frames.specs.Fields.{frame_of, fields_at}
use Rattle.frames.specs.declared.Frame.TheVariants.{Ack}
use Rattle.frames.proofs.Order.{fields_last}
use Rattle.records.specs.declared.Record.{Record}
use Rattle.ring.specs.declared.Run.{Run}
use Rattle.records.specs.Marks.{recorded, sound_of}
use Rattle.ring.specs.Runs.{run_of, next_run, after_run, runs_down, RunOf}
use Rattle.ring.proofs.Meaning.{run_is, apart}
use Rattle.records.proofs.Ring.{rec_in}
use Rattle.records.proofs.Sound.{sound_facts}
use Rattle.acks.specs.Ack as acks
use Rattle.acks.proofs.Back as ack
use Rattle.demands.specs.Acknowledged.{found, Acknowledges, ReadsBack}
use Rattle.std.specs.Prelude.{Option, Some, None, Ok}
use Rattle.ranges.specs.Ranges.{spans}
use Rattle.frames.specs.Fields.{read_as}

-- runs below low, each from its highest number down, and a number missing above each
abbrev Apart : ℕ → List Run → Type 0
Apart low [] = Unit
Apart low (x ∷ runs) = (x.high + 2 ≤ low) × (x.low ≤ x.high) × Apart x.low runs

-- the runs below the end of a run are such
runs_apart : (P : ℕ → Bool) (j low : ℕ) → (0 < low → P (low - 1) ≡ false) → Apart low (runs_down j P low)
unfolding runs_down after_run
runs_apart P zero low h = tt
runs_apart P (suc j) low h = go (runs_apart P j) (next_run P low) (run_is P low)
  where
    go : ((k : ℕ) → (0 < k → P (k - 1) ≡ false) → Apart k (runs_down j P k)) → (r : Option Run) → RunOf P low r → Apart low (after_run r (runs_down j P))
    go below (Some r') r = let p : 0 < low = omega (arith, r.below) in (apart P low r'.high r'.low p (h p) r, r.ordered, below r'.low r.stop)
    go below None r = tt

-- one range: its gap and its length give back its run
range_back : (s : List ℕ) (at low high least : ℕ) {p next : ℕ} → high + 2 ≤ low → least ≤ high → number_at s at ≡ Some (low - high - 2, p) → number_at s p ≡ Some (high - least, next)
    → range_at s at low ≡ spans high least next
unfolding range_at
range_back s at low high least {p} {next} a b e f =
    let i : low - (low - high - 2) - 2 ≡ high = omega arith in
    let j : high - (high - least) ≡ least = omega arith in
    rw (e, f, below_spans low (low - high - 2) (high - least) next (omega arith), i, j)

-- the ranges of such runs are read
ranges_back : (s : List ℕ) (n low at : ℕ) (runs : List Run) → Apart low runs → ReadAs s at (acks.ranges_of low runs) n → ranges_at s (length runs) at low ≡ Some n
unfolding acks.ranges_of ranges_at
ranges_back s n low at [] a r = ap Some r
ranges_back s n low at (x ∷ runs) a r = rw (range_back s at low x.high x.low a.0 a.1 r.1 r.2.1) (ranges_back s n x.low r.2.0 runs a.2 r.2.2)

-- and the walk finds just these runs
walk_back : (s : List ℕ) (n low at : ℕ) (runs : List Run) → Apart low runs → ReadAs s at (acks.ranges_of low runs) n → (k : ℕ) → length runs ≤ k
    → found s k (step_of s (record { low = low; at = at; left = length runs })) ≡ runs
unfolding acks.ranges_of found step_of
walk_back s n low at [] a r zero h = refl
walk_back s n low at [] a r (suc k) h = refl
walk_back s n low at (x ∷ runs) a r zero h = absurd (omega arith)
walk_back s n low at (x ∷ runs) a r (suc k) h =
    let e : suc (length runs) - 1 ≡ length runs = omega arith in
    rw (ne_eqb (suc (length runs)) 0 (omega arith), range_back s at low x.high x.low a.0 a.1 r.1 r.2.1, e)
    (ap (λ (l : List Run). x ∷ l) (walk_back s n x.low r.2.0 runs a.2 r.2.2 k (omega arith)))

-- the fields of an ACK: four numbers, the first range not below 0, and the further ranges after them
fields_back : (s : List ℕ) (at high delay count first : ℕ) (rest : List ℕ) (n : ℕ) (r : ReadAs s at (high ∷ delay ∷ count ∷ first ∷ rest) n) → first ≤ high
    → ranges_at s count r.2.2.2.0 (high - first) ≡ Some n → fields_at s at 2 ≡ read_as (Ack high delay count first r.2.2.2.0) 2 n
unfolding fields_at ended_at parts_at layout_of layouts numbers_at optional_at ranged_at fault_of frame_of
fields_back s at high delay count first rest n r h e = rw (r.1, r.2.1, r.2.2.1, r.2.2.2.1, le-ltb high first h, e)

-- a row that begins with 2 begins with the type of ACK in its shortest form, and the others are read after it
type_back : (s : List ℕ) (at : ℕ) (vs : List ℕ) → in_range (2 ∷ vs) ≡ true → Stands s at (bytes_all (2 ∷ vs)) → (number_at s at ≡ Some (2, at + 1)) × ReadAs s (at + 1) vs (at + size_all (2 ∷ vs))
unfolding size_of form_of size_all
type_back s at vs h st = let p = row.peel s at 2 vs h st in (p.0, subst (ReadAs s (at + 1) vs) (add_assoc at 1 (size_all vs)) (row.reads s vs (at + 1) p.1 p.2))

-- the walk from the frame's own fields: the first run, and those below it
first_back : (s : List ℕ) (n high low at : ℕ) (runs : List Run) → low ≤ high → Apart low runs → ReadAs s at (acks.ranges_of low runs) n
    → (k : ℕ) → length (run_of high low ∷ runs) ≤ k → found s k (first_of high (high - low) (length runs) at) ≡ run_of high low ∷ runs
unfolding found first_of
first_back s n high low at runs o a r zero h = absurd (omega arith)
first_back s n high low at runs o a r (suc k) h =
    let e : high - (high - low) ≡ low = omega arith in
    rw (le-ltb high (high - low) (omega arith), e) (ap (λ (l : List Run). run_of high low ∷ l) (walk_back s n low at runs a r k (omega arith)))

-- where the numbers of such runs stand, their ACK is read
frame_back : (s : List ℕ) (at delay high low : ℕ) (runs : List Run) (n : ℕ) → low ≤ high → Apart low runs → in_range (acks.frame_of delay (run_of high low ∷ runs)) ≡ true
    → Stands s at (bytes_all (acks.frame_of delay (run_of high low ∷ runs))) → n ≡ at + size_all (acks.frame_of delay (run_of high low ∷ runs))
    → Acknowledges s at n delay (run_of high low ∷ runs)
unfolding acks.frame_of shortest size_of form_of known
frame_back s at delay high low runs n o a h st e =
    let t = type_back s at (high ∷ delay ∷ length runs ∷ (high - low) ∷ acks.ranges_of low runs) h st in
    let r : ReadAs s (at + 1) (high ∷ delay ∷ length runs ∷ (high - low) ∷ acks.ranges_of low runs) n = rw e t.1 in
    let d : high - (high - low) ≡ low = omega arith in
    let p = r.2.2.2.0 in
    let b = r.2.2.2.2 in
    record {
      largest = high;
      first = high - low;
      count = length runs;
      place = p;
      reads = λ role kind m. fields_last role s at kind t.0 (eq-eqb (at + 1) (at + 1) refl) refl m ∙ fields_back s (at + 1) high delay (length runs) (high - low) (acks.ranges_of low runs) n r (omega arith) (rw d (ranges_back s n low p runs a b));
      counted = omega arith;
      walked = first_back s n high low p runs o a b;
    }

-- a record that fits and is not empty has its largest number recorded, so it has a run
some_run : (R : Record) → sound_of R ≡ true → (R.top ≡ 0 → ⊥) → RunOf (recorded R) R.top None → ⊥
some_run R s h f =
    true≢false (sym (rec_in R (R.top - 1) (omega arith) (omega arith) ∙ eq-eqb _ 1 ((sound_facts R s).last (omega arith))) ∙ f (R.top - 1) (omega arith))

-- a row of the record's runs that was written
runs_back : (R : Record) (delay : ℕ) (out : List ℕ) (at n : ℕ) (after : List ℕ) → sound_of R ≡ true → (R.top ≡ 0 → ⊥) → (Ok n, after) ≡ writes (row_draft (acks.ack_of R delay)) out at
    → Acknowledges after at n delay (runs_down 32 (recorded R) R.top)
unfolding acks.ack_of runs_down after_run
runs_back R delay out at n after s h e = go (next_run (recorded R) R.top) (run_is (recorded R) R.top) e
  where
    go : (r : Option Run) → RunOf (recorded R) R.top r → (Ok n, after) ≡ writes (row_draft (acks.frame_of delay (after_run r (runs_down 31 (recorded R))))) out at
        → Acknowledges after at n delay (after_run r (runs_down 31 (recorded R)))
    go (Some r') r e =
        let w = row.accepted _ out at e refl in
        frame_back _ at delay r'.high r'.low (runs_down 31 (recorded R) r'.low) n r.ordered (runs_apart (recorded R) 31 r'.low r.stop) w.0 w.1.stands (w.1.ends ∙ rw row.length_all)
    go None r e = absurd (some_run R s h r)

-- what was answered with a place is such a row: all else is a refusal
pub reads_back : ReadsBack
reads_back R delay out at n after e =
    let a = ack.accepted R delay out at e refl in
    runs_back R delay out at n after a.0 (eqb-false R.top 0 a.1) a.2
