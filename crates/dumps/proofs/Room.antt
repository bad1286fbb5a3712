-- An output as long as a text always suffices: each byte uses a character of its own, and no more are used than there are.
-- Assumes nothing.
use mathlib.Core.List.{List, [], ◌∷◌}
use Prim.Native.Nat.{ℕ, suc, ◌≤◌}
use native.Mathlib.Omega.{arith}
use lib.ListN.{length}
use mathlib.Core.Path.{◌≡◌}
use Rattle.std.specs.Prelude.{Option, Some, None}
use Rattle.dumps.proofs.Digits.{half_bound}
use Rattle.dumps.specs.Dump.{Reading, stepped, begun_of, read_of}
use Rattle.dumps.proofs.Characters.{begun_low, begun_none, by_step}

-- a reading of n characters: no more bytes than characters used, no more of these than there are, and what is left begun is a digit or nothing
pub record Bounded (n : ℕ) (r : Reading) : Type 0 where
  pub stored : length r.bytes ≤ r.used
  pub within : r.used ≤ n
  pub digit : begun_of r.half ≡ r.half

pub bounded : (half : Option ℕ) (s : List ℕ) → begun_of half ≡ half → Bounded (length s) (read_of half s)
unfolding read_of stepped
bounded half [] h = record { stored = omega arith; within = omega arith; digit = h }
bounded half (c ∷ s) h =
    by_step (λ x. Bounded (suc (length s)) (stepped x half (λ d. read_of d s))) half c
    (λ l d e f. let b = bounded None s begun_none in record { stored = omega arith; within = omega arith; digit = b.digit })
    (λ d e f. let b = bounded (Some d) s (begun_low (half_bound c f)) in record { stored = omega arith; within = omega arith; digit = b.digit })
    (λ e g. let b = bounded half s h in record { stored = omega arith; within = omega arith; digit = b.digit })
    record { stored = omega arith; within = omega arith; digit = h }
