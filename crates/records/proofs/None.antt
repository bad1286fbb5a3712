-- The record of a space of which nothing came: it can be, and nothing is recorded in it.
-- Assumes nothing.
use Prim.Native.Nat.{ℕ, ◌/◌, ◌%◌}
use mathlib.Core.Path.{◌≡◌, sym, ◌∙◌, ap}
use mathlib.Core.Bool.{false}
use native.Mathlib.Omega.{arith}
use lib.ListN.{get_or-replicate}
use Rattle.answers.specs.declared.Answer.TheVariants.{Accepted}
use Rattle.ring.specs.Bits.{bit, bit_at}
use Rattle.records.specs.Marks.{recorded, none_of, check_of, Sound}
use Rattle.ring.proofs.Bits.{bit_zero}
use Rattle.records.proofs.Ring.{rec_above}
use Rattle.records.proofs.Sound.{fits}

none_sound : Sound none_of
unfolding none_of bit_at
none_sound = record {
  clean = λ m a b. ap (λ (x : ℕ). bit x (m % 64)) (get_or-replicate 128 (m / 64 % 128) 0 0 (omega arith)) ∙ bit_zero (m % 64);
  last = λ a. absurd (omega arith);
  small = omega arith;
}

pub none_fits : check_of none_of ≡ Accepted
none_fits = sym (fits none_of none_sound)

pub none_recorded : (m : ℕ) → recorded none_of m ≡ false
unfolding none_of
none_recorded m = rec_above none_of m (omega arith)
