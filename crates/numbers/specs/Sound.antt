-- What holds of every number that was recovered, of every length that is given, and where there is none.
use Rattle.std.specs.Prelude.{◌≡◌, ℕ, ◌*◌, ◌%◌, ◌^◌, ◌≤◌, ◌<◌, true, false, ℤ, pos, negsuc, ◌-ℤ◌}
use Rattle.std.specs.Int.Signed.{lt_z}
use Rattle.numbers.specs.declared.Size.{Size}
use Rattle.numbers.specs.Numbers.{bytes_in, window_of}

-- a number n that was recovered from t: it is in range, and its truncated bits are those of t
pub record Sound (size : Size) (t n : ℕ) : Type 0 where
  pub low : n < 2 ^ 62
  pub agrees : n % window_of size ≡ t % window_of size

-- a size that is given for pn: with the distance d = pn - acked, which is above 0, twice d is at most 256^n for its n and for no smaller one
pub record Enough (pn : ℕ) (acked : ℤ) (size : Size) : Type 0 where
  pub low : pn < 2 ^ 62
  pub d : ℕ
  pub distance : pos pn -ℤ acked ≡ pos d
  pub above : 0 < d
  pub enough : 2 * d ≤ window_of size
  pub least : (n : ℕ) → n < bytes_in size → 256 ^ n < 2 * d

-- why there is no length for pn: docs/RULES.md, "Packet numbers": "103 if there is none, pn is above 2^62-1, or acked is below -1 or not below pn"
pub data NoLength (pn : ℕ) (acked : ℤ) : Type 0 where
  TooFar : (d : ℕ) → pos pn -ℤ acked ≡ pos d → 256 ^ 4 < 2 * d → NoLength pn acked
  AboveRange : 2 ^ 62 ≤ pn → NoLength pn acked
  BelowNone : lt_z acked (negsuc 0) ≡ true → NoLength pn acked
  NotBelow : lt_z acked (pos pn) ≡ false → NoLength pn acked
