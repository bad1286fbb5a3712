-- What of the first byte is protected (RFC 9001, 5.4.1): the low four bits of a long header, and of a short one all that follow its two top bits but the spin bit.
use Rattle.std.specs.Prelude.{◌≡◌, ℕ, ◌/◌, ◌%◌}

-- two first bytes that differ only in bits which the splitter may not look at: the top two bits are the same, and of a long header the type too
pub record Alike (x y : ℕ) : Type 0 where
  pub top : x / 64 ≡ y / 64
  pub type : x / 128 % 2 ≡ 1 → x / 16 ≡ y / 16
