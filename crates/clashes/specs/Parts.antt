-- What the parts of the code ask: that a frame fits what is lent, as facts.
use Rattle.std.specs.Prelude.{ℕ, ◌+◌, ◌^◌, ◌≤◌, ◌<◌, ◌≡◌, List, length}

pub record Room (ring marks : List ℕ) (read held : ℕ) (s : List ℕ) (from len offset : ℕ) : Type 0 where
  pub bytes : length ring ≡ 4096
  pub words : length marks ≡ 64
  pub reach : held ≤ read + 4096
  pub fits : offset + len ≤ read + 4096
  pub there : from + len ≤ length s
  pub low : read < 2 ^ 62
