-- What recovery means, with none of A.3's steps: of all packet numbers that agree with the truncated bits, the one nearest to E, the higher one at a tie.
use Rattle.std.specs.Prelude.{◌≡◌, ℕ, ◌+◌, ◌-◌, ◌≤◌}
use Rattle.numbers.specs.declared.Size.{Size}
use Rattle.numbers.specs.Sound.{Sound}

-- how far apart two numbers are: one of the two differences is 0
abbrev pub between : ℕ → ℕ → ℕ
between a b = (a - b) + (b - a)

-- n is the nearest to E of the numbers that t can stand for
pub record Nearest (E : ℕ) (size : Size) (t n : ℕ) : Type 0 where
  pub among : Sound size t n
  pub nearest : (m : ℕ) → Sound size t m → between n E ≤ between m E
  pub higher : (m : ℕ) → Sound size t m → between n E ≡ between m E → m ≤ n
