-- Numbers on the wire, RFC 9000 section 16: the top two bits of the first byte give 1, 2, 4 or 8 bytes; the rest is the value, big-endian.
use Rattle.std.specs.Prelude.{◌≡◌, ℕ, zero, suc, ◌+◌, ◌*◌, ◌-◌, ◌/◌, ◌%◌, ◌^◌, ◌≤◌, ◌<◌, List, [], ◌∷◌, ◌++◌, length, get_or, ltb, eqb, Bool, Option, Some, None}
use Rattle.answers.specs.Choice.{◌⇒◌∣◌}

-- the value of k bytes at a place, the highest first
unfoldable pub big_endian : List ℕ → ℕ → ℕ → ℕ
big_endian s at zero = 0
big_endian s at (suc k) = big_endian s at k * 256 + get_or s (at + k) 0

-- a field of k bytes at a place with the value x: x and the place after it, if so many bytes are there
unfoldable pub field_at : List ℕ → ℕ → ℕ → ℕ → Option (ℕ × ℕ)
field_at s at k x =
    ltb (length s) (at + k) ⇒ None
    ∣ Some (x, at + k)

-- a plain field of k bytes: all of its bits are the value
abbrev pub plain_at : List ℕ → ℕ → ℕ → Option (ℕ × ℕ)
plain_at s at k = field_at s at k (big_endian s at k)

-- how many values a form of k bytes has: all of its bits but two
unfoldable pub values_in : ℕ → ℕ
values_in k = 2 ^ (8 * k - 2)

-- a number in a form of k bytes: all of its bits but the top two are the value
abbrev pub form_at : List ℕ → ℕ → ℕ → Option (ℕ × ℕ)
form_at s at k = field_at s at k (big_endian s at k % values_in k)

-- the number at a place
unfoldable pub number_at : List ℕ → ℕ → Option (ℕ × ℕ)
number_at s at = form_at s at (2 ^ (get_or s at 0 / 64 % 4))

-- goes on with a value and the place after it, or with x where the bytes end before
abbrev pub with_number : {X : Type 0} → Option (ℕ × ℕ) → X → (ℕ → ℕ → X) → X
with_number (Some (v, n)) x k = k v n
with_number None x k = x

-- the last k bytes of x, the highest first
unfoldable pub spelled : ℕ → ℕ → List ℕ
spelled zero x = []
spelled (suc k) x = spelled k (x / 256) ++ (x % 256 ∷ [])

-- the top two bits of the shortest form of v: the first form that holds it
unfoldable pub form_of : ℕ → ℕ
form_of v =
    ltb v (2 ^ 6) ⇒ 0
    ∣ ltb v (2 ^ 14) ⇒ 1
    ∣ ltb v (2 ^ 30) ⇒ 2
    ∣ 3

-- how many bytes the shortest form of v has
unfoldable pub size_of : ℕ → ℕ
size_of v = 2 ^ form_of v

-- the shortest form of v
unfoldable pub bytes_of : ℕ → List ℕ
bytes_of v = spelled (size_of v) (form_of v * values_in (size_of v) + v)

-- whether a number v that was read from a place up to the next stands there in its shortest form: what a reader gives is enough to tell
unfoldable pub shortest : ℕ → ℕ → ℕ → Bool
shortest at v next = eqb next (at + size_of v)

-- the list l stands in s at a place
pub record Stands (s : List ℕ) (at : ℕ) (l : List ℕ) : Type 0 where
  pub ends : at + length l ≤ length s
  pub same : (i : ℕ) → i < length l → get_or s (at + i) 0 ≡ get_or l i 0
