-- What is done to a word and found in a ring, bit by bit.
use Rattle.std.specs.Prelude.{ℕ, ◌+◌, ◌-◌, ◌*◌, ◌/◌, ◌%◌, ◌^◌, ◌≤◌, ◌<◌, ◌≡◌, ◌&&◌, Bool, true, false, List, ltb, leb}
use Rattle.answers.specs.Choice.{◌⇒◌∣◌}
use Rattle.ring.specs.Bits.{bit, bit_at}

-- the word w without the bits from lo up to hi: what is above them and what is below; w itself where a word has no such bits
unfoldable pub without : ℕ → ℕ → ℕ → ℕ
without w lo hi =
    ltb lo hi && leb hi 64 ⇒ w / 2 ^ hi * 2 ^ hi + w % 2 ^ lo
    ∣ w

-- the same by its bits: r is the word w without the bits from lo up to hi
pub record Without (w lo hi r : ℕ) : Type 0 where
  pub out : (i : ℕ) → lo ≤ i → i < hi → bit r i ≡ 0
  pub low : (i : ℕ) → i < lo → bit r i ≡ bit w i
  pub high : (i : ℕ) → hi ≤ i → i < 64 → bit r i ≡ bit w i

-- r is the word w with the bit b
pub record Put (w b r : ℕ) : Type 0 where
  pub same : bit r b ≡ 1
  pub other : (i : ℕ) → (i ≡ b → ⊥) → bit r i ≡ bit w i

-- r is the word w with each bit the other way
abbrev pub Complement : ℕ → ℕ → Type 0
Complement w r = (i : ℕ) → i < 64 → bit r i ≡ 1 - bit w i

-- the word w has no bit from s on
abbrev pub Blank : ℕ → ℕ → Type 0
Blank w s = (i : ℕ) → s ≤ i → i < 64 → bit w i ≡ 0

-- no slot of the ring is marked from T on
abbrev pub Clean : List ℕ → ℕ → Type 0
Clean ws T = (m : ℕ) → T ≤ m → m < 8192 → bit_at ws m ≡ 0

-- a claim decided by a bool
pub record Decides (P : Type 0) (r : Bool) : Type 0 where
  pub holds : r ≡ true → P
  pub fails : r ≡ false → P → ⊥
