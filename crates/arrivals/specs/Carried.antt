-- A truncated number where a host meets it: a packet that carries the low n bytes of its number is begun with exactly that number, whatever else its receiver has recorded.
use Rattle.std.specs.Prelude.{ℕ, ◌≤◌, ◌<◌, ◌≡◌, true, false, List, ◌++◌, length, ℤ, Some, Ok}
use Rattle.answers.specs.Answers.{accepts}
use Rattle.answers.specs.declared.Answer.TheVariants.{Accepted}
use Rattle.wire.specs.Number.{spelled}
use Rattle.kinds.specs.declared.Kind.{Kind}
use Rattle.kinds.specs.Kinds.{space_of}
use Rattle.numbers.specs.Numbers.{bytes_in, length_of}
use Rattle.headers.specs.First.{header_of, size_in, reserved_of}
use Rattle.records.specs.Marks.{test_of}
use Rattle.streams.specs.declared.Conn.{Conn}
use Rattle.streams.specs.Conn.{is_open}
use Rattle.spaces.specs.declared.Records.{Records}
use Rattle.spaces.specs.Spaces.{record_of, records_fit}
use Rattle.packets.specs.Begin.{begin_of}
use Rattle.arrivals.specs.Expected.{OneAbove}
use Rattle.arrivals.specs.Trusted.{Receiver}

-- the number pn goes in a packet of this kind, and its receiver stands where it may
pub record Sent (pn : ℕ) (acked : ℤ) (rs : Records) (first : ℕ) (kind : Kind) : Type 0 where
  pub of_kind : header_of first ≡ Some kind
  -- the first byte names as many bytes as are to be sent
  pub length_is : length_of pn acked ≡ Ok (size_in first)
  -- of the record of its space the largest number alone is asked; the others may be any
  pub E : ℕ
  pub one_above : OneAbove (record_of rs (space_of kind)) E
  pub receiver : Receiver pn acked (size_in first) E

-- "then the number's bytes and the payload": the low n bytes of pn, big-endian
abbrev pub carrying : ℕ → ℕ → List ℕ → List ℕ
carrying pn first payload = spelled (bytes_in (size_in first)) pn ++ payload

-- how such a packet is begun
pub record BegunAs (pn : ℕ) (c : Conn) (rs : Records) (first : ℕ) (kind : Kind) (payload : List ℕ) : Type 0 where
  -- with exactly that number, and its frames right behind it, where none of the later checks refuses it
  pub begun : test_of (record_of rs (space_of kind)) pn ≡ Accepted → reserved_of first ≡ false → 0 < length payload
      → begin_of c rs true first (carrying pn first payload) ≡ record { answer = Accepted; conn = c; kind = kind; at = bytes_in (size_in first); number = pn }
  -- 106 and 107 are said of that number
  pub not_new : accepts (test_of (record_of rs (space_of kind)) pn) ≡ false → (begin_of c rs true first (carrying pn first payload)).answer ≡ test_of (record_of rs (space_of kind)) pn
  -- and no packet with these bytes is begun with another
  pub no_other : (begin_of c rs true first (carrying pn first payload)).answer ≡ Accepted → (begin_of c rs true first (carrying pn first payload)).number ≡ pn

pub record OnBytes : Type 0 where
  pub begun_as : (pn : ℕ) (acked : ℤ) (c : Conn) (rs : Records) (first : ℕ) (kind : Kind) (payload : List ℕ) → is_open c.mark ≡ true → records_fit rs ≡ true → Sent pn acked rs first kind → BegunAs pn c rs first kind payload
  -- for a receiver that is behind, the number is new: neither 106 nor 107
  pub new_behind : (pn : ℕ) (acked : ℤ) (rs : Records) (first : ℕ) (kind : Kind) → records_fit rs ≡ true → (sent : Sent pn acked rs first kind) → sent.E ≤ pn → test_of (record_of rs (space_of kind)) pn ≡ Accepted
