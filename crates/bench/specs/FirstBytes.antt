-- What each of the 256 plain first bytes tells, in whole: the kind of its packet, the length of the packet's number, and whether reserved bits are set.
use Rattle.std.specs.Prelude.{ℕ, zero, suc, ◌≡◌, true, false, List, [], ◌∷◌, ◌++◌, map, replicate, Some, None}
use Rattle.kinds.specs.declared.Kind.TheVariants.{Initial, Handshake, ZeroRtt, OneRtt}
use Rattle.numbers.specs.declared.Size.TheVariants.{One, Two, Three, Four}
use Rattle.headers.specs.First.{header_of, size_in, reserved_of}
use Rattle.accounts.specs.History.{list_to}

-- a list n times over
unfoldable pub times : {A : Type 0} → ℕ → List A → List A
times zero l = []
times (suc n) l = l ++ times n l

abbrev pub bytes : List ℕ
bytes = list_to 256 (λ i. i)

pub record FirstBytes : Type 0 where
  -- "Retry, bit 0x40 clear" are none; top bit 0 is short, of 1-RTT; "Bits 0x30: 0 Initial, 1 0-RTT, 2 Handshake, 3 Retry"
  pub kinds : map header_of bytes
      ≡ replicate 64 None ++ (replicate 64 (Some OneRtt)
      ++ (replicate 64 None ++ (replicate 16 (Some Initial) ++ (replicate 16 (Some ZeroRtt) ++ (replicate 16 (Some Handshake) ++ replicate 16 None)))))
  -- "The low two bits of the plain first byte, plus one, give the length of the number"
  pub lengths : map size_in bytes ≡ times 64 (One ∷ Two ∷ Three ∷ Four ∷ [])
  -- "reserved bits not zero (0x0c long, 0x18 short)": of each 32 short first bytes the first 8 have none, of each 16 long ones the first 4
  pub reserved : map reserved_of bytes ≡ times 4 (replicate 8 false ++ replicate 24 true) ++ times 8 (replicate 4 false ++ replicate 12 true)
