-- What the mirror asks of two payloads can be met: bytes that name no stream are their own like, whatever they are; and a frame of each type that names one has its like in the bytes with another ID.
use Rattle.std.specs.Prelude.{ℕ, ◌/◌, ◌≡◌, Bool, false, ◌||◌, List, [], ◌∷◌, eqb, Ok}
use Rattle.kinds.specs.declared.Kind.{Kind}
use Rattle.kinds.specs.declared.Kind.TheVariants.{OneRtt}
use Rattle.kinds.specs.declared.Role.{Role}
use Rattle.kinds.specs.declared.Role.TheVariants.{Server, Client}
use Rattle.fields.specs.Heads.{head_at}
use Rattle.admission.specs.Admission.{admitted}
use Rattle.halves.specs.Seat.{other_of}
use Rattle.seats.specs.Mirror.{Exchanged}

-- STREAM, RESET_STREAM, STOP_SENDING, MAX_STREAM_DATA and STREAM_DATA_BLOCKED
unfoldable pub names_stream : ℕ → Bool
names_stream ty = eqb (ty / 8) 1 || (eqb ty 0x04 || (eqb ty 0x05 || (eqb ty 0x11 || eqb ty 0x15)))

-- one payload at both ends
abbrev pub Itself : Type 0
Itself = (role : Role) (s : List ℕ) (at : ℕ) (kind : Kind)
    → ((ty next : ℕ) → head_at s at ≡ Ok (ty, next) → (names_stream ty ≡ false) × (admitted (other_of role) kind ty ≡ admitted role kind ty))
    → Exchanged role s s at kind

pub record Pairs : Type 0 where
  -- stream 4 at a server, 5 at a client; an ID of two bytes; the other way round
  pub stream : Exchanged Server (0x0e ∷ 4 ∷ 5 ∷ 2 ∷ 9 ∷ 9 ∷ []) (0x0e ∷ 5 ∷ 5 ∷ 2 ∷ 9 ∷ 9 ∷ []) 0 OneRtt
  pub stream_long : Exchanged Server (0x0a ∷ 0x40 ∷ 0xfe ∷ 1 ∷ 9 ∷ []) (0x0a ∷ 0x40 ∷ 0xff ∷ 1 ∷ 9 ∷ []) 0 OneRtt
  pub stream_back : Exchanged Client (0x09 ∷ 3 ∷ 9 ∷ []) (0x09 ∷ 2 ∷ 9 ∷ []) 0 OneRtt
  pub reset : Exchanged Server (0x04 ∷ 1 ∷ 7 ∷ 9 ∷ []) (0x04 ∷ 0 ∷ 7 ∷ 9 ∷ []) 0 OneRtt
  pub stop : Exchanged Client (0x05 ∷ 0 ∷ 7 ∷ []) (0x05 ∷ 1 ∷ 7 ∷ []) 0 OneRtt
  pub allow : Exchanged Server (0x11 ∷ 2 ∷ 7 ∷ []) (0x11 ∷ 3 ∷ 7 ∷ []) 0 OneRtt
  pub blocked : Exchanged Server (0x15 ∷ 8 ∷ 7 ∷ []) (0x15 ∷ 9 ∷ 7 ∷ []) 0 OneRtt
  -- at a place inside; cut short at both ends, 7 at both
  pub inside : Exchanged Server (1 ∷ 0x05 ∷ 4 ∷ 7 ∷ []) (1 ∷ 0x05 ∷ 5 ∷ 7 ∷ []) 1 OneRtt
  pub torn : Exchanged Server (0x04 ∷ 1 ∷ 7 ∷ []) (0x04 ∷ 0 ∷ 7 ∷ []) 0 OneRtt
