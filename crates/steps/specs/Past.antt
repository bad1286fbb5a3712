-- Past PADDING: the first place from a place on that does not hold a zero byte, while the connection is open and the packet may carry PADDING.
use Rattle.std.specs.Prelude.{ℕ, zero, suc, ◌-◌, Bool, ◌&&◌, List, length, get_or, ltb, eqb}
use Rattle.answers.specs.Choice.{◌⇒◌∣◌}
use Rattle.kinds.specs.declared.Kind.{Kind}
use Rattle.kinds.specs.declared.Role.{Role}
use Rattle.admission.specs.Admission.{admitted}
use Rattle.streams.specs.declared.Mark.{Mark}
use Rattle.streams.specs.Conn.{is_open}

-- k bytes at most are passed
unfoldable pub past_of : List ℕ → ℕ → ℕ → ℕ
past_of s zero at = at
past_of s (suc k) at =
    (ltb at (length s) && eqb (get_or s at 0) 0) ⇒ past_of s k (suc at)
    ∣ at

unfoldable pub past_zeros : List ℕ → ℕ → ℕ
past_zeros s at = past_of s (length s - at) at

-- PADDING changes nothing, so that a walk on an open connection may pass it where the packet may carry it; else it stops at its first frame
unfoldable pub passable : Mark → Role → Kind → Bool
passable mark role kind = is_open mark && admitted role kind 0x00

unfoldable pub past_padding : Bool → List ℕ → ℕ → ℕ
past_padding may-pass s at =
    may-pass ⇒ past_zeros s at
    ∣ at
